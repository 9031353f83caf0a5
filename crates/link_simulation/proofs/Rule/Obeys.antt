-- A call in its turn does in the planned world what it does in the world.
use Rattle.link_simulation.proofs.Common.{common_steps, ◌≡◌, ℕ, ◌<◌, ◌≤◌, List, Some, subst, arith, IfSome, Ordering}
use Rattle.link_simulation.proofs.Common.{IsTotalOrder, Message, World, Completed, Course, goes, meets, preceded}
use Rattle.link_simulation.proofs.Common.{and_then, last_moment, act, enqueue_each, Call, call_limit}
use Rattle.link_simulation.proofs.Common.{call_limit_link, call_enqueue, call_advance, call_enqueue_all, call_next}
use Rattle.link_simulation.proofs.Common.{moment_of, Runs, IsInTurn, IsBeforeNext, Planned, next_event, Enqueues}
use Rattle.link_simulation.proofs.Common.{at_once, no_launch, launches, Obeys, EnqueuesEach, all_enqueued, one_stops}
use Rattle.link_simulation.proofs.Common.{enqueues_one, CoursesAlike, StandsFor, zip-append}
use Rattle.link_simulation.proofs.Simulation.Queue.{preceded_none}
use Rattle.link_simulation.proofs.Simulation.QuietInstants.{next_is_later}
use Rattle.link_simulation.proofs.Rule.NextEvent.{next_is_planned, advance_runs}
use Rattle.link_simulation.proofs.Rule.Limit.{limits_alike, links_alike, reaches}
use Rattle.link_simulation.proofs.Rule.Enqueue.{enqueues_alike}
use Rattle.link_simulation.proofs.Rule.AtOnce.{at_once_alike}

module _ {P : Type 0} (cmp : P → P → Ordering) (order : IsTotalOrder cmp) where
  -- what a call leads to in the world
  abbrev pub Follows : Planned P → World P → Call P → ℕ → Course (Completed P) (Planned P) → Type 0
  Follows p w call now course =
      (c : Course (Completed P) (World P)) × Runs cmp w call now c
      × CoursesAlike cmp (λ q v. StandsFor cmp q v × (v.moment ≡ now)) course c

  before_planned : (p : Planned P) (w : World P) (now : ℕ) → StandsFor cmp p w → IsBeforeNext cmp now w
      → IfSome (next_event p) (λ t. now < t)
  before_planned p w now stands before = before (next_event p) (next_is_planned cmp order p w stands)

  any_enqueue : {now : ℕ} {m : Message P} {p : Planned P} {course : Course (Completed P) (Planned P)}
      → Enqueues cmp now m p course → (w : World P) → StandsFor cmp p w
      → w.moment ≤ now → now ≤ last_moment → IfSome (next_event p) (λ t. now < t)
      → Follows p w (call_enqueue now m) now course
  any_enqueue {now = now} {m = m} {p = p} (at_once free) w stands le within before = grind (arith, at_once_alike)
  any_enqueue {now = now} {m = m} {p = p} {course = course} (no_launch limits launch) w stands le within before =
      enqueues_alike cmp order p w now m course stands limits le within before (no_launch limits launch)
  any_enqueue {now = now} {m = m} {p = p} {course = course} (launches limits launch finishes) w stands le within
      before =
      enqueues_alike cmp order p w now m course stands limits le within before (launches limits launch finishes)

  -- ---- messages one after another

  -- at a call's moment nothing ticks
  pub acts_at_once : (w : World P) (call : Call P) (now : ℕ) (c : Course (Completed P) (World P)) → w.moment ≡ now
      → Runs cmp w call now c → c ≡ act cmp w call
  acts_at_once w call now c at runs = grind arith

  abbrev StandsAt : ℕ → Planned P → World P → Type 0
  StandsAt now q v = StandsFor cmp q v × (v.moment ≡ now)

  alike_then : (now : ℕ) (cs : List (Completed P)) (q : Planned P) (rest : Course (Completed P) (Planned P))
      (c : Course (Completed P) (World P)) (next : World P → Course (Completed P) (World P))
      → CoursesAlike cmp (StandsAt now) (goes cs q) c
      → ((v : World P) → StandsAt now q v → CoursesAlike cmp (StandsAt now) rest (next v))
      → CoursesAlike cmp (StandsAt now) (preceded cs rest) (and_then c next)
  alike_then now cs q rest (goes ds v) next alike on = grind (arith, zip-append)
  alike_then now cs q rest (meets fault) next alike on = absurd alike

  later_than : (p : Planned P) (v : World P) (now : ℕ) → StandsFor cmp p v → v.moment ≡ now
      → IfSome (next_event p) (λ t. now < t)
  later_than p v now stands at =
      grind (arith, common_steps, (next_is_later cmp order v (next_event p) (next_is_planned cmp order p v stands)))

  -- after each message the next event comes later, so that each comes before it
  each_at_once : {now : ℕ} {ms : List (Message P)} {p : Planned P} {course : Course (Completed P) (Planned P)}
      → EnqueuesEach cmp now ms p course → now ≤ last_moment → (v : World P) → StandsAt now p v
      → CoursesAlike cmp (StandsAt now) course (enqueue_each cmp now v ms)
  each_at_once all_enqueued within v here = (tt, here)
  each_at_once {now = now} (one_stops {m = m} {ms = ms} {p = p} {fault = fault} one) within v here =
      let at = here.1 in
      let f = any_enqueue one v here.0 (omega arith) within (later_than p v now here.0 here.1) in
      grind (arith, (acts_at_once v (call_enqueue now m) now f.0 here.1 f.1))
  each_at_once {now = now} (enqueues_one {m = m} {ms = ms} {p = p} {q = q} {cs = cs} {rest = rest} one more) within v
      here =
      let f : Follows p v (call_enqueue now m) now (goes cs q) = grind (arith, any_enqueue, later_than) in
      alike_then now cs q rest _ _ (subst (λ (c : Course (Completed P) (World P)). CoursesAlike cmp (StandsAt now)
      (goes cs q) c) (acts_at_once v _ now f.0 here.1 f.1) f.2) (λ u there. each_at_once more within u there)

  all_enqueue : (now : ℕ) (ms : List (Message P)) (p : Planned P) (w : World P)
      (course : Course (Completed P) (Planned P)) → StandsFor cmp p w
      → w.moment ≤ now → now ≤ last_moment → IfSome (next_event p) (λ t. now < t) → EnqueuesEach cmp now ms p course
      → Follows p w (call_enqueue_all now ms) now course
  all_enqueue now ms p w course stands le within before each =
      let there = reaches cmp order now p w stands le within before in
      let at = there.follows.tallies.moment in
      let here : StandsFor cmp p there.world = grind arith in
      grind (arith, preceded_none, (each_at_once each within there.world (here, at)))

  pub obeys_alike : (p : Planned P) (w : World P) (call : Call P) (now : ℕ) (course : Course (Completed P) (Planned P))
      → StandsFor cmp p w → moment_of call ≡ Some now
      → now ≤ last_moment → IsInTurn cmp w call → Obeys cmp p call course → Follows p w call now course
  obeys_alike p w (call_limit t peer egress ingress) now course stands is within turn obeys =
      grind (arith, limits_alike, (before_planned p w t stands))
  obeys_alike p w (call_limit_link t origin recipient cap) now course stands is within turn obeys =
      grind (arith, links_alike, (before_planned p w t stands))
  obeys_alike p w (call_enqueue t m) now course stands is within turn obeys = grind (arith, any_enqueue, before_planned)
  obeys_alike p w (call_enqueue_all t ms) now course stands is within turn obeys =
      grind (arith, all_enqueue, (before_planned p w t stands))
  obeys_alike p w (call_advance t) now course stands is within turn obeys = grind (arith, advance_runs)
  obeys_alike p w call_next now course stands is within turn obeys = cc
