-- The empty planned world stands for the empty world, and new caps do in the planned world what they do in the world.
use Rattle.link_simulation.proofs.Common.{◌≡◌, ℕ, zero, suc, ◌+◌, ◌-◌, ◌<◌, ◌≤◌, List, [], ◌∷◌, length, true, false}
use Rattle.link_simulation.proofs.Common.{Option, refl, sym, ap, ◌∙◌, subst, arith, IfSome, list_any, AllZip, Ordering}
use Rattle.link_simulation.proofs.Common.{IsTotalOrder, Completed, Course, Flight, World, goes, is_done, last_moment}
use Rattle.link_simulation.proofs.Common.{meets, new_world, ready, EndsWith, Runs, act, call_limit, Call}
use Rattle.link_simulation.proofs.Common.{rebalance, limited_by, linked_by, call_limit_link, none_sending, some_sending}
use Rattle.link_simulation.proofs.Common.{Rebalances, Message, Caps, PairsAlike, CapsAlike, RatedFlight, Planned}
use Rattle.link_simulation.proofs.Common.{new_planned, next_event, AreFair, rate_of, CoursesAlike, Follows}
use Rattle.link_simulation.proofs.Common.{IsSameFlight, IsSettled, StandsFor, Tallies, Ticks, no_tick, leaving}
use Rattle.link_simulation.specs.Simulation.Messages.{AnswerAlike, with_cap, with_link}
use Rattle.link_simulation.proofs.Simulation.AlikeMessages.{same_itself, peers_alike}
use Rattle.link_simulation.proofs.Rule.BeforeNext.{later, follows_later, quiet_before, passes_to}
use Rattle.link_simulation.proofs.Rule.Settling.{settles_alike, looked, leaving_fewer, staying_waiting}
use Rattle.link_simulation.proofs.Rule.FinishEvent.{settle_quiet, ticks_quiet}
use Rattle.link_simulation.proofs.Rule.Waking.{each_none}
use Rattle.link_simulation.proofs.Rule.Advance.{woken_stands}
use Rattle.link_simulation.proofs.Simulation.NoneReadied.{settle_keeps_rest}
use Rattle.link_simulation.proofs.Simulation.Queue.{preceded_none}

pub no_sides : {P : Type 0} (cmp : P → P → Ordering) (caps : Caps P) → AreFair cmp caps [] 1 []
no_sides cmp caps = record {
  parts = λ flow. 0;
  fair = grind (arith, nothing_in);
  rated = refl;
}
  where
    nothing_in : {k : ℕ} → k < 0 → ⊥
    nothing_in h = omega arith

module _ {P : Type 0} (cmp : P → P → Ordering) (order : IsTotalOrder cmp) where
  -- the empty planned world stands for the empty world
  pub new_stands : (id : ℕ) → StandsFor cmp (new_planned id) (new_world id)
  new_stands id = grind (arith, no_sides)

  -- ---- new caps

  cap_alike : (f g : P → Option ℕ) (peer : P) (cap : Option ℕ) → AnswerAlike cmp f g
      → AnswerAlike cmp (with_cap cmp f peer cap) (with_cap cmp g peer cap)
  cap_alike f g peer cap same p q e = grind (arith, peers_alike, same_itself)

  link_alike : (f g : P → P → Option ℕ) (origin recipient : P) (cap : Option ℕ) → PairsAlike cmp f g
      → PairsAlike cmp (with_link cmp f origin recipient cap) (with_link cmp g origin recipient cap)
  link_alike f g origin recipient cap same p q r s e h = grind (arith, peers_alike, same_itself)

  -- the worlds under new caps
  abbrev pub rebalanced : World P → Caps P → World P
  rebalanced w caps = record w { caps = caps; limited = true }

  abbrev pub replanned : Planned P → Caps P → Planned P
  replanned p caps = record p { caps = caps; limited = true }

  recapped_tallies : (t : ℕ) (p : Planned P) (w : World P) (caps others : Caps P) → CapsAlike cmp caps others
      → Tallies cmp t p w → Tallies cmp t (replanned p caps) (rebalanced w others)
  recapped_tallies t p w caps others alike same = grind arith

  -- a moment before the next event is reached with nothing done and nothing ready
  pub record IsReached (now : ℕ) (p : Planned P) (w : World P) : Type 0 where
    pub world : World P
    pub ticks : Ticks cmp (now - w.moment) w (goes [] world)
    pub follows : Follows cmp now p world
    pub none_done : list_any (is_done cmp world) world.sending ≡ false
    pub none_ready : ready cmp now world ≡ []

  pub reaches : (now : ℕ) (p : Planned P) (w : World P) → StandsFor cmp p w → w.moment ≤ now → now ≤ last_moment
      → IfSome (next_event p) (λ t. now < t) → IsReached now p w
  reaches now p w stands le within before = by_count (now - w.moment) refl
    where
      by_count : (n : ℕ) → now - w.moment ≡ n → IsReached now p w
      by_count zero is =
          let same : w.moment ≡ now = omega arith in
          record {
            world = w;
            ticks = subst (λ (k : ℕ). Ticks cmp k w (goes [] w)) (sym is) no_tick;
            follows = subst (λ (s : ℕ). Follows cmp s p w) same stands.follows;
            none_done = stands.quiet.none_done;
            none_ready = ap (λ (s : ℕ). ready cmp s w) (sym same) ∙ stands.quiet.none_ready;
          }
      by_count (suc k) is =
          let same : w.moment + suc k ≡ now = omega arith in
          let still = subst (λ (s : ℕ). IfSome (next_event p) (λ t. s < t)) (sym same) before in
          let quiet = quiet_before cmp order p w stands (suc k) (omega arith) still in
          record {
            world = later cmp order p w stands (suc k);
            ticks =
                subst (λ (n : ℕ). Ticks cmp n w (goes [] (later cmp order p w stands (suc k)))) (sym is)
                (ticks_quiet cmp order (passes_to cmp order p w stands k (omega arith) still));
            follows =
                subst (λ (s : ℕ). Follows cmp s p (later cmp order p w stands (suc k))) same
                (follows_later cmp order p w stands (suc k));
            none_done = quiet.none_done;
            none_ready = ap (λ (s : ℕ). ready cmp s (later cmp order p w stands (suc k))) (sym same) ∙ quiet.none_ready;
          }

  -- a settling in which nothing was ready leaves a world at rest
  pub settled_rests : (now : ℕ) (x : Course (Completed P) (Planned P)) (c : Course (Completed P) (World P))
      → now ≤ last_moment → CoursesAlike cmp (IsSettled cmp now) x c
      → EndsWith (λ v. ready cmp now v ≡ []) c → CoursesAlike cmp (λ q v. StandsFor cmp q v × (v.moment ≡ now)) x c
  settled_rests now (goes cs q) (goes ds v) within h idle =
      (h.0, (woken_stands cmp order now q v within (h.1, idle), h.1.follows.tallies.moment))
  settled_rests now (goes cs q) (meets g) within h idle = absurd h
  settled_rests now (meets f) (goes ds v) within h idle = absurd h
  settled_rests now (meets f) (meets g) within h idle = h

  pub none_flies : (t : ℕ) (ms : List (RatedFlight P)) (fs : List (Flight P)) → AllZip (IsSameFlight cmp t) ms fs
      → ms ≡ [] → fs ≡ []
  none_flies t [] [] all e = refl
  none_flies t [] (f ∷ fs) all e = absurd all
  none_flies t (m ∷ ms) fs all e = cc

  -- new caps do in the planned world what they do in the world
  rebalances_there : (p : Planned P) (now : ℕ) (u : World P) (caps others : Caps P)
      (course : Course (Completed P) (Planned P)) → CapsAlike cmp caps others → now ≤ last_moment
      → Follows cmp now p u → ready cmp now u ≡ [] → Rebalances cmp now caps p course
      → CoursesAlike cmp (λ q v. StandsFor cmp q v × (v.moment ≡ now)) course (rebalance cmp now u others)
  rebalances_there p now u caps others course alike within follows none_ready recaps = by_case recaps
    where
      rests : EndsWith (λ v. ready cmp now v ≡ []) (rebalance cmp now u others)
      rests =
          let x : World P = rebalanced u others in
          let few : length (leaving cmp x) ≤ length x.sending = leaving_fewer cmp order x in
          let kept = ap (λ (q : List (Message P)). length q) (staying_waiting cmp order x) in
          settle_keeps_rest cmp order now x follows.tallies.one_each none_ready (omega arith)

      by_case : {course : Course (Completed P) (Planned P)} → Rebalances cmp now caps p course
          → CoursesAlike cmp (λ q v. StandsFor cmp q v × (v.moment ≡ now)) course (rebalance cmp now u others)
      by_case {course} (some_sending some event) =
          settled_rests now course _ within (settles_alike cmp order event _ (recapped_tallies now p u caps others alike
          follows.tallies)) rests
      by_case (none_sending {new = new} empty looks) =
          let x : World P = rebalanced u others in
          let gone : u.sending ≡ [] = none_flies now p.sending u.sending follows.tallies.sending empty in
          let none_done : list_any (is_done cmp x) x.sending ≡ false = ap (list_any _) gone in
          let same = settle_quiet cmp order _ now x none_done in
          let follows_too : Follows cmp now (replanned p caps) x = grind (arith, recapped_tallies, no_sides, rate_of) in
          let settled = looked cmp order now _ new x follows_too (each_none _ x.sending none_done) looks in
          settled_rests now (goes [] new) _ within (subst (λ (c : Course (Completed P) (World P)). CoursesAlike cmp
          (IsSettled cmp now) (goes [] new) c) (sym same) (tt, settled)) rests

  -- and so does a call that sets caps
  rebalancing : (p : Planned P) (w : World P) (now : ℕ) (call : Call P) (new : Caps P → Caps P)
      (course : Course (Completed P) (Planned P)) → ((u : World P) → act cmp u call ≡ rebalance cmp now u (new u.caps))
      → ((c d : Caps P) → CapsAlike cmp c d → CapsAlike cmp (new c) (new d))
      → StandsFor cmp p w → w.moment ≤ now → now ≤ last_moment → IfSome (next_event p) (λ t. now < t)
      → Rebalances cmp now (new p.caps) p course → (c : Course (Completed P) (World P)) × Runs cmp w call now c
      × CoursesAlike cmp (λ q v. StandsFor cmp q v × (v.moment ≡ now)) course c
  rebalancing p w now call new course acts alike stands le within before recaps =
      let there = reaches now p w stands le within before in
      grind (
        arith,
        preceded_none,
        (rebalances_there p now there.world (new p.caps) (new there.world.caps) course
            (alike p.caps there.world.caps there.follows.tallies.caps) within there.follows there.none_ready recaps),
      )

  pub limits_alike : (p : Planned P) (w : World P) (now : ℕ) (peer : P) (egress ingress : Option ℕ)
      (course : Course (Completed P) (Planned P)) → StandsFor cmp p w → w.moment ≤ now
      → now ≤ last_moment → IfSome (next_event p) (λ t. now < t)
      → Rebalances cmp now (limited_by cmp p.caps peer egress ingress) p course
      → (c : Course (Completed P) (World P)) × Runs cmp w (call_limit now peer egress ingress) now c
      × CoursesAlike cmp (λ q v. StandsFor cmp q v × (v.moment ≡ now)) course c
  limits_alike p w now peer egress ingress course =
      rebalancing p w now _ _ course (λ u. refl) (λ c d same.
      record {
        egress = cap_alike c.egress d.egress peer egress same.egress;
        ingress = cap_alike c.ingress d.ingress peer ingress same.ingress;
        link = same.link;
      })

  pub links_alike : (p : Planned P) (w : World P) (now : ℕ) (origin recipient : P) (cap : Option ℕ)
      (course : Course (Completed P) (Planned P)) → StandsFor cmp p w → w.moment ≤ now
      → now ≤ last_moment → IfSome (next_event p) (λ t. now < t)
      → Rebalances cmp now (linked_by cmp p.caps origin recipient cap) p course
      → (c : Course (Completed P) (World P)) × Runs cmp w (call_limit_link now origin recipient cap) now c
      × CoursesAlike cmp (λ q v. StandsFor cmp q v × (v.moment ≡ now)) course c
  links_alike p w now origin recipient cap course =
      rebalancing p w now _ _ course (λ u. refl) (λ c d same.
      record {
        egress = same.egress;
        ingress = same.ingress;
        link = link_alike c.link d.link origin recipient cap same.link;
      })
