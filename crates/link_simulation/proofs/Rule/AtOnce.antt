-- Before any limit, a message completes at once in both worlds.
use Rattle.link_simulation.proofs.Common.{arith, ◌≡◌, ℕ, ◌+◌, ◌<◌, ◌≤◌, [], ◌∷◌, Bool, true, false, cond, Option, Some}
use Rattle.link_simulation.proofs.Common.{None, refl, ap, ◌∙◌, IfSome, if◌then◌else◌, list_any, Ordering, IsTotalOrder}
use Rattle.link_simulation.proofs.Common.{Completed, Course, World, completion_of, goes, is_done, last_moment, later_of}
use Rattle.link_simulation.proofs.Common.{meets, raised, ready, Runs, act, call_enqueue, complete_at_once}
use Rattle.link_simulation.proofs.Common.{completed_at_once, Message, IsLeastMoment, Planned, SomeReadyAt, next_event}
use Rattle.link_simulation.proofs.Common.{CoursesAlike, Follows, StandsFor, Tallies, MomentTooLate}
use Rattle.link_simulation.proofs.Simulation.AlikeMessages.{same_itself, message_itself}
use Rattle.link_simulation.proofs.Rule.BeforeNext.{none_ready_at}
use Rattle.link_simulation.proofs.Rule.Settling.{raised_alike}
use Rattle.link_simulation.proofs.Rule.Limit.{reaches}
use Rattle.link_simulation.proofs.Simulation.Queue.{preceded_none}

module _ {P : Type 0} (cmp : P → P → Ordering) (order : IsTotalOrder cmp) where
  -- with nothing waiting, nothing is ever ready
  none_waits : (p : Planned P) (t : ℕ) → p.waiting ≡ [] → SomeReadyAt cmp p t → ⊥
  none_waits p t empty some = grind arith

  start_kept : (p q : Planned P) (o : Option ℕ) → p.waiting ≡ [] → q.waiting ≡ [] → IsLeastMoment (SomeReadyAt cmp p) o
      → IsLeastMoment (SomeReadyAt cmp q) o
  start_kept p q None empty bare least = λ t within some. none_waits q t bare some
  start_kept p q (Some e) empty bare least = absurd (none_waits p e empty least.1)

  at_once : (now : ℕ) (p : Planned P) (u : World P) (m : Message P) → Follows cmp now p u
      → list_any (is_done cmp u) u.sending ≡ false → p.waiting ≡ [] → IsLeastMoment (SomeReadyAt cmp p) p.start
      → CoursesAlike cmp (λ q v. StandsFor cmp q v × (v.moment ≡ now)) (completed_at_once cmp now p m)
      (complete_at_once cmp now u m)
  at_once now p u m follows none_done empty least = by_late _ arrivals
    where
      at_p : ℕ
      at_p = if m.should_deliver then later_of (p.last_arrival m.origin m.recipient) (now + m.latency) else now

      at_u : ℕ
      at_u = if m.should_deliver then later_of (u.last_arrival m.origin m.recipient) (now + m.latency) else now

      arrivals : at_p ≡ at_u
      arrivals = grind (arith, same_itself)

      landed_p : Planned P
      landed_p = record p { last_arrival = raised cmp p.last_arrival m at_p }

      landed_u : World P
      landed_u = record u { last_arrival = raised cmp u.last_arrival m at_u }

      tallied : at_p ≡ at_u → Tallies cmp now landed_p landed_u
      tallied same = grind (arith, raised_alike, at_p, at_u, message_itself)

      stands : at_p ≡ at_u → StandsFor cmp landed_p landed_u
      stands same = record {
        follows = grind (arith, landed_p, landed_u, tallied);
        quiet =
            record {
              none_done = none_done;
              none_ready = ap (λ (t : ℕ). ready cmp t landed_u) follows.tallies.moment
                  ∙ none_ready_at cmp order now landed_p landed_u (tallied same) (none_waits landed_p now empty);
            };
        start = start_kept p landed_p p.start empty empty least;
      }

      by_late : (b : Bool) → at_p ≡ at_u → CoursesAlike cmp (λ q v. StandsFor cmp q v × (v.moment ≡ now))
          (cond b (meets MomentTooLate)
          (goes (completion_of m now (if m.should_deliver then Some at_p else None) ∷ []) landed_p))
          (cond b (meets MomentTooLate)
          (goes (completion_of m now (if m.should_deliver then Some at_u else None) ∷ []) landed_u))
      by_late true same = refl
      by_late false same = grind (arith, same_itself, stands)

  -- before any limit a message does in the planned world what it does in the world
  pub at_once_alike : (p : Planned P) (w : World P) (now : ℕ) (m : Message P) → StandsFor cmp p w → p.limited ≡ false
      → w.moment ≤ now → now ≤ last_moment → IfSome (next_event p) (λ t. now < t)
      → (c : Course (Completed P) (World P)) × Runs cmp w (call_enqueue now m) now c
      × CoursesAlike cmp (λ q v. StandsFor cmp q v × (v.moment ≡ now)) (completed_at_once cmp now p m) c
  at_once_alike p w now m stands free le within before =
      grind (
        arith,
        (reaches cmp order now p w stands le within before),
        (preceded_none (act cmp (reaches cmp order now p w stands le within before).world (call_enqueue now m))),
        (at_once now p),
      )
