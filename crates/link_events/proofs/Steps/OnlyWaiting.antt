-- A message whose pair has one in flight waits, and nothing else changes but the planned start.
use Rattle.link_events.proofs.Common.{◌≡◌, ℕ, ◌+◌, [], Bool, true, not, Option, Some, None, refl, sym, ap, ◌∙◌, subst}
use Rattle.link_events.proofs.Common.{list_any, Ordering, IsTotalOrder, is_sending, goes, Message, same_pair, Planned}
use Rattle.link_events.proofs.Common.{next_of, rated_messages, Launches, nothing_waits, too_early, all_completed}
use Rattle.link_events.proofs.Common.{launches, PlansStart, Enqueues, with_queued, find_passes, any_like}
use Rattle.std.specs.Prelude.{◌&&◌}
use Rattle.link_simulation.specs.Simulation.World.{is_in_order}

module _ {P : Type 0} (cmp : P → P → Ordering) (order : IsTotalOrder cmp) where
  -- nothing of a busy pair starts
  busy_rests : (t : ℕ) (p : Planned P) (m : Message P) → is_sending cmp p m.origin m.recipient ≡ true
      → (first : Option (Message P)) → first ≡ next_of cmp p m → Launches cmp t p first (goes [] p)
  busy_rests t p m busy None is = nothing_waits
  busy_rests t p m busy (Some k) is =
      let own : same_pair cmp m k ≡ true = find_passes (same_pair cmp m) k p.waiting (sym is) in
      let sends : list_any (same_pair cmp k) (rated_messages p.sending) ≡ true =
      any_like cmp order m k (rated_messages p.sending) own ∙ busy in
      too_early (ap (λ (b : Bool). not b && is_in_order (p.last_arrival k.origin k.recipient) (t + k.latency)) sends)

  pub enqueue_waits : (t : ℕ) (m : Message P) (old mid new : Planned P) → old.limited ≡ true
      → is_sending cmp old m.origin m.recipient ≡ true → mid ≡ with_queued cmp old m → PlansStart cmp t mid new
      → Enqueues cmp t m old (goes [] new)
  enqueue_waits t m old mid new limited busy is looks =
      launches limited (busy_rests t (with_queued cmp old m) m busy (next_of cmp (with_queued cmp old m) m) refl)
      (all_completed (subst (λ (q : Planned P). PlansStart cmp t q new) is looks))
