-- A call that was answered: what is promised of it, and what stays known of what is planned.
use Rattle.link_scheduler.proofs.Common.{◌≡◌, ℕ, ◌+◌, ◌<◌, ◌≤◌, ◌^◌, List, [], length, Some, refl, Ordering}
use Rattle.link_scheduler.proofs.Common.{IsTotalOrder, ∥∥₁_map, ∥∥₁_elim, CapsAlike, PairsAlike, Completed, goes, Call}
use Rattle.link_scheduler.proofs.Common.{call_advance, moment_of, Planned, IsPlanned, Obeys, IsOrderly, same_itself}
use Rattle.link_scheduler.proofs.Common.{obeys_orderly, IsAnswered, Makes}
use Rattle.std.proofs.Common.{◌*◌}
use Rattle.std.proofs.Math.Bridge.{le_prop}
use Rattle.link_simulation.specs.Rule.Events.{Advances}
use Rattle.link_simulation.specs.Rule.SamePlanned.{AdvancesByRule}
use Rattle.link_simulation.proofs.Laws.MostEvents.{obeys_right, few_events}
use Rattle.link_events.proofs.Steps.Answered.{obeys_in}
use Rattle.link_scheduler.proofs.Calls.Promises.{promised_if}

-- nothing happened up to a moment
pub rested : {P : Type 0} (cmp : P → P → Ordering) (now : ℕ) (p q : Planned P) → Advances cmp now p 0 (goes [] q)
    → IsAnswered cmp p (call_advance now) 0 [] q
rested cmp now p q h = record { completed = []; obeys = h; same = tt }

module _ {P : Type 0} (cmp : P → P → Ordering) (order : IsTotalOrder cmp) where
  module _ (p : Planned P) (call : Call P) (events : ℕ) (cs : List (Completed P)) (q : Planned P)
      (h : IsAnswered cmp p call events cs q) where
    went : Obeys cmp p call (goes h.completed q)
    went = obeys_in cmp p call events (goes h.completed q) h.obeys

    pub right_after : ∥ IsPlanned cmp p ∥₁ → ∥ IsPlanned cmp q ∥₁
    right_after right =
        ∥∥₁_map right (λ so. obeys_right cmp order p call (goes h.completed q) so went h.completed q refl)

    pub orderly_after : ∥ IsOrderly cmp p ∥₁ → ∥ IsOrderly cmp q ∥₁
    orderly_after orderly = ∥∥₁_map orderly (obeys_orderly cmp order p q call h.completed went)

    pub made_after : (now : ℕ) → moment_of call ≡ Some now → now < 2 ^ 64 → ∥ IsOrderly cmp p ∥₁
        → CapsAlike cmp q.caps q.caps → PairsAlike cmp q.last_arrival q.last_arrival → Makes cmp p call cs q
    made_after now at fits orderly caps arrivals =
        promised_if cmp order p q call now cs at fits orderly (record {
          answers = h.completed;
          after = q;
          obeys = went;
          same_answers = h.same;
          same_after = same_itself cmp order q caps arrivals;
        })

  module _ (now : ℕ) (p : Planned P) (events : ℕ) (cs : List (Completed P)) (q : Planned P)
      (h : IsAnswered cmp p (call_advance now) events cs q) where
    pub counted_after : CapsAlike cmp q.caps q.caps → PairsAlike cmp q.last_arrival q.last_arrival
        → AdvancesByRule cmp now p events cs q
    counted_after caps arrivals = record {
      answers = h.completed;
      after = q;
      advances = h.obeys;
      same_answers = h.same;
      same_after = same_itself cmp order q caps arrivals;
    }

    pub few_after : ∥ IsPlanned cmp p ∥₁ → events ≤ 2 * length p.waiting + length p.sending
    few_after right = ∥∥₁_elim right le_prop (few_events cmp order h.obeys)
