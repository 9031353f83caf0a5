-- Each event leaves fewer that may come.
use Rattle.link_simulation.proofs.Common.{◌≡◌, ℕ, ◌+◌, ◌<◌, ◌≤◌, List, Some, arith, Ordering, IsTotalOrder, GoesByRule}
use Rattle.link_simulation.proofs.Common.{IsSamePlanned, Completed, call_advance, Planned, next_event, zip-length}
use Rattle.link_simulation.specs.Laws.MostEvents.{most_events}
use Rattle.link_simulation.specs.Rule.SamePlanned.{AdvancesByRule}
use Rattle.link_simulation.specs.Rule.Planned.{IsPlanned}
use Rattle.link_simulation.proofs.Laws.MostEvents.{events_spend, some_event}

module _ {P : Type 0} (cmp : P → P → Ordering) (order : IsTotalOrder cmp) where
  same_most : (p q : Planned P) → IsSamePlanned cmp p q → most_events p ≡ most_events q
  same_most p q same = grind (arith, zip-length)

  pub counted_events : (p q : Planned P) (now events : ℕ) (cs : List (Completed P)) → IsPlanned cmp p
      → AdvancesByRule cmp now p events cs q → events + most_events q ≤ most_events p
  counted_events p q now events cs planned goes =
      let spent : events + most_events goes.after ≤ most_events p = events_spend cmp order goes.advances planned in
      let same : most_events goes.after ≡ most_events q = same_most goes.after q goes.same_after in
      omega arith

  pub advance_falls : (p q : Planned P) (now : ℕ) (cs : List (Completed P)) → IsPlanned cmp p → next_event p ≡ Some now
      → GoesByRule cmp p (call_advance now) cs q → most_events q < most_events p
  advance_falls p q now cs planned next goes =
      let counted : AdvancesByRule cmp now p goes.obeys.0 cs q = grind arith in
      let some : 0 < goes.obeys.0 = some_event cmp order goes.obeys.1 next in
      let spent = counted_events p q now goes.obeys.0 cs planned counted in
      omega arith
