-- What a scheduler promises of a call, from what it keeps.
use Rattle.link_scheduler.proofs.Common.{◌≡◌, ℕ, ◌<◌, ◌^◌, List, Option, Some, refl, sym, subst, Ordering, IsTotalOrder}
use Rattle.link_scheduler.proofs.Common.{∥∥₁_map, Error, Completed, Call, call_advance, moment_of, Planned, new_planned}
use Rattle.link_scheduler.proofs.Common.{MayBeRefused, GoesByRule, IsOrderly, Makes}
use Rattle.link_simulation.specs.Simulation.World.{new_world}
use Rattle.link_simulation.specs.Rule.Planned.{next_event}
use Rattle.link_simulation.specs.Rule.Range.{IsInRange}
use Rattle.link_simulation.specs.Rule.StandsFor.{StandsFor}
use Rattle.link_scheduler.specs.Calls.State.{Refuses}
use Rattle.link_simulation.specs.Rule.Simulated.{IsNextInSimulation, IsSplitAnywhere, KeepsToCaps}
use Rattle.link_simulation.proofs.Rule.RepliesInRange.{new_in_range}
use Rattle.link_simulation.proofs.Laws.BytesStand.{advance_keeps_to_caps}
use Rattle.link_simulation.proofs.Laws.ConservedAlike.{goes_conserved}
use Rattle.link_simulation.proofs.Rule.Limit.{new_stands}
use Rattle.link_simulation.proofs.Laws.Orderly.{new_orderly}
use Rattle.link_simulation.proofs.Laws.OrderlyAlike.{goes_orderly}
use Rattle.link_simulation.proofs.Rule.Simulated.{moment_in_time, calls_simulated, call_keeps_range, refusals_simulated}
use Rattle.link_simulation.proofs.Rule.Simulated.{next_in_simulation}
use Rattle.link_simulation.proofs.Laws.SplitAnywhere.{advance_split_anywhere}

module _ {P : Type 0} (cmp : P → P → Ordering) (order : IsTotalOrder cmp) where
  -- ---- a new scheduler

  pub new_one_stands : (p : Planned P) (id : ℕ) → p ≡ new_planned id → StandsFor cmp p (new_world id)
  new_one_stands p id is = subst (λ (q : Planned P). StandsFor cmp q (new_world id)) (sym is) (new_stands cmp order id)

  pub new_one_in_range : (p : Planned P) (id : ℕ) → p ≡ new_planned id → id < 2 ^ 64 → IsInRange p
  new_one_in_range p id is fits = subst (λ (q : Planned P). IsInRange q) (sym is) (new_in_range id fits)

  pub new_one_orderly : (p : Planned P) (id : ℕ) → p ≡ new_planned id → ∥ IsOrderly cmp p ∥₁
  new_one_orderly p id is = ∣ subst (IsOrderly cmp) (sym is) (new_orderly cmp order id) ∣₁

  -- ---- a call that goes

  -- what is promised of a call that goes from p to q
  pub promised_if : (p q : Planned P) (call : Call P) (now : ℕ) (cs : List (Completed P)) → moment_of call ≡ Some now
      → now < 2 ^ 64 → ∥ IsOrderly cmp p ∥₁ → GoesByRule cmp p call cs q → Makes cmp p call cs q
  promised_if p q call now cs at fits orderly went = record {
    by_rule = went;
    simulated = calls_simulated cmp order p q call cs (moment_in_time cmp order call now at fits) went;
    in_range = call_keeps_range cmp order p q call cs went;
    conserved = ∥∥₁_map orderly (goes_conserved cmp order p q call cs went);
    rated = ∥∥₁_map orderly (λ h. (goes_orderly cmp order p q call cs went h).rated);
  }

  -- ---- an advance

  pub split_on : (p q : Planned P) (now : ℕ) (cs : List (Completed P)) → now < 2 ^ 64
      → GoesByRule cmp p (call_advance now) cs q → IsSplitAnywhere cmp p now cs q
  split_on p q now cs fits went =
      advance_split_anywhere cmp order p q now cs (moment_in_time cmp order (call_advance now) now refl fits now refl)
      went

  pub within_caps_on : (p q : Planned P) (now : ℕ) (cs : List (Completed P)) → now < 2 ^ 64
      → GoesByRule cmp p (call_advance now) cs q → KeepsToCaps cmp p now q
  within_caps_on p q now cs fits went =
      advance_keeps_to_caps cmp order p q now cs (moment_in_time cmp order (call_advance now) now refl fits now refl)
      went

  -- ---- a call that is refused

  pub cause_of : (p : Planned P) (call : Call P) (now : ℕ) (why : Error) → moment_of call ≡ Some now → now < 2 ^ 64
      → MayBeRefused cmp p call why → Refuses cmp p call why
  cause_of p call now why at fits may = record {
    by_rule = may;
    simulated = refusals_simulated cmp order p call why (moment_in_time cmp order call now at fits) may;
  }

  -- ---- the next event

  pub next_simulated : (p : Planned P) (next : Option ℕ) → next ≡ next_event p → IsNextInSimulation cmp p next
  next_simulated p next is = subst (IsNextInSimulation cmp p) (sym is) (next_in_simulation cmp order p)
