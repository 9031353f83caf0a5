-- Flows under caps by peer have fair amounts.
use Rattle.fair_laws.proofs.Common.{◌≢◌, ℕ, ◌<◌, List, length, All, AllPairs, sym, subst, le_refl, Ordering}
use Rattle.fair_laws.proofs.Common.{IsTotalOrder, Caps, IsFair, HaveUsersBelow, AreOfPeers, IsCappedSide}
use Rattle.fair_laws.proofs.Common.{limits, sides_under, Flow}
use Rattle.fairness.specs.Fairness.Exists.{HaveDistinctUsers, FairAmountsExistUnderCaps}
use Rattle.fairness.proofs.Fairness.Denominators.{is_least_multiple, one_multiple}
use Rattle.fairness.proofs.Sides.CapSides.{sides_are_of_the_caps}
use Rattle.fairness.proofs.Lists.SumOrder.{All-from_contains}
use Rattle.fairness.proofs.Lists.Places.{places_apart, places_below}
use Rattle.fairness.proofs.Filling.FairPartsExist.{fair_parts}

module _ {P : Type 0} (cmp : P → P → Ordering) (order : IsTotalOrder cmp) (caps : Caps P) (flows : List (Flow P))
    (of : AreOfPeers cmp caps) where
  pub users_below : HaveUsersBelow (length flows) (sides_under cmp caps flows)
  users_below =
      All-from_contains _ _ (λ side listed.
      let s : IsCappedSide cmp caps flows side = (sides_are_of_the_caps cmp order caps flows side of).0 listed in
      subst (All (λ user. user < length flows)) (sym s.users)
      (places_below (limits cmp s.subject) flows (length flows) (le_refl (length flows))))

  users_distinct : HaveDistinctUsers (sides_under cmp caps flows)
  users_distinct =
      All-from_contains _ _ (λ side listed.
      let s : IsCappedSide cmp caps flows side = (sides_are_of_the_caps cmp order caps flows side of).0 listed in
      subst (AllPairs (λ user other. user ≢ other)) (sym s.users) (places_apart 0 (limits cmp s.subject) flows))

pub exist_under_caps : {P : Type 0} (cmp : P → P → Ordering) → IsTotalOrder cmp → FairAmountsExistUnderCaps cmp
exist_under_caps cmp order caps flows per of is =
    subst (λ m. (parts : ℕ → ℕ) × IsFair (sides_under cmp caps flows) m parts)
    (one_multiple _ _ per (is_least_multiple _) is) (fair_parts _ (sides_under cmp caps flows)
    (users_below cmp order caps flows of) (users_distinct cmp order caps flows of))
