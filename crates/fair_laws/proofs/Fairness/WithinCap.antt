-- The flows that a side limits get no more than its cap together.
use Rattle.fair_laws.proofs.Common.{◌≡◌, ◌⊎◌, inl, inr, ℕ, ◌+◌, ◌*◌, ◌≤◌, List, [], ◌∷◌, Bool, true, refl, sym, subst}
use Rattle.fair_laws.proofs.Common.{arith, IsTotalOrder, Ordering, All-contains, Flow, Side, load, limits}
use Rattle.fair_laws.proofs.Common.{IsCappedSide, places_from, rules}
use Rattle.std.specs.Prelude.{sum_by}
use Rattle.fairness.specs.Fairness.UnderCaps.{KeepsToItsCap}
use Rattle.fairness.proofs.Sides.CapSides.{sides_are_of_the_caps}
use Rattle.fairness.proofs.Lists.Members.{In, contains_from_in}

-- no element passes the test, or some does
some_passes : {X : Type 0} (place : ℕ) (test : X → Bool) (xs : List X)
    → (places_from place test xs ≡ []) ⊎ ((x : X) × In xs x × (test x ≡ true))
some_passes place test [] = inl refl
some_passes {X} place test (x ∷ xs) = search (rules, some_passes (place + 1) test xs)

pub keeps_to_its_cap : {P : Type 0} (cmp : P → P → Ordering) → IsTotalOrder cmp → KeepsToItsCap cmp
keeps_to_its_cap {P} cmp order caps flows rates of fair subject cap is = by_flow (some_passes 0 _ flows)
  where
    by_flow : (places_from 0 (limits cmp subject) flows ≡ [])
        ⊎ ((f : Flow P) × In flows f × (limits cmp subject f ≡ true))
        → sum_by fair.parts (places_from 0 (limits cmp subject) flows) ≤ cap * fair.per
    by_flow (inl none) = subst (λ (us : List ℕ). sum_by fair.parts us ≤ cap * fair.per) (sym none) (omega arith)
    by_flow (inr (f, among, limited)) =
        let side : Side = record { cap = cap; users = places_from 0 _ flows } in
        let capped : IsCappedSide cmp caps flows side = search (rules, contains_from_in) in
        All-contains (λ s. load fair.parts s ≤ s.cap * fair.per) _ side fair.fair.within
        ((sides_are_of_the_caps cmp order caps flows side of).1 capped)
