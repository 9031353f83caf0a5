-- Sides that are those of the capped subjects, however they are made and in whatever order they stand.
use Rattle.fairness.proofs.Common.{ℕ, List, Contains, IsTotalOrder, Ordering, Flow, Side, IsFair, AreOfPeers}
use Rattle.fairness.proofs.Common.{sides_under, IsCappedSide, Caps}
use Rattle.std.specs.Prelude.{◌↔◌}
use Rattle.fairness.specs.Fairness.Laws.{AreTheSameSides}
use Rattle.fairness.proofs.Fairness.SameSides.{still_fair}
use Rattle.fairness.proofs.Sides.CapSides.{sides_are_of_the_caps}

module _ {P : Type 0} (cmp : P → P → Ordering) (order : IsTotalOrder cmp) (caps : Caps P) (of : AreOfPeers cmp caps)
    (flows : List (Flow P)) (sides : List Side)
    (members : (side : Side) → Contains sides side ↔ IsCappedSide cmp caps flows side) where
  are_the_same : AreTheSameSides sides (sides_under cmp caps flows)
  are_the_same side =
      let capped = sides_are_of_the_caps cmp order caps flows side of in
      (λ c. capped.1 ((members side).0 c), λ c. (members side).1 (capped.0 c))

  -- what is fair on them is fair under the caps
  pub fair_of_members : (per : ℕ) (parts : ℕ → ℕ) → IsFair sides per parts
      → IsFair (sides_under cmp caps flows) per parts
  fair_of_members per parts fair = still_fair sides (sides_under cmp caps flows) are_the_same per parts fair
