-- A relation between each element and all later ones, by recursion.
use Rattle.fairness.proofs.Common.{zero, suc, List, [], ◌∷◌, arith}
use Rattle.std.specs.Prelude.{All, AllPairs}

abbrev pub EachLater : {X : Type 0} → (X → X → Type 0) → List X → Type 0
EachLater R [] = Unit {0}
EachLater R (x ∷ xs) = All (R x) xs × EachLater R xs

pub AllPairs-from_later : {X : Type 0} (R : X → X → Type 0) (xs : List X) → EachLater R xs → AllPairs R xs
AllPairs-from_later R [] h i j d before within = absurd (omega arith)
AllPairs-from_later R (x ∷ xs) h i zero d before within = absurd (omega arith)
AllPairs-from_later R (x ∷ xs) h zero (suc j) d before within = h.0 j d (omega arith)
AllPairs-from_later R (x ∷ xs) h (suc i) (suc j) d before within =
    AllPairs-from_later R xs h.1 i j d (omega arith) (omega arith)
