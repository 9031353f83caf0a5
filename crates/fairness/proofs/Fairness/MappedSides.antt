-- Sides that are made of others, each of one.
use Rattle.fairness.proofs.Common.{◌≡◌, List, map, All, Contains, All-contains, Side}
use Rattle.fairness.proofs.Lists.Members.{in_from_contains, contains_from_in, in_map, from_map}
use Rattle.fairness.proofs.Lists.SumOrder.{All-from_contains}

pub listed_on : {X : Type 0} (f : X → Side) (xs : List X) (x : X) → Contains xs x → Contains (map f xs) (f x)
listed_on f xs x c = contains_from_in (map f xs) (f x) (in_map f xs x (in_from_contains xs x c))

pub listed_from : {X : Type 0} (f : X → Side) (xs : List X) (side : Side) → Contains (map f xs) side
    → (x : X) × Contains xs x × (f x ≡ side)
listed_from f xs side c =
    let from = from_map f xs side (in_from_contains (map f xs) side c) in
    (from.0, contains_from_in xs from.0 from.1, from.2)

pub all_unmapped : {X : Type 0} (P : Side → Type 0) (f : X → Side) (xs : List X) → All P (map f xs)
    → All (λ x. P (f x)) xs
all_unmapped P f xs all =
    All-from_contains (λ x. P (f x)) xs (λ x c. All-contains P (map f xs) (f x) all (listed_on f xs x c))
