-- Places in a list.
use Rattle.std.specs.Prelude.{ℕ, ◌+◌, Bool, cond, List, [], ◌∷◌}

-- the places of the elements that pass the test, where the first element has that place
abbrev pub places_from : {X : Type 0} → ℕ → (X → Bool) → List X → List ℕ
places_from place test [] = []
places_from place test (x ∷ xs) =
    cond (test x) (place ∷ places_from (place + 1) test xs) (places_from (place + 1) test xs)
