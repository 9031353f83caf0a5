-- Lists without one of their elements.
use Rattle.std.specs.Prelude.{Bool, List, [], ◌∷◌, cond}

-- the list without its first element that passes
abbrev pub without_first : {X : Type 0} → (X → Bool) → List X → List X
without_first test [] = []
without_first test (x ∷ xs) = cond (test x) xs (x ∷ without_first test xs)
