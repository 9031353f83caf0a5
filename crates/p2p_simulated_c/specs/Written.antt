-- What is written into a caller's array.
use Rattle.std.specs.Prelude.{List, ◌++◌, take, drop, length}

-- as many of the items as there is room for are written over the front, and the rest stays
abbrev pub written : {X : Type 0} → List X → List X → List X
written items old = take (length old) items ++ drop (length items) old
