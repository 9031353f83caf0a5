-- The ends of ordered pairs, as numbers, and the numbers that they have by their places in a list.
use Rattle.std.specs.Prelude.{◌≡◌, ℕ, Bool, ◌&&◌, ◌==◌, List, [], ◌∷◌, ◌++◌, Option, MatchOption}
use Rattle.std.specs.List.{position}
use Rattle.peer_numbers.specs.declared.ends.Ends.{Ends}

-- whether the ends are one
abbrev pub same_ends : Ends → Ends → Bool
same_ends ends other = (ends.origin == other.origin) && (ends.recipient == other.recipient)

-- the number of ends: the place of the first that are the same
abbrev pub number_of_ends : List Ends → Ends → Option ℕ
number_of_ends list ends = position (same_ends ends) list

-- the list with those ends: it stays if they are in it, and else they come to its end
abbrev pub IsWithEnds : List Ends → Ends → List Ends → Type 0
IsWithEnds list ends new = MatchOption (number_of_ends list ends) (new ≡ list ++ ends ∷ []) (λ number. new ≡ list)
