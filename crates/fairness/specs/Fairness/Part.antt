-- A part of the flows that shares no side with the rest. Its flows are those with the flag `true`, of one flag for
-- each flow.
use Rattle.std.specs.Prelude.{◌≡◌, ◌⊎◌, ℕ, Bool, true, false, cond, List, [], ◌∷◌, ◌++◌, All, count_by, length, map}
use Rattle.std.specs.Prelude.{take, slice_index_or}
use Rattle.std.specs.List.{list_any}
use Rattle.fairness.specs.declared.bandwidth.Rate.{Rate}
use Rattle.fairness.specs.Fairness.Fair.{Side}
use Rattle.fairness.specs.Fairness.Rates.{AreFairRates}

-- the elements with the flag `true`, in their order
abbrev pub flagged : {X : Type 0} → List Bool → List X → List X
flagged [] xs = []
flagged (flag ∷ flags) [] = []
flagged (flag ∷ flags) (x ∷ xs) = cond flag (x ∷ flagged flags xs) (flagged flags xs)

-- whether the flow at that place is of the part
abbrev pub is_in : List Bool → ℕ → Bool
is_in flags flow = slice_index_or flags flow false

-- its place among the flows of the part: how many of them stand before it
abbrev pub place_in : List Bool → ℕ → ℕ
place_in flags flow = count_by (λ flag. flag) (take flow flags)

-- the sides that flows of the part use, with the places that these have among themselves
abbrev pub sides_in : List Bool → List Side → List Side
sides_in flags [] = []
sides_in flags (side ∷ sides) =
    cond (list_any (is_in flags) side.users)
    (record { cap = side.cap; users = map (place_in flags) side.users } ∷ []) []
    ++ sides_in flags sides

-- no side has users of the part and others
abbrev pub SharesNoSide : List Bool → List Side → Type 0
SharesNoSide flags sides = All (λ side.
    All (λ user. is_in flags user ≡ true) side.users ⊎ All (λ user. is_in flags user ≡ false) side.users) sides

-- the rates of the part's flows are fair for these flows alone
abbrev pub FlowsApartAreFair : Type 0
FlowsApartAreFair =
    (flags : List Bool) (sides : List Side) (rates : List Rate)
    → SharesNoSide flags sides
    → AreFairRates sides (length flags) rates
    → AreFairRates (sides_in flags sides) (length (flagged flags rates)) (flagged flags rates)
