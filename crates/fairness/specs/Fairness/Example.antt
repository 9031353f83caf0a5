-- An example: two flows share a side of cap 1, and a third flow uses no side.
use Rattle.std.specs.Prelude.{[], ◌∷◌, List}
use Rattle.fairness.specs.declared.bandwidth.Rate.{Rate}
use Rattle.fairness.specs.declared.bandwidth.Rate.TheVariants.{Unlimited, Finite}
use Rattle.fairness.specs.declared.ratio.Ratio.{Ratio}
use Rattle.fairness.specs.Numbers.Amount.{Amount}
use Rattle.fairness.specs.Fairness.Fair.{Side}
use Rattle.fairness.specs.Fairness.Rates.{AreFairRates}
use Rattle.fairness.specs.Numbers.Ratio.{amount_of, IsWorth}
use Rattle.fairness.specs.Fairness.Laws.{IsLess}

-- the one side, which the first two flows use
abbrev pub shared : List Side
shared = record { cap = 1; users = 0 ∷ 1 ∷ [] } ∷ []

-- half a byte a second
abbrev pub half : Amount
half = record { num = 1; den = 2 }

-- the ratio is worth a half
abbrev pub IsHalf : Ratio → Type 0
IsHalf ratio = IsWorth ratio half

-- there is such a ratio
abbrev pub HalfExists : Type 0
HalfExists = (ratio : Ratio) × IsHalf ratio

-- these rates are fair for the three flows
abbrev pub AreFairForThree : Rate → Rate → Rate → Type 0
AreFairForThree first second third = AreFairRates shared 3 (first ∷ second ∷ third ∷ [])

-- a half each is fair, with no limit for the third
abbrev pub HalvesAreFair : Type 0
HalvesAreFair = (first second : Ratio) → IsHalf first → IsHalf second
    → AreFairForThree (Finite first) (Finite second) Unlimited

-- less for the first is not fair, whatever the second gets
abbrev pub LessIsUnfair : Type 0
LessIsUnfair =
    (first second : Ratio) → IsLess (amount_of first) half → ¬ AreFairForThree (Finite first) (Finite second) Unlimited

-- nor is more
abbrev pub MoreIsUnfair : Type 0
MoreIsUnfair =
    (first second : Ratio) → IsLess half (amount_of first) → ¬ AreFairForThree (Finite first) (Finite second) Unlimited

-- nor is no limit for a flow that uses the side
abbrev pub NoLimitIsUnfair : Type 0
NoLimitIsUnfair = (second : Ratio) → ¬ AreFairForThree Unlimited (Finite second) Unlimited

-- nor is a limit for the flow that uses none
abbrev pub LimitIsUnfair : Type 0
LimitIsUnfair = (first second third : Ratio) → ¬ AreFairForThree (Finite first) (Finite second) (Finite third)
