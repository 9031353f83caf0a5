-- When rates fit in fractions of 128 bits.
use Rattle.std.specs.Prelude.{ℕ, ◌*◌, ◌^◌, ◌<◌, List, All}
use Rattle.fairness.specs.Fairness.Fair.{Side, IsFair}
use Rattle.fairness.specs.Numbers.Ratio.{IsWorth}
use Rattle.fairness.specs.declared.bandwidth.Rate.{Rate}
use Rattle.fairness.specs.declared.bandwidth.Rate.TheVariants.{Unlimited, Finite}
use Rattle.fairness.specs.Numbers.Amount.{parts_over}

-- the fair rates are whole numbers of parts, and the parts that make one, times the number of flows and the greatest
-- cap, are below 2^128
pub record FairRatesFit (sides : List Side) (flows : ℕ) : Type 0 where
  pub per : ℕ
  pub parts : ℕ → ℕ
  pub fair : IsFair sides per parts
  pub small : All (λ side. per * flows * side.cap < 2 ^ 128) sides

-- the rate, if it is finite, is a fraction of 128 bits
abbrev pub IsFraction : Rate → Type 0
IsFraction Unlimited = Unit {0}
IsFraction (Finite ratio) = (ratio.numerator < 2 ^ 128) × (ratio.denominator < 2 ^ 128)

-- the rate, if it is finite, is a whole number of parts, `per` of which are one byte a second
abbrev pub IsWholeOver : ℕ → Rate → Type 0
IsWholeOver per Unlimited = Unit {0}
IsWholeOver per (Finite ratio) = (parts : ℕ) × IsWorth ratio (parts_over per parts)

-- so is each of the rates
abbrev pub AreWholeOver : ℕ → List Rate → Type 0
AreWholeOver per rates = All (IsWholeOver per) rates
