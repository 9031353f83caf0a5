-- How long what is left takes at a rate, what is left after a time, and when the numbers on the way fit.
use Rattle.std.specs.Prelude.{◌≡◌, ◌⊎◌, ℕ, ◌^◌, ◌<◌, ◌≤◌, Option, Some, None}
use Rattle.fairness.specs.declared.bandwidth.Rate.{Rate}
use Rattle.fairness.specs.declared.bandwidth.Rate.TheVariants.{Unlimited, Finite}
use Rattle.fairness.specs.Numbers.Amount.{Amount, whole, over, times, reduced, billion, drained, Covers, IsLeastTime}
use Rattle.fairness.specs.Numbers.Fits.{ReducedFits, DifferenceFits}
use Rattle.fairness.specs.Numbers.Ratio.{amount_of}

-- what is left at the rate takes so many seconds
abbrev pub seconds : Amount → Amount → Amount
seconds rate left = over left rate

-- what the rate takes in n nanoseconds
abbrev pub transferred : Amount → ℕ → Amount
transferred rate n = times rate (record { num = n; den = billion })

-- the time in seconds and the time in nanoseconds fit
pub record SecondsFit (rate left : Amount) : Type 0 where
  pub in_seconds : ReducedFits (seconds rate left)
  pub in_nanoseconds : ReducedFits (times (seconds rate left) (whole billion))

-- at a finite rate above zero both times fit
abbrev pub TimeFits : Rate → Amount → Type 0
TimeFits Unlimited left = Unit {0}
TimeFits (Finite rate) left = 0 < rate.numerator → SecondsFit (amount_of rate) left

-- the least time at the rate where it is a moment of 64 bits; none past that, and none at rate zero
abbrev pub IsDuration : Rate → Amount → Option ℕ → Type 0
IsDuration Unlimited left time = time ≡ Some 0
IsDuration (Finite rate) left (Some n) = (0 < rate.numerator) × IsLeastTime (amount_of rate) left n
IsDuration (Finite rate) left None = 0 < rate.numerator → (n : ℕ) → Covers (amount_of rate) n left → 2 ^ 64 ≤ n

-- what is taken fits, and it takes all or can be taken off
pub record TakenFits (rate : Amount) (n : ℕ) (left : Amount) : Type 0 where
  pub fits : ReducedFits (transferred rate n)
  pub leaves : Covers rate n left ⊎ DifferenceFits left (reduced (transferred rate n).num (transferred rate n).den)

-- where something is left and the rate, which is finite, and the time are above zero, what is taken fits
abbrev pub TransferFits : Rate → ℕ → Amount → Type 0
TransferFits Unlimited n left = Unit {0}
TransferFits (Finite rate) n left = 0 < left.num → 0 < rate.numerator → 0 < n → TakenFits (amount_of rate) n left

-- what is left after n nanoseconds at the rate
abbrev pub left_after : Rate → ℕ → Amount → Amount
left_after Unlimited n left = whole 0
left_after (Finite rate) n left = drained left (amount_of rate) n
