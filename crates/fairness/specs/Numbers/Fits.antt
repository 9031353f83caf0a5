-- When the results of arithmetic on fractions of 128 bits fit.
use Rattle.std.specs.Prelude.{◌≡◌, ℕ, ◌+◌, ◌*◌, ◌/◌, ◌^◌, ◌<◌, ◌≤◌}
use Rattle.fairness.specs.Numbers.Amount.{Amount, reduced, gcd}

-- the amount in lowest terms has two numbers of 128 bits
pub record ReducedFits (a : Amount) : Type 0 where
  pub numerator : (reduced a.num a.den).num < 2 ^ 128
  pub denominator : (reduced a.num a.den).den < 2 ^ 128

-- the numerator of the first amount over the least common denominator of both
abbrev pub raised_numerator : Amount → Amount → ℕ
raised_numerator a b = a.num * (b.den / gcd a.den b.den)

-- the numerator of the second amount there
abbrev pub other_raised_numerator : Amount → Amount → ℕ
other_raised_numerator a b = b.num * (a.den / gcd a.den b.den)

-- the least common denominator
abbrev pub least_common : Amount → Amount → ℕ
least_common a b = a.den / gcd a.den b.den * b.den

-- both numerators over the least common denominator, and that denominator, are numbers of 128 bits
pub record CommonFits (a b : Amount) : Type 0 where
  pub first : raised_numerator a b < 2 ^ 128
  pub second : other_raised_numerator a b < 2 ^ 128
  pub denominator : least_common a b < 2 ^ 128

-- these fit, and so does the sum of the numerators
pub record SumFits (a b : Amount) : Type 0 where
  pub common : CommonFits a b
  pub sum : raised_numerator a b + other_raised_numerator a b < 2 ^ 128

-- these fit, and the second amount is no greater
pub record DifferenceFits (a b : Amount) : Type 0 where
  pub common : CommonFits a b
  pub no_greater : b.num * a.den ≤ a.num * b.den

-- these numbers are the two numerators and the denominator
pub record AreOverCommon (a b : Amount) (first second denominator : ℕ) : Type 0 where
  pub first_is : first ≡ raised_numerator a b
  pub second_is : second ≡ other_raised_numerator a b
  pub denominator_is : denominator ≡ least_common a b
