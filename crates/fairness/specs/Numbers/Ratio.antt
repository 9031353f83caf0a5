-- What a `Ratio` is worth.
use Rattle.std.specs.declared.cmp.Ordering.{Ordering}
use Rattle.fairness.specs.Numbers.Amount.{Amount, AreEqual}
use Rattle.fairness.specs.Numbers.Fraction.{fraction_cmp}
use Rattle.fairness.specs.declared.ratio.Ratio.{Ratio}

-- the amount of its numerator and denominator, which is in lowest terms
abbrev pub amount_of : Ratio → Amount
amount_of r = record { num = r.numerator; den = r.denominator }

-- the ratio has the value of that amount
abbrev pub IsWorth : Ratio → Amount → Type 0
IsWorth r a = AreEqual (amount_of r) a

-- how amounts stand to each other: by their cross products
abbrev pub amount_cmp : Amount → Amount → Ordering
amount_cmp a b = fraction_cmp a.num a.den b.num b.den
