-- Amounts: of bytes, and of bytes a second. And how an amount drains at a rate.
use Rattle.std.specs.Prelude.{◌≡◌, ℕ, zero, suc, ◌+◌, ◌-◌, ◌*◌, ◌/◌, ◌%◌, ◌≤◌}

-- a whole number over a whole number above zero
pub record Amount : Type 0 where
  pub num : ℕ
  pub den : ℕ

-- so many parts, `per` of which are one
abbrev pub parts_over : ℕ → ℕ → Amount
parts_over per parts = record { num = parts; den = per }

-- two amounts are of one value: their cross products are equal
abbrev pub AreEqual : Amount → Amount → Type 0
AreEqual a b = a.num * b.den ≡ b.num * a.den

-- a whole number
abbrev pub whole : ℕ → Amount
whole n = record { num = n; den = 1 }

-- the sum
abbrev pub plus : Amount → Amount → Amount
plus a b = record { num = a.num * b.den + b.num * a.den; den = a.den * b.den }

-- the first less the second, for a second that is no greater
abbrev pub minus : Amount → Amount → Amount
minus a b = record { num = a.num * b.den - b.num * a.den; den = a.den * b.den }

-- the product
abbrev pub times : Amount → Amount → Amount
times a b = record { num = a.num * b.num; den = a.den * b.den }

-- the first divided by the second, for a second above zero
abbrev pub over : Amount → Amount → Amount
over a b = record { num = a.num * b.den; den = a.den * b.num }

-- the greatest common divisor, by at most that many steps of Euclid's division
unfoldable pub gcd_within : ℕ → ℕ → ℕ → ℕ
gcd_within zero a b = a
gcd_within (suc steps) a zero = a
gcd_within (suc steps) a (suc b) = gcd_within steps (suc b) (a % suc b)

-- the greatest common divisor
abbrev pub gcd : ℕ → ℕ → ℕ
gcd a b = gcd_within (suc b) a b

-- n over d in lowest terms, so that equal amounts are identical
unfoldable pub reduced : ℕ → ℕ → Amount
reduced n d = let g = gcd n d in record { num = n / g; den = d / g }

-- nanoseconds in a second
abbrev pub billion : ℕ
billion = 1_000_000_000

-- what is left after n nanoseconds at that rate: nothing, where they would take more
abbrev pub drained : Amount → Amount → ℕ → Amount
drained left rate n =
    reduced (left.num * (rate.den * billion) - n * (rate.num * left.den)) (left.den * (rate.den * billion))

-- n nanoseconds at that rate take all that is left
abbrev pub Covers : Amount → ℕ → Amount → Type 0
Covers rate n left = left.num * (rate.den * billion) ≤ n * (rate.num * left.den)

-- n is the least number of nanoseconds that do
pub record IsLeastTime (rate left : Amount) (n : ℕ) : Type 0 where
  pub covers : Covers rate n left
  pub least : (k : ℕ) → Covers rate k left → n ≤ k
