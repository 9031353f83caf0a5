-- The least time: there is one, and the least whole number of nanoseconds that is not below the quotient is it.
use Rattle.fairness.proofs.Common.{◌≡◌, ℕ, zero, suc, ◌*◌, ◌<◌, ◌≤◌, ◌↔◌, inl, inr, arith, mul-le-mul_right, mul-pos}
use Rattle.fairness.proofs.Common.{lt_of_mul-lt-mul_right, le_of_mul-le-mul_right, cases_lt, Amount, AreEqual, times}
use Rattle.fairness.proofs.Common.{billion, Covers, ReducedFits, amount_of, IsWorth, Ratio, rules}
use Rattle.std.proofs.Math.Nat.{le-mul_of_pos_right}
use Rattle.fairness.specs.Numbers.Amount.{whole, IsLeastTime}
use Rattle.fairness.specs.Numbers.Draining.{seconds}
use Rattle.fairness.proofs.Numbers.EqualAmounts.{equal_sym, equal_trans, equal_if_same, equal_fits, times_equal}

above : (n k l u : ℕ) → n * u < l → l ≤ k * u → suc n ≤ k
above n k l u less enough = search (rules, lt_of_mul-lt-mul_right)

-- a time that covers is not below the least one, which is found by going down
least_below : (rate left : Amount) (n : ℕ) → Covers rate n left → (m : ℕ) × IsLeastTime rate left m
least_below rate left zero covers = (zero, record { covers = covers; least = λ k _. omega arith })
least_below rate left (suc n) covers = elim (cases_lt (n * (rate.num * left.den)) (left.num * (rate.den * billion))) [
  | inl
      less ↦ (
        suc n,
        record {
          covers = covers;
          least = λ k enough. above n k (left.num * (rate.den * billion)) (rate.num * left.den) less enough;
        },
      )
  | inr covers' ↦ least_below rate left n covers'
]

pub some_least : (left rate : Amount) → 0 < left.den → 0 < rate.num → (n : ℕ) × IsLeastTime rate left n
some_least left rate h j =
    let all : ℕ = left.num * (rate.den * billion) in
    least_below rate left all (le-mul_of_pos_right all (mul-pos j h))

-- ---- as the code finds it

-- whole numbers that are not below one amount are not below another of its value
not_below : (a b : Amount) (n : ℕ) → 0 < a.den → AreEqual a b → a.num ≤ n * a.den → b.num ≤ n * b.den
not_below a b n h e le =
    let up : a.num * b.den ≤ n * a.den * b.den = mul-le-mul_right b.den le in
    let across : b.num * a.den ≤ n * b.den * a.den = omega (arith, e) in
    le_of_mul-le-mul_right across h

-- a product is worth the time in nanoseconds
pub record IsTime (rate left product : Amount) : Type 0 where
  pub positive : 0 < product.den
  pub meant_positive : 0 < left.den * rate.num * 1
  pub equal : AreEqual product (times (seconds rate left) (whole billion))

-- the product of the time in seconds and a billion is
pub time_from_seconds : (rate left s w : Ratio) → 0 < rate.numerator
    → IsWorth s (seconds (amount_of rate) (amount_of left)) → amount_of w ≡ whole billion
    → IsTime (amount_of rate) (amount_of left) (times (amount_of s) (amount_of w))
time_from_seconds rate left s w h e f = search (rules, mul-pos, times_equal, equal_if_same)

pub time_fits : (rate left product : Amount) → IsTime rate left product
    → ReducedFits product ↔ ReducedFits (times (seconds rate left) (whole billion))
time_fits rate left product is = search (rules, equal_fits)

-- the least whole number that is not below the time in nanoseconds is the least time
pub least_from_ceil : (rate left product : Amount) (time : Ratio) (n : ℕ) → IsTime rate left product
    → IsWorth time product
    → time.numerator ≤ n * time.denominator → ((k : ℕ) → time.numerator ≤ k * time.denominator → n ≤ k)
    → IsLeastTime rate left n
least_from_ceil rate left product time n is e enough least =
    let all : Amount = times (seconds rate left) (whole billion) in
    let same : AreEqual (amount_of time) all = equal_trans (amount_of time) product all is.positive e is.equal in
    record {
      covers =
          let up = not_below (amount_of time) all n time.positive same enough in
          omega arith;
      least = λ k covers.
          let up : left.num * rate.den * billion ≤ k * (left.den * rate.num * 1) = omega (arith, covers) in
          least k (not_below all (amount_of time) k is.meant_positive (equal_sym (amount_of time) all same) up);
    }
