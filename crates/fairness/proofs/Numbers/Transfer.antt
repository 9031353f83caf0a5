-- What the code takes off, and what it leaves: it drains as meant, and fits where that fits.
use Rattle.fairness.proofs.Common.{◌≡◌, ℕ, ◌-◌, ◌*◌, ◌<◌, ◌≤◌, ◌↔◌, ◌⊎◌, inl, inr, Option, Some, None, IfSome, refl}
use Rattle.fairness.proofs.Common.{sym, ap, ◌∙◌, subst, arith, mul-le-mul_right, mul-sub, mul-pos}
use Rattle.fairness.proofs.Common.{le_of_mul-le-mul_right, Amount, AreEqual, times, reduced, billion, Covers}
use Rattle.fairness.proofs.Common.{ReducedFits, amount_of, IsWorth, Ratio, rules, common_steps}
use Rattle.std.proofs.Math.Nat.{zero-mul, mul-zero, mul_comm}
use Rattle.fairness.specs.Numbers.Amount.{whole, minus, drained}
use Rattle.fairness.specs.Numbers.Fits.{DifferenceFits}
use Rattle.fairness.specs.Numbers.Draining.{transferred}
use Rattle.fairness.proofs.Numbers.EqualAmounts.{equal_trans, equal_fits, times_equal}
use Rattle.fairness.proofs.Numbers.Ratio.{worth_is_reduced}
use Rattle.fairness.proofs.Numbers.Draining.{same_difference}

-- ---- what drains

left_is : (left rate : Amount) → ℕ → Amount
left_is left rate n =
    record { num = left.num * (rate.den * billion) - n * (rate.num * left.den); den = left.den * (rate.den * billion) }

-- a ratio that is worth what is left is the drained amount
drained_if_worth : (left rate : Ratio) (n : ℕ) (r : Ratio)
    → r.numerator * (left.denominator * (rate.denominator * billion))
    ≡ (left.numerator * (rate.denominator * billion) - n * (rate.numerator * left.denominator)) * r.denominator
    → amount_of r ≡ drained (amount_of left) (amount_of rate) n
unfolding left_is
drained_if_worth left rate n r e = worth_is_reduced r _ (mul-pos left.positive (mul-pos rate.positive (omega arith))) e

nothing_drains : (left rate : Ratio) (n : ℕ) → n * (rate.numerator * left.denominator) ≡ 0
    → amount_of left ≡ drained (amount_of left) (amount_of rate) n
nothing_drains left rate n none = drained_if_worth left rate n left (regroup left.numerator left.denominator _ _ none)
  where
    less_none : (n : ℕ) → n - 0 ≡ n
    less_none n = omega arith

    regroup : (l d u m : ℕ) → m ≡ 0 → l * (d * u) ≡ (l * u - m) * d
    regroup l d u m e =
        let flat : l * (d * u) ≡ l * u * d = omega arith in
        let less : l * u - m ≡ l * u = rw e (less_none (l * u)) in
        flat ∙ ap (λ x. x * d) (sym less)

nothing_stays : (left rate : Ratio) (n : ℕ) → left.numerator ≡ 0
    → amount_of left ≡ drained (amount_of left) (amount_of rate) n
nothing_stays left rate n none = drained_if_worth left rate n left (regroup left.numerator left.denominator _ _ none)
  where
    regroup : (l d u m : ℕ) → l ≡ 0 → l * (d * u) ≡ (l * u - m) * d
    regroup l d u m e =
        let none : l * u - m ≡ 0 = rw e (omega arith) in
        ap (λ x. x * (d * u)) e ∙ zero-mul (d * u) ∙ sym (ap (λ x. x * d) none ∙ zero-mul d)

none_first : (n r d : ℕ) → r ≡ 0 → n * (r * d) ≡ 0
none_first n r d e = ap (λ x. n * (x * d)) e ∙ ap (λ x. n * x) (zero-mul d) ∙ mul-zero n

none_passes : (n m : ℕ) → n ≡ 0 → n * m ≡ 0
none_passes n m e = ap (λ x. x * m) e ∙ zero-mul m

-- all is left where nothing was left, the rate is zero or no time passes
pub all_is_left : (left rate : Ratio) (n : ℕ) → (left.numerator ≡ 0) ⊎ ((rate.numerator ≡ 0) ⊎ (n ≡ 0))
    → amount_of left ≡ drained (amount_of left) (amount_of rate) n
all_is_left left rate n (inl none) = nothing_stays left rate n none
all_is_left left rate n (inr (inl none)) = search (rules, nothing_drains, none_first)
all_is_left left rate n (inr (inr none)) = search (rules, nothing_drains, none_passes)

-- ---- what is taken

-- a product is worth what the rate takes in n nanoseconds
pub record IsTaking (rate product : Amount) (n : ℕ) : Type 0 where
  pub positive : 0 < product.den
  pub meant_positive : 0 < (transferred rate n).den
  pub equal : AreEqual product (transferred rate n)

-- the product of the rate and the time in seconds is
pub taking_from_seconds : (rate s : Ratio) (m n : ℕ) → IsWorth s (record { num = m; den = billion }) → m ≡ n
    → IsTaking (amount_of rate) (times (amount_of rate) (amount_of s)) n
taking_from_seconds rate s m n e same = record {
  positive = mul-pos rate.positive s.positive;
  meant_positive = mul-pos rate.positive (omega arith);
  equal =
      let in_seconds : IsWorth s (record { num = n; den = billion }) =
      subst (λ k. IsWorth s (record { num = k; den = billion })) same e in
      times_equal (amount_of rate) (amount_of rate) (amount_of s) (record { num = n; den = billion }) refl in_seconds;
}

pub taking_fits : (rate product : Amount) (n : ℕ) → IsTaking rate product n
    → ReducedFits product ↔ ReducedFits (transferred rate n)
taking_fits rate product n is = equal_fits product (transferred rate n) is.positive is.meant_positive is.equal

-- a ratio is worth what is taken, and is that in lowest terms
pub record IsTaken (rate : Amount) (n : ℕ) (t : Ratio) : Type 0 where
  pub equal : AreEqual (amount_of t) (transferred rate n)
  pub lowest : amount_of t ≡ reduced (transferred rate n).num (transferred rate n).den

pub taken_from_product : (rate product : Amount) (n : ℕ) (t : Ratio) → IsTaking rate product n → IsWorth t product
    → IsTaken rate n t
taken_from_product rate product n t is worth =
    let equal : AreEqual (amount_of t) (transferred rate n) = search (rules, equal_trans) in
    record { equal = equal; lowest = worth_is_reduced t (transferred rate n) is.meant_positive equal }

turned : (l d p q u m : ℕ) → p * u ≡ m * q → 0 < q → 0 < u → (l * q ≤ p * d) ↔ (l * u ≤ m * d)
turned l d p q u m e h j = (
  λ le. let up : l * q * u ≤ p * d * u = mul-le-mul_right u le in
      let across : l * u * q ≤ m * d * q = omega (arith, ap (λ x. x * d) e) in le_of_mul-le-mul_right across h,
  λ le. let up : l * u * q ≤ m * d * q = mul-le-mul_right q le in
      let across : l * q * u ≤ p * d * u = omega (arith, ap (λ x. x * d) e) in le_of_mul-le-mul_right across j,
)

-- what is taken is no less than what is left exactly where the time covers it
pub covers_iff : (left rate t : Ratio) (n : ℕ) → IsTaken (amount_of rate) n t
    → (left.numerator * t.denominator ≤ t.numerator * left.denominator) ↔ Covers (amount_of rate) n (amount_of left)
covers_iff left rate t n is =
    let both = turned left.numerator left.denominator t.numerator t.denominator _ _ is.equal t.positive
    (mul-pos rate.positive (omega arith)) in
    (λ le. let low = both.0 le in omega arith, λ covers. both.1 (omega arith))

-- ---- what is left

-- one difference over two denominators
over_other : (l d p q u n r : ℕ) → p * u ≡ r * n * q → (l * q - p * d) * (d * u) ≡ (l * u - n * (r * d)) * (d * q)
over_other l d p q u n r e =
    let first : d * u * (l * q) ≡ d * q * (l * u) = omega arith in
    let second : d * u * (p * d) ≡ d * q * (n * (r * d)) = omega (arith, ap (λ x. d * d * x) e) in
    mul_comm (l * q - p * d) (d * u) ∙ mul-sub (d * u) (l * q) (p * d) ∙ same_difference _ _ _ _ first second
    ∙ sym (mul-sub (d * q) (l * u) (n * (r * d))) ∙ mul_comm (d * q) (l * u - n * (r * d))

-- what is left less what is taken is what is left afterwards
drained_by_difference : (left rate t rest : Ratio) (n : ℕ) → IsTaken (amount_of rate) n t
    → IsWorth rest (minus (amount_of left) (amount_of t)) → amount_of rest ≡ drained (amount_of left) (amount_of rate) n
unfolding left_is
drained_by_difference left rate t rest n is worth =
    let l = amount_of left in
    let across : AreEqual (minus l (amount_of t)) (left_is l _ n) = search (rules, over_other) in
    drained_if_worth left rate n rest (equal_trans _ _ _ (mul-pos left.positive t.positive) worth across)

pub all_drained : (left rate t : Ratio) (n : ℕ) (r : Option Ratio) → IsTaken (amount_of rate) n t
    → IfSome r (λ rest. IsWorth rest (minus (amount_of left) (amount_of t)))
    → IfSome r (λ rest. amount_of rest ≡ drained (amount_of left) (amount_of rate) n)
all_drained left rate t n None is worth = worth
all_drained left rate t n (Some rest) is worth = drained_by_difference left rate t rest n is worth

-- where the time covers what is left, zero is left
pub drained_to_zero : (left rate rest : Ratio) (n : ℕ) → Covers (amount_of rate) n (amount_of left)
    → amount_of rest ≡ whole 0 → amount_of rest ≡ drained (amount_of left) (amount_of rate) n
drained_to_zero left rate rest n covers zero_is =
    let none : left.numerator * (rate.denominator * billion) - n * (rate.numerator * left.denominator) ≡ 0 =
    omega arith in
    drained_if_worth left rate n rest (regroup rest.numerator rest.denominator _ _ (ap (λ a. a.num) zero_is) none)
  where
    regroup : (m d u k : ℕ) → m ≡ 0 → k ≡ 0 → m * u ≡ k * d
    regroup m d u k e f = ap (λ x. x * u) e ∙ zero-mul u ∙ sym (ap (λ x. x * d) f ∙ zero-mul d)

-- where what is taken does not take all, it can be taken off exactly where the difference fits
pub leaves_iff : (left rate t : Ratio) (n : ℕ) → IsTaken (amount_of rate) n t
    → t.numerator * left.denominator < left.numerator * t.denominator → DifferenceFits (amount_of left) (amount_of t) ↔
    (Covers (amount_of rate) n (amount_of left) ⊎ DifferenceFits (amount_of left)
    (reduced (transferred (amount_of rate) n).num (transferred (amount_of rate) n).den))
leaves_iff left rate t n is less = grind (arith, common_steps, covers_iff)
