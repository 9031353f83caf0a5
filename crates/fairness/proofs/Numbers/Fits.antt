-- What the arithmetic of fractions computes over a common denominator, and when it fits.
use Rattle.fairness.proofs.Common.{◌∣◌, ◌≡◌, ℕ, zero, suc, ◌+◌, ◌-◌, ◌*◌, ◌/◌, ◌^◌, ◌<◌, ◌≤◌, ◌↔◌, Option, Some, None}
use Rattle.fairness.proofs.Common.{IsSome, refl, sym, ap, ◌∙◌, subst, arith, mul-pos, mul-sub, mul-div_cancel'}
use Rattle.fairness.proofs.Common.{dvd-mul_left, Amount, AreEqual, reduced, gcd, ReducedFits, IsReduced, amount_of}
use Rattle.fairness.proofs.Common.{IsWorth, Ratio, gcd-IsGcd, gcd-pos, reduced_lowest, rules}
use Rattle.std.proofs.Common.{mul-le-mul_left}
use Rattle.std.specs.Int.{IsGcd}
use Rattle.std.proofs.Math.Nat.{mul_assoc, div_self, le_of_mul-le-mul_left}
use Rattle.fairness.specs.Numbers.Amount.{plus, minus}
use Rattle.fairness.specs.Numbers.Fits.{raised_numerator, other_raised_numerator, least_common, AreOverCommon}
use Rattle.fairness.specs.Numbers.Fits.{CommonFits}
use Rattle.fairness.specs.Numbers.Gcd.{gcd-self}
use Rattle.fairness.specs.Numbers.LowestTerms.{reduced_alike, reduced_scaled, reduced_worth, coprime_parts}
use Rattle.fairness.specs.Numbers.LowestTerms.{IsReduced-part, IsReduced-swap, IsReduced-mul}

-- what is an amount in lowest terms has its value
pub worth_if_reduced : (r m : Amount) → 0 < m.den → r ≡ reduced m.num m.den → AreEqual r m
worth_if_reduced r m h e = subst (λ z. AreEqual z m) (sym e) (reduced_worth m.num m.den h)

-- ---- the least common denominator

other_above : (g q d : ℕ) → g * q ≡ d → 0 < d → 0 < q
other_above g zero d e h = absurd (omega arith)
other_above g (suc q) d e h = omega arith

-- two denominators, each as a part times their greatest common divisor
pub record CommonParts (b d g : ℕ) : Type 0 where
  pub positive : 0 < g
  pub first : g * (b / g) ≡ b
  pub second : g * (d / g) ≡ d
  pub first_positive : 0 < b / g

pub common_parts : (b d : ℕ) → 0 < b → 0 < d → CommonParts b d (gcd b d)
common_parts b d h j =
    let g : ℕ = gcd b d in
    let c : IsGcd b d g = gcd-IsGcd b d in
    let first : g * (b / g) ≡ b = mul-div_cancel' g c.0 in
    record {
      positive = gcd-pos b d j;
      first = first;
      second = mul-div_cancel' g c.1;
      first_positive = other_above g (b / g) b first h;
    }

times_den : (g p b d : ℕ) → g * p ≡ b → g * (p * d) ≡ b * d
times_den g p b d e = sym (mul_assoc g p d) ∙ ap (λ n. n * d) e

times_num : (g q a d : ℕ) → g * q ≡ d → g * (a * q) ≡ a * d
times_num g q a d e = omega (arith, ap (λ n. a * n) e)

pub sum_over_common : (a b c d : ℕ) → 0 < b → 0 < d
    → reduced (a * (d / gcd b d) + c * (b / gcd b d)) (b / gcd b d * d) ≡ reduced (a * d + c * b) (b * d)
sum_over_common a b c d h j =
    let g : ℕ = gcd b d in
    let k : CommonParts b d g = common_parts b d h j in
    let u : g * (a * (d / g)) ≡ a * d = times_num g (d / g) a d k.second in
    let v : g * (c * (b / g)) ≡ c * b = times_num g (b / g) c b k.first in
    let num : g * (a * (d / g) + c * (b / g)) ≡ a * d + c * b = omega arith in
    sym (reduced_scaled g (a * (d / g) + c * (b / g)) (b / g * d) k.positive (mul-pos k.first_positive j))
    ∙ reduced_alike _ _ _ _ num (times_den g (b / g) b d k.first)

same_difference : (m n p q : ℕ) → m ≡ p → n ≡ q → m - n ≡ p - q
same_difference m n p q e f = rw (e, f) refl

pub difference_over_common : (a b c d : ℕ) → 0 < b → 0 < d
    → reduced (a * (d / gcd b d) - c * (b / gcd b d)) (b / gcd b d * d) ≡ reduced (a * d - c * b) (b * d)
difference_over_common a b c d h j =
    let g : ℕ = gcd b d in
    let k : CommonParts b d g = common_parts b d h j in
    let u : g * (a * (d / g)) ≡ a * d = times_num g (d / g) a d k.second in
    let v : g * (c * (b / g)) ≡ c * b = times_num g (b / g) c b k.first in
    let num : g * (a * (d / g) - c * (b / g)) ≡ a * d - c * b = search (rules, mul-sub, same_difference) in
    sym (reduced_scaled g (a * (d / g) - c * (b / g)) (b / g * d) k.positive (mul-pos k.first_positive j))
    ∙ reduced_alike _ _ _ _ num (times_den g (b / g) b d k.first)

-- the order of two fractions is that of their numerators over the common denominator
pub no_greater_over_common : (a b c d : ℕ) → 0 < b → 0 < d → (c * (b / gcd b d) ≤ a * (d / gcd b d)) ↔ (c * b ≤ a * d)
no_greater_over_common a b c d h j =
    let g : ℕ = gcd b d in
    let k : CommonParts b d g = common_parts b d h j in
    let u : g * (a * (d / g)) ≡ a * d = times_num g (d / g) a d k.second in
    let v : g * (c * (b / g)) ≡ c * b = times_num g (b / g) c b k.first in (
      λ le. let up : g * (c * (b / g)) ≤ g * (a * (d / g)) = mul-le-mul_left g le in omega arith,
      λ le. let up : g * (c * (b / g)) ≤ g * (a * (d / g)) = omega arith in le_of_mul-le-mul_left up k.positive,
    )

-- what has the reduced sum of the numerators over the common denominator is worth the sum
pub sum_worth : (r x y : Ratio) (p q s d : ℕ) → AreOverCommon (amount_of x) (amount_of y) p q d → s ≡ p + q
    → amount_of r ≡ reduced s d → IsWorth r (plus (amount_of x) (amount_of y))
sum_worth r x y p q s d over s_is e =
    let a = amount_of x in
    let b = amount_of y in
    let same : reduced s d ≡ reduced (raised_numerator a b + other_raised_numerator a b) (least_common a b) =
    rw (s_is, over.first_is, over.second_is, over.denominator_is) refl in
    worth_if_reduced (amount_of r) (plus a b) (mul-pos x.positive y.positive)
    (e ∙ same ∙ sum_over_common a.num a.den b.num b.den x.positive y.positive)

-- and likewise the difference
pub difference_worth : (r x y : Ratio) (p q s d : ℕ) → AreOverCommon (amount_of x) (amount_of y) p q d → s ≡ p - q
    → amount_of r ≡ reduced s d → IsWorth r (minus (amount_of x) (amount_of y))
difference_worth r x y p q s d over s_is e =
    let a = amount_of x in
    let b = amount_of y in
    let same : reduced s d ≡ reduced (raised_numerator a b - other_raised_numerator a b) (least_common a b) =
    rw (s_is, over.first_is, over.second_is, over.denominator_is) refl in
    worth_if_reduced (amount_of r) (minus a b) (mul-pos x.positive y.positive)
    (e ∙ same ∙ difference_over_common a.num a.den b.num b.den x.positive y.positive)

-- the numerators over the common denominator stand as the fractions do
pub no_greater_is : (x y : Ratio) (p q d : ℕ) → AreOverCommon (amount_of x) (amount_of y) p q d
    → (q ≤ p) ↔ (y.numerator * x.denominator ≤ x.numerator * y.denominator)
no_greater_is x y p q d over = search (rules, no_greater_over_common)

-- a common denominator as the code finds it is above zero
pub common-pos : (x y : Ratio) (g s d : ℕ) → g ≡ gcd x.denominator y.denominator → s ≡ x.denominator / g
    → d ≡ s * y.denominator → 0 < d
common-pos x y g s d g_is s_is d_is = search (rules, mul-pos, common_parts)

-- equal denominators are their own least common one
scale_of_equal : (b d : ℕ) → 0 < b → b ≡ d → (b / gcd b d ≡ 1) × (d / gcd b d ≡ 1)
scale_of_equal b d h e =
    let g : gcd b d ≡ b = ap (λ n. gcd b n) (sym e) ∙ gcd-self b in
    (ap (λ n. b / n) g ∙ div_self h, ap (λ n. d / n) g ∙ ap (λ n. n / b) (sym e) ∙ div_self h)

times_one : (n k : ℕ) → k ≡ 1 → n ≡ n * k
times_one n k e = rw e (omega arith)

one_times : (n k m : ℕ) → k ≡ 1 → n ≡ m → n ≡ k * m
one_times n k m e f = rw e (omega arith)

pub over_equal : (a b : Amount) → 0 < a.den → a.den ≡ b.den → AreOverCommon a b a.num b.num a.den
over_equal a b h e = search (rules, scale_of_equal, times_one, one_times)

pub over_fits : (a b : Amount) (x y d : ℕ) → AreOverCommon a b x y d → x < 2 ^ 128 → y < 2 ^ 128 → d < 2 ^ 128
    → CommonFits a b
over_fits a b x y d over h j k = search rules

-- ---- products

-- a product of fractions in lowest terms, reduced before it is formed
pub record CrossReduced (a b c d f s : ℕ) : Type 0 where
  pub first_positive : 0 < f
  pub positive : 0 < b / s * (d / f)
  pub lowest : IsReduced (a / f * (c / s)) (b / s * (d / f))
  pub same : reduced (a * c) (b * d) ≡ record { num = a / f * (c / s); den = b / s * (d / f) }

product_lowest : (x y z w : ℕ) → IsReduced x z → IsReduced x w → IsReduced y z → IsReduced y w
    → IsReduced (x * y) (z * w)
product_lowest x y z w p q r s =
    IsReduced-swap (z * w) (x * y) (IsReduced-mul z w (x * y) (IsReduced-swap (x * y) z (IsReduced-mul x y z p r))
    (IsReduced-swap (x * y) w (IsReduced-mul x y w q s)))

quotient_divides : (n g : ℕ) → g ∣ n → n / g ∣ n
quotient_divides n g h = subst (λ m. n / g ∣ m) (mul-div_cancel' g h) (dvd-mul_left (n / g) g)

regroup : (f s x y : ℕ) → f * s * (x * y) ≡ f * x * (s * y)
regroup f s x y = omega arith

regroup_down : (f s x y : ℕ) → f * s * (x * y) ≡ s * x * (f * y)
regroup_down f s x y = omega arith

multiplied : (m n p q : ℕ) → m ≡ p → n ≡ q → m * n ≡ p * q
multiplied m n p q e f = rw (e, f) refl

pub cross_reduced : (a b c d : ℕ) → 0 < b → 0 < d → IsReduced a b → IsReduced c d
    → CrossReduced a b c d (gcd a d) (gcd c b)
cross_reduced a b c d h j r t =
    let f : ℕ = gcd a d in
    let s : ℕ = gcd c b in
    let u : IsGcd a d f = gcd-IsGcd a d in
    let v : IsGcd c b s = gcd-IsGcd c b in
    let a_is : f * (a / f) ≡ a = mul-div_cancel' f u.0 in
    let d_is : f * (d / f) ≡ d = mul-div_cancel' f u.1 in
    let c_is : s * (c / s) ≡ c = mul-div_cancel' s v.0 in
    let b_is : s * (b / s) ≡ b = mul-div_cancel' s v.1 in
    let some : 0 < b / s * (d / f) = mul-pos (other_above s (b / s) b b_is h) (other_above f (d / f) d d_is j) in
    let lowest = product_lowest (a / f) (c / s) (b / s) (d / f) (IsReduced-part a b (a / f) (b / s)
    (quotient_divides a f u.0) (quotient_divides b s v.1) r) (coprime_parts a d j) (coprime_parts c b h)
    (IsReduced-part c d (c / s) (d / f) (quotient_divides c s v.0) (quotient_divides d f u.1) t) in
    let num : f * s * (a / f * (c / s)) ≡ a * c = regroup f s (a / f) (c / s) ∙ multiplied _ _ _ _ a_is c_is in
    let den : f * s * (b / s * (d / f)) ≡ b * d = regroup_down f s (b / s) (d / f) ∙ multiplied _ _ _ _ b_is d_is in
    record {
      first_positive = gcd-pos a d j;
      positive = some;
      lowest = lowest;
      same = sym (reduced_alike _ _ _ _ num den) ∙ reduced_scaled (f * s) _ _ (mul-pos (gcd-pos a d j) (gcd-pos c b h))
          some ∙ reduced_lowest _ _ lowest;
    }

-- the parts of two fractions in lowest terms, found before they are multiplied
pub record ReducedProduct (n d x y z w : ℕ) : Type 0 where
  pub positive : 0 < z * w
  pub lowest : IsReduced (x * y) (z * w)
  pub same : reduced n d ≡ record { num = x * y; den = z * w }

pub reduced_product : (a b c d f s x y z w : ℕ) → 0 < b → 0 < d → IsReduced a b → IsReduced c d → f ≡ gcd a d
    → s ≡ gcd c b → x ≡ a / f → y ≡ c / s → z ≡ b / s → w ≡ d / f → ReducedProduct (a * c) (b * d) x y z w
reduced_product a b c d f s x y z w h j r t f_is s_is x_is y_is z_is w_is =
    let k = cross_reduced a b c d h j r t in
    rw (x_is, y_is, z_is, w_is, f_is, s_is) (record { positive = k.positive; lowest = k.lowest; same = k.same })

-- an amount in lowest terms is known, so whether it fits is
pub fits_if_known : (m : Amount) (n d : ℕ) → reduced m.num m.den ≡ record { num = n; den = d }
    → ReducedFits m ↔ ((n < 2 ^ 128) × (d < 2 ^ 128))
fits_if_known m n d e = search rules

-- ---- a value exactly where a fact holds

pub none_iff : {T P : Type 0} (r : Option T) → r ≡ None → (P → ⊥) → IsSome r ↔ P
none_iff None e refuted = (λ s. cc, λ p. absurd (refuted p))
none_iff (Some x) e refuted = cc
