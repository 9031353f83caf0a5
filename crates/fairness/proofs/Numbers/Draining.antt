-- Draining splits, and leaves nothing exactly where the time covers what is left.
use Rattle.fairness.proofs.Common.{◌≡◌, ℕ, zero, suc, ◌+◌, ◌-◌, ◌*◌, ◌<◌, ◌≤◌, ◌↔◌, refl, sym, ap, ◌∙◌, arith}
use Rattle.fairness.proofs.Common.{mul-le-mul_right, mul-sub, mul-pos, Amount, reduced, billion, Covers, amount_of}
use Rattle.fairness.proofs.Common.{Rate, Unlimited, Finite}
use Rattle.std.proofs.Math.Nat.{mul_comm, mul-zero}
use Rattle.fairness.specs.Numbers.Amount.{drained, IsLeastTime}
use Rattle.fairness.specs.Numbers.Draining.{left_after}
use Rattle.fairness.specs.Numbers.LowestTerms.{IsScaled, reduced_alike, reduced_scaled, reduced_scales}
use Rattle.fairness.specs.Numbers.LowestTerms.{reduced_positive}

pub same_difference : (a b c d : ℕ) → a ≡ b → c ≡ d → a - c ≡ b - d
same_difference a b c d e f = rw (e, f) refl

-- what drains over a common factor of both numbers drains alike
drained_scaled : (g n d : ℕ) (a rate : Amount) (k : ℕ) → 0 < g → 0 < a.den → 0 < rate.den → n ≡ g * a.num
    → d ≡ g * a.den
    → drained a rate k ≡ reduced (n * (rate.den * billion) - k * (rate.num * d)) (d * (rate.den * billion))
drained_scaled g n d a rate k h i j num den =
    let unit : ℕ = rate.den * billion in
    let some : 0 < a.den * unit = mul-pos i (mul-pos j (omega arith)) in
    let up = mul-sub g _ _ ∙ same_difference _ (n * unit) _ _ (rw num (omega arith)) (rw den (omega arith)) in
    let down : g * (a.den * unit) ≡ d * unit = rw den (omega arith) in
    sym (reduced_scaled g _ _ h some) ∙ reduced_alike _ _ _ _ up down

-- draining an amount in lowest terms is draining the amount
pub drained_reduced : (n d : ℕ) (rate : Amount) (k : ℕ) → 0 < d → 0 < rate.den
    → drained (reduced n d) rate k ≡ reduced (n * (rate.den * billion) - k * (rate.num * d)) (d * (rate.den * billion))
drained_reduced n d rate k h j =
    let s : IsScaled n d (reduced n d) = reduced_scales n d h in
    drained_scaled s.factor n d (reduced n d) rate k s.positive (reduced_positive n d h) j s.num s.den

-- draining for a while and then for another is draining for both
pub drained_twice : (left rate : Amount) (a b : ℕ) → 0 < left.den → 0 < rate.den
    → drained (drained left rate a) rate b ≡ drained left rate (a + b)
drained_twice left rate a b h j =
    let unit : ℕ = rate.den * billion in
    let some_unit : 0 < unit = mul-pos j (omega arith) in
    let n : ℕ = left.num * unit in
    let x : ℕ = rate.num * left.den in
    let d : ℕ = left.den * unit in
    let some : 0 < d = mul-pos h some_unit in
    let num = ap (λ y. y - b * (rate.num * d)) (mul_comm (n - a * x) unit) ∙ ap (λ y. unit * (n - a * x) - y)
    (regroup b rate.num left.den unit) ∙ sym (mul-sub unit (n - a * x) (b * x)) ∙ ap (λ y. unit * y)
    (twice_less n a b x) in
    drained_reduced (n - a * x) d rate b some j ∙ reduced_alike _ _ _ _ num (mul_comm d unit)
    ∙ reduced_scaled unit (n - (a + b) * x) d some_unit some
  where
    regroup : (b r l u : ℕ) → b * (r * (l * u)) ≡ u * (b * (r * l))
    regroup b r l u = omega arith

    twice_less : (n a b x : ℕ) → n - a * x - b * x ≡ n - (a + b) * x
    twice_less n a b x = omega arith

-- ---- nothing is left exactly where the time covers it

pub product_none : (g q : ℕ) → 0 < g → g * q ≡ 0 → q ≡ 0
product_none g zero h e = refl
product_none g (suc q) h e = absurd (omega (arith, mul-pos {m = g} {n = suc q} h (omega arith)))

pub spent_if_covers : (left rate : Amount) (n : ℕ) → 0 < left.den → 0 < rate.den → Covers rate n left
    → (drained left rate n).num ≡ 0
spent_if_covers left rate n h j covers =
    let d : ℕ = left.den * (rate.den * billion) in
    let m : ℕ = left.num * (rate.den * billion) - n * (rate.num * left.den) in
    let none : m ≡ 0 = omega arith in
    let s : IsScaled m d (reduced m d) = reduced_scales m d (mul-pos h (mul-pos j (omega arith))) in
    product_none s.factor (reduced m d).num s.positive (sym s.num ∙ none)

pub covers_if_spent : (left rate : Amount) (n : ℕ) → 0 < left.den → 0 < rate.den → (drained left rate n).num ≡ 0
    → Covers rate n left
covers_if_spent left rate n h j spent =
    let d : ℕ = left.den * (rate.den * billion) in
    let m : ℕ = left.num * (rate.den * billion) - n * (rate.num * left.den) in
    let s : IsScaled m d (reduced m d) = reduced_scales m d (mul-pos h (mul-pos j (omega arith))) in
    let none : m ≡ 0 = s.num ∙ ap (λ x. s.factor * x) spent ∙ mul-zero s.factor in
    omega arith

-- at a rate above zero, from the least time on
pub spent_from_least : (left rate : Amount) (least n : ℕ) → 0 < left.den → 0 < rate.den → IsLeastTime rate left least
    → ((drained left rate n).num ≡ 0) ↔ (least ≤ n)
spent_from_least left rate least n h j time = (
  λ e. time.least n (covers_if_spent left rate n h j e),
  λ le.
      let more = mul-le-mul_right (rate.num * left.den) le in
      let enough : Covers rate least left = time.covers in
      spent_if_covers left rate n h j (omega arith),
)

-- what is left after a time and then after another is what is left after both
pub left_after_twice : (rate : Rate) (left : Amount) (a b : ℕ) → 0 < left.den
    → left_after rate b (left_after rate a left) ≡ left_after rate (a + b) left
left_after_twice Unlimited left a b h = refl
left_after_twice (Finite rate) left a b h = drained_twice left (amount_of rate) a b h rate.positive
