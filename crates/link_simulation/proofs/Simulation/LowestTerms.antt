-- Amounts in lowest terms stay so, and draining for no time changes none of them.
use Rattle.link_simulation.proofs.Common.{◌≡◌, ℕ, zero, suc, ◌+◌, ◌-◌, ◌*◌, ◌<◌, ◌≤◌, Some, None, refl, sym, ◌∙◌, arith}
use Rattle.link_simulation.proofs.Common.{Option, IfSome, mul-pos, Amount, billion, drained, reduced, whole, IsLowest}
use Rattle.link_simulation.proofs.Common.{drained_by, reduced_positive}
use Rattle.std.proofs.Math.Nat.{mul_comm, mul-le-mul_right}
use Rattle.fairness.specs.Numbers.LowestTerms.{IsScaled, reduced_scales, reduced_scaled, reduced_alike}
use Rattle.fairness.proofs.Numbers.Draining.{drained_twice, spent_if_covers, covers_if_spent}

pub reduced_lowest : (n d : ℕ) → 0 < d → IsLowest (reduced n d)
reduced_lowest n d h =
    let a : Amount = reduced n d in
    let s : IsScaled n d a = reduced_scales n d h in
    let positive : 0 < a.den = reduced_positive n d h in
    record {
      positive = positive;
      lowest = sym (reduced_scaled s.factor a.num a.den s.positive positive)
          ∙ reduced_alike (s.factor * a.num) n (s.factor * a.den) d (sym s.num) (sym s.den);
    }

product_one : (f q : ℕ) → 1 ≡ f * q → (f ≡ 1) × (q ≡ 1)
product_one zero q e = absurd (omega arith)
product_one (suc f) zero e = absurd (omega arith)
product_one (suc zero) (suc q) e = (refl, omega arith)
product_one (suc (suc f)) (suc q) e = absurd (omega arith)

pub whole_lowest : (n : ℕ) → IsLowest (whole n)
whole_lowest n =
    grind (arith, (product_one (reduced_scales n 1 (omega arith)).factor (reduced n 1).den (reduced_scales n 1 (omega arith)).den))

pub drained_none : (left rate : Amount) → IsLowest left → 0 < rate.den → drained left rate 0 ≡ left
drained_none left rate low h =
    let unit : ℕ = rate.den * billion in
    let some : 0 < unit = mul-pos h (omega arith) in
    reduced_alike _ _ _ _ (less_none _ _ ∙ mul_comm left.num unit) (mul_comm left.den unit) ∙ reduced_scaled unit
    left.num left.den some low.positive ∙ low.lowest
  where
    less_none : (n x : ℕ) → n - 0 * x ≡ n
    less_none n x = omega arith

pub drained_by_lowest : (rate : Option Amount) (n : ℕ) (left : Amount) → IfSome rate (λ r. 0 < r.den) → 0 < left.den
    → IsLowest (drained_by rate n left)
drained_by_lowest None n left h j = whole_lowest 0
drained_by_lowest (Some r) n left h j = grind (arith, reduced_lowest, mul-pos)

pub drained_by_twice : (rate : Option Amount) (a b : ℕ) (left : Amount) → IfSome rate (λ r. 0 < r.den) → 0 < left.den
    → drained_by rate b (drained_by rate a left) ≡ drained_by rate (a + b) left
drained_by_twice None a b left h j = refl
drained_by_twice (Some r) a b left h j = drained_twice left r a b j h

-- what is spent stays spent
pub spent_later : (rate : Option Amount) (a b : ℕ) (left : Amount) → IfSome rate (λ r. 0 < r.den) → 0 < left.den → a ≤ b
    → (drained_by rate a left).num ≡ 0 → (drained_by rate b left).num ≡ 0
spent_later None a b left h j le e = refl
spent_later (Some r) a b left h j le e = grind (arith, covers_if_spent, mul-le-mul_right, spent_if_covers)
