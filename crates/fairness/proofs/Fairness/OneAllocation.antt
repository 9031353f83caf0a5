-- One list of rates is fair.
use Rattle.fairness.proofs.Common.{◌≡◌, ℕ, zero, suc, ◌*◌, ◌<◌, inl, inr, List, get_or, refl, sym, ap, ◌∙◌, arith}
use Rattle.fairness.proofs.Common.{mul-le-mul_right, lt_of_mul-lt-mul_right, eq_of_mul-eq-mul_right, Rate, Unlimited}
use Rattle.fairness.proofs.Common.{Finite, Amount, Side, IsLimited, IsFair, IsRateOf}
use Rattle.std.proofs.lemmas.List.{ext_get_or}
use Rattle.std.proofs.lemmas.Bool.{cases_order}
use Rattle.fairness.specs.Fairness.Laws.{OneAllocation}
use Rattle.fairness.proofs.Numbers.Ratio.{one_ratio}
use Rattle.fairness.proofs.Fairness.MaxMin.{fair_is_max_min}

-- of two fair amounts neither is more: who pays for it in the first is paid for in the second by one with less still
no_more : (sides : List Side) (D E : ℕ) (a b : ℕ → ℕ) → IsFair sides D a → IsFair sides E b → (n i : ℕ)
    → IsLimited sides i → a i < n → a i * E < b i * D → ⊥
no_more sides D E a b f g zero i limited below more = absurd (omega arith)
no_more sides D E a b f g (suc n) i limited below more =
    let j = fair_is_max_min sides D a f E b g.within i limited more in
    let k = fair_is_max_min sides E b g D a f.within j.payer j.limited j.loses in
    let up = mul-le-mul_right E j.no_greater in
    let down = mul-le-mul_right D k.no_greater in
    let less : a k.payer < a i = lt_of_mul-lt-mul_right E (omega (arith, up, down, k.loses, j.loses)) in
    no_more sides D E a b f g n k.payer k.limited (omega (arith, less, below)) k.loses

-- two fair amounts of a limited flow are equal
pub same_amounts : (sides : List Side) (D E : ℕ) (a b : ℕ → ℕ) → IsFair sides D a → IsFair sides E b → (i : ℕ)
    → IsLimited sides i → a i * E ≡ b i * D
same_amounts sides D E a b f g i limited = elim (cases_order (a i * E) (b i * D)) [
  | inl e ↦ e
  | inr (inl less) ↦ absurd (no_more sides D E a b f g (suc (a i)) i limited (omega arith) less)
  | inr (inr more) ↦ absurd (no_more sides E D b a g f (suc (b i)) i limited (omega arith) more)
]

-- m / e is b / E, which is a / D
pub worth_too : (m e a D b E : ℕ) → 0 < E → a * E ≡ b * D → m * E ≡ b * e → m * D ≡ a * e
worth_too m e a D b E pos same worth =
    let scaled : m * D * E ≡ a * e * E = omega (arith, ap (λ n. n * D) worth, ap (λ n. n * e) same) in
    eq_of_mul-eq-mul_right E pos (m * D) (a * e) scaled

same_rate : (sides : List Side) (D E : ℕ) (a b : ℕ → ℕ) → IsFair sides D a → IsFair sides E b → (i : ℕ) (x y : Rate)
    → IsRateOf sides D a i x → IsRateOf sides E b i y → x ≡ y
same_rate sides D E a b f g i Unlimited Unlimited u v = refl
same_rate sides D E a b f g i Unlimited (Finite y) u v = absurd (u v.0)
same_rate sides D E a b f g i (Finite x) Unlimited u v = absurd (v u.0)
same_rate sides D E a b f g i (Finite x) (Finite y) u v =
    let amount : Amount = record { num = a i; den = D } in
    let worth =
    worth_too y.numerator y.denominator (a i) D (b i) E g.some_part (same_amounts sides D E a b f g i u.0) v.1 in
    ap Finite (one_ratio x y amount f.some_part u.1 worth)

pub one_allocation : OneAllocation
one_allocation sides flows r f s g =
    ext_get_or Unlimited s r (g.one_each ∙ sym f.one_each) (λ i within.
    let here : i < flows = omega (arith, g.one_each) in
    same_rate sides g.per f.per g.parts f.parts g.fair f.fair i (get_or s i Unlimited) (get_or r i Unlimited)
    (g.rated i Unlimited here) (f.rated i Unlimited here))
