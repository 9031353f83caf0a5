-- A value has one `Ratio`.
use Rattle.fairness.proofs.Common.{◌≡◌, ℕ, ◌<◌, sym, ap, ◌∙◌, subst, Amount, reduced, IsReduced, amount_of, IsWorth}
use Rattle.fairness.proofs.Common.{Ratio, reduced_lowest, reduced_same, rules}
use Rattle.std.proofs.Props.{props}

ratio_of : (n d : ℕ) → 0 < d → IsReduced n d → Ratio
ratio_of n d p q = record { numerator = n; denominator = d; positive = p; reduced = q }

same_proofs : (n d : ℕ) (p r : 0 < d) (q s : IsReduced n d) → ratio_of n d p q ≡ ratio_of n d r s
same_proofs n d p r q s =
    let one : IsProp (0 < d) = hlevel props in
    let other : IsProp (IsReduced n d) = hlevel props in
    ap (λ x. ratio_of n d x q) (one p r) ∙ ap (λ x. ratio_of n d r x) (other q s)

same_parts : (n m d e : ℕ) → n ≡ m → d ≡ e → (p : 0 < d) (q : IsReduced n d) (r : 0 < e) (s : IsReduced m e)
    → ratio_of n d p q ≡ ratio_of m e r s
same_parts n m d e f g p q =
    subst (λ y. (r : 0 < y) (s : IsReduced m y) → ratio_of n d p q ≡ ratio_of m y r s) g
    (subst (λ x. (r : 0 < d) (s : IsReduced x d) → ratio_of n d p q ≡ ratio_of x d r s) f
    (λ r s. same_proofs n d p r q s))

-- ratios with one numerator and one denominator are one
pub same_ratio : (r s : Ratio) → r.numerator ≡ s.numerator → r.denominator ≡ s.denominator → r ≡ s
unfolding ratio_of
same_ratio r s e f =
    same_parts r.numerator s.numerator r.denominator s.denominator e f r.positive r.reduced s.positive s.reduced

-- what a ratio is worth is, in lowest terms, its numerator and denominator
pub worth_is_reduced : (r : Ratio) (m : Amount) → 0 < m.den → IsWorth r m → amount_of r ≡ reduced m.num m.den
worth_is_reduced r m h e =
    sym (reduced_lowest r.numerator r.denominator r.reduced)
    ∙ reduced_same r.numerator r.denominator m.num m.den r.positive h e

-- ratios that are worth one amount are one
pub one_ratio : (r s : Ratio) (m : Amount) → 0 < m.den → IsWorth r m → IsWorth s m → r ≡ s
one_ratio r s m h e f = search (rules, worth_is_reduced, same_ratio)
