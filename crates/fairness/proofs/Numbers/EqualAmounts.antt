-- Amounts of one value: they fit alike, and their products are of one value.
use Rattle.fairness.proofs.Common.{◌≡◌, ℕ, ◌*◌, ◌<◌, ◌↔◌, refl, sym, ap, subst, arith, eq_of_mul-eq-mul_right, Amount}
use Rattle.fairness.proofs.Common.{AreEqual, times, reduced, ReducedFits, reduced_same}

pub equal_sym : (a b : Amount) → AreEqual a b → AreEqual b a
equal_sym a b e = sym e

pub equal_trans : (a b c : Amount) → 0 < b.den → AreEqual a b → AreEqual b c → AreEqual a c
equal_trans a b c h e f =
    eq_of_mul-eq-mul_right b.den h _ _ (omega (arith, ap (λ n. n * c.den) e, ap (λ n. n * a.den) f))

pub equal_if_same : (a b : Amount) → a ≡ b → AreEqual a b
equal_if_same a b e = subst (λ x. AreEqual x b) (sym e) refl

fits_too : (a b : Amount) → 0 < a.den → 0 < b.den → AreEqual a b → ReducedFits a → ReducedFits b
fits_too a b h j e fits =
    let same : reduced a.num a.den ≡ reduced b.num b.den = reduced_same a.num a.den b.num b.den h j e in
    record { numerator = rw same at fits.numerator; denominator = rw same at fits.denominator }

pub equal_fits : (a b : Amount) → 0 < a.den → 0 < b.den → AreEqual a b → ReducedFits a ↔ ReducedFits b
equal_fits a b h j e = (fits_too a b h j e, fits_too b a j h (equal_sym a b e))

pub times_equal : (a b c d : Amount) → AreEqual a b → AreEqual c d → AreEqual (times a c) (times b d)
times_equal a b c d e f = regroup a.num a.den b.num b.den c.num c.den d.num d.den e f
  where
    regroup : (m n o p q r s t : ℕ) → m * p ≡ o * n → q * t ≡ s * r → m * q * (p * t) ≡ o * s * (n * r)
    regroup m n o p q r s t e f = omega (arith, ap (λ x. x * (q * t)) e, ap (λ x. o * n * x) f)
