-- Fractions in lowest terms: each value has one.
use Prim.Native.Nat.{◌∣◌}
use Rattle.std.proofs.Common.{◌≡◌, ℕ, zero, suc, ◌*◌, ◌/◌, ◌<◌, refl, sym, ap, ◌∙◌, subst, arith}
use Rattle.std.specs.Int.{IsGcd}
use Rattle.std.proofs.lemmas.Nat.Gcd.{dvd_antisymm, dvd_refl, dvd-zero, dvd_trans}
use Rattle.std.proofs.Math.Nat.{mul_comm, mul_assoc, one-mul, one-dvd, div-one, mul-div_cancel', mul-div-mul_left}
use Rattle.std.proofs.Math.Nat.{dvd-mul_left, mul-dvd-mul_right, dvd_of_mul-dvd-mul_right}
use Rattle.fairness.specs.Numbers.Amount.{Amount, AreEqual, reduced, gcd}
use Rattle.fairness.specs.Numbers.Fraction.{IsReduced}
use Rattle.fairness.specs.Numbers.Gcd.{gcd-IsGcd, gcd-pos, gcd-scaled}

-- two amounts with equal numbers are one
pub amount_is : {a b c d : ℕ} → a ≡ b → c ≡ d
    → ◌≡◌ {A = Amount} (record { num = a; den = c }) (record { num = b; den = d })
amount_is e f = rw (e, f) refl

-- what `reduced` is, for a greatest common divisor found in another way
pub reduced_is : (n d g : ℕ) → gcd n d ≡ g → reduced n d ≡ record { num = n / g; den = d / g }
unfolding reduced
reduced_is n d g e = rw e refl

-- numbers that are equal are reduced alike
pub reduced_alike : (n m d e : ℕ) → n ≡ m → d ≡ e → reduced n d ≡ reduced m e
reduced_alike n m d e p q = rw (p, q) refl

-- a common factor falls away
pub reduced_scaled : (k n d : ℕ) → 0 < k → 0 < d → reduced (k * n) (k * d) ≡ reduced n d
reduced_scaled k n d h j =
    let g : ℕ = gcd n d in
    reduced_is (k * n) (k * d) (k * g) (gcd-scaled k n d h)
    ∙ amount_is (mul-div-mul_left n g h) (mul-div-mul_left d g h) ∙ sym (reduced_is n d g refl)

-- amounts of one value are identical in lowest terms
pub reduced_same : (n d m e : ℕ) → 0 < d → 0 < e → n * e ≡ m * d → reduced n d ≡ reduced m e
reduced_same n d m e h j q =
    sym (reduced_scaled e n d j h) ∙ reduced_alike (e * n) (d * m) (e * d) (d * e) (mul_comm e n ∙ q ∙ mul_comm m d)
    (mul_comm e d) ∙ reduced_scaled d m e h j

-- n over d is this amount, times a common factor
pub record IsScaled (n d : ℕ) (a : Amount) : Type 0 where
  pub factor : ℕ
  pub positive : 0 < factor
  pub num : n ≡ factor * a.num
  pub den : d ≡ factor * a.den

pub reduced_scales : (n d : ℕ) → 0 < d → IsScaled n d (reduced n d)
reduced_scales n d h =
    let g : ℕ = gcd n d in
    let divides : IsGcd n d g = gcd-IsGcd n d in
    rw (reduced_is n d g refl) (record {
      factor = g;
      positive = gcd-pos n d h;
      num = sym (mul-div_cancel' g divides.0);
      den = sym (mul-div_cancel' g divides.1);
    })

other_above : (g q d : ℕ) → d ≡ g * q → 0 < d → 0 < q
other_above g zero d e h = absurd (omega arith)
other_above g (suc q) d e h = omega arith

pub reduced_positive : (n d : ℕ) → 0 < d → 0 < (reduced n d).den
reduced_positive n d h =
    let s : IsScaled n d (reduced n d) = reduced_scales n d h in other_above s.factor (reduced n d).den d s.den h

-- an amount in lowest terms has the value that it had
pub reduced_worth : (n d : ℕ) → 0 < d → AreEqual (reduced n d) (record { num = n; den = d })
reduced_worth n d h =
    let s : IsScaled n d (reduced n d) = reduced_scales n d h in
    let r : Amount = reduced n d in
    ap (λ m. r.num * m) s.den ∙ sym (mul_assoc r.num s.factor r.den)
    ∙ ap (λ m. m * r.den) (mul_comm r.num s.factor ∙ sym s.num)

-- ---- no number but 1 divides both

no_factor : (k g : ℕ) → 0 < g → k * g ∣ g → k ≡ 1
no_factor k g p w = dvd_antisymm (dvd_of_mul-dvd-mul_right k p (subst (λ m. k * g ∣ m) (sym (one-mul g)) w)) (one-dvd k)

-- two numbers divided by their greatest common divisor
pub coprime_parts : (n d : ℕ) → 0 < d → IsReduced (n / gcd n d) (d / gcd n d)
coprime_parts n d h k u v =
    let g : ℕ = gcd n d in
    let c : IsGcd n d g = gcd-IsGcd n d in
    let x : n / g * g ≡ n = mul_comm (n / g) g ∙ mul-div_cancel' g c.0 in
    let y : d / g * g ≡ d = mul_comm (d / g) g ∙ mul-div_cancel' g c.1 in
    no_factor k g (gcd-pos n d h) (c.2 (k * g) (subst (λ m. k * g ∣ m) x (mul-dvd-mul_right k u g))
    (subst (λ m. k * g ∣ m) y (mul-dvd-mul_right k v g)))

pub reduced_IsReduced : (n d : ℕ) → 0 < d → IsReduced (reduced n d).num (reduced n d).den
reduced_IsReduced n d h = rw (reduced_is n d (gcd n d) refl) (coprime_parts n d h)

gcd_one : (n d : ℕ) → IsReduced n d → gcd n d ≡ 1
gcd_one n d r = let g = gcd-IsGcd n d in r (gcd n d) g.0 g.1

-- a fraction in lowest terms stays as it is
pub reduced_lowest : (n d : ℕ) → IsReduced n d → reduced n d ≡ record { num = n; den = d }
reduced_lowest n d r = reduced_is n d 1 (gcd_one n d r) ∙ amount_is (div-one n) (div-one d)

-- two fractions in lowest terms of one value are the same numbers
pub lowest_unique : (a b c d : ℕ) → 0 < b → 0 < d → IsReduced a b → IsReduced c d → a * d ≡ c * b → (a ≡ c) × (b ≡ d)
lowest_unique a b c d p q r s e =
    let same = sym (reduced_lowest a b r) ∙ reduced_same a b c d p q e ∙ reduced_lowest c d s in
    (ap (λ x. x.num) same, ap (λ x. x.den) same)

-- a whole number is in lowest terms
pub whole_IsReduced : (n : ℕ) → IsReduced n 1
whole_IsReduced n k u v = dvd_antisymm v (one-dvd k)

pub IsReduced-swap : (n d : ℕ) → IsReduced n d → IsReduced d n
IsReduced-swap n d r k u v = r k v u

-- parts of two numbers with no common divisor have none
pub IsReduced-part : (n d m e : ℕ) → m ∣ n → e ∣ d → IsReduced n d → IsReduced m e
IsReduced-part n d m e u v r k p q = r k (dvd_trans k p u) (dvd_trans k q v)

-- what divides a product and has no divisor in common with the first factor divides the second
pub divides_other : (a b d : ℕ) → 0 < d → IsReduced a b → b ∣ a * d → b ∣ d
divides_other a b d p r h =
    let g : gcd (d * a) (d * b) ≡ d = gcd-scaled d a b p ∙ ap (λ n. d * n) (gcd_one a b r) ∙ omega arith in
    let c : IsGcd (d * a) (d * b) (gcd (d * a) (d * b)) = gcd-IsGcd (d * a) (d * b) in
    subst (λ n. b ∣ n) g (c.2 b (subst (λ n. b ∣ n) (mul_comm a d) h) (dvd-mul_left b d))

-- a product has no divisor in common with a number with which neither factor has one
pub IsReduced-mul : (x y z : ℕ) → IsReduced x z → IsReduced y z → IsReduced (x * y) z
IsReduced-mul x zero z r s k u v = s k (dvd-zero k) v
IsReduced-mul x (suc y) z r s k u v =
    s k (divides_other x k (suc y) (omega arith) (IsReduced-part x z x k (dvd_refl x) v r) u) v
