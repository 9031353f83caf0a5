-- Over the denominator of n flows from the start, what m frozen flows have is over that of m.
use Rattle.fairness.proofs.Common.{◌∣◌, ◌≡◌, ℕ, ◌+◌, ◌-◌, ◌*◌, ◌/◌, ◌<◌, ◌≤◌, List, [], ◌∷◌, sum_by, ap, subst, arith}
use Rattle.fairness.proofs.Common.{dvd-zero, dvd-mul_right, mul-div_cancel', eq_of_mul-eq-mul_right, mul-sub}
use Rattle.fairness.proofs.Common.{sum_by-cons}
use Rattle.std.proofs.Math.Nat.{dvd-add, dvd-sub, dvd-mul_right_of_dvd}
use Rattle.fairness.proofs.Fairness.Denominators.{denominator_of, divides, divides_later, positive}

-- so many parts, of which the denominator of n flows makes one, are whole over that of m
abbrev pub IsOver : ℕ → ℕ → ℕ → Type 0
IsOver n m parts = denominator_of n ∣ parts * denominator_of m

pub cap_over : (n m cap : ℕ) → IsOver n m (cap * denominator_of n)
cap_over n m c =
    let e : denominator_of n * (c * denominator_of m) ≡ c * denominator_of n * denominator_of m = omega arith in
    subst (λ k. denominator_of n ∣ k) e (dvd-mul_right (denominator_of n) (c * denominator_of m))

pub sums : (n m : ℕ) (f : ℕ → ℕ) (xs : List ℕ) → ((x : ℕ) → IsOver n m (f x)) → IsOver n m (sum_by f xs)
sums n m f [] h = let e : 0 ≡ 0 * denominator_of m = omega arith in subst (λ k. denominator_of n ∣ k) e (dvd-zero _)
sums n m f (x ∷ xs) h =
    let both = dvd-add _ (h x) (sums n m f xs h) in
    let e : f x * denominator_of m + sum_by f xs * denominator_of m ≡ sum_by f (x ∷ xs) * denominator_of m =
    rw (sum_by-cons f x xs) (omega arith) in
    subst (λ k. denominator_of n ∣ k) e both

pub rest : (n m a b : ℕ) → IsOver n m a → IsOver n m b → IsOver n m (a - b)
rest n m a b h k =
    let e : a * denominator_of m - b * denominator_of m ≡ (a - b) * denominator_of m =
    omega (arith, mul-sub (denominator_of m) a b) in
    subst (λ j. denominator_of n ∣ j) e (dvd-sub (denominator_of n) h k)

pub later : (n m m' parts : ℕ) → m ≤ m' → IsOver n m parts → IsOver n m' parts
later n m m' parts le over =
    let z = denominator_of m' / denominator_of m in
    let e : denominator_of m * z ≡ denominator_of m' = mul-div_cancel' (denominator_of m) (divides_later m m' le) in
    let scaled : parts * denominator_of m * z ≡ parts * denominator_of m' = omega (arith, ap (λ k. parts * k) e) in
    subst (λ k. denominator_of n ∣ k) scaled (dvd-mul_right_of_dvd (denominator_of n) over z)

-- k * entry * z is the next entry, next * u is the last, and left * entry is last * y
level_over : (k entry z next u last left y : ℕ) → 0 < entry → k * entry * z ≡ next → next * u ≡ last
    → last * y ≡ left * entry → (z * u * y * k ≡ left) × (last * (z * y) ≡ z * u * y * next)
level_over k entry z next u last left y pos first second third =
    let one : (z * u * y * k) * entry ≡ left * entry =
    omega (arith, ap (λ n. n * (u * y)) first, ap (λ n. n * y) second, third) in
    (eq_of_mul-eq-mul_right entry pos (z * u * y * k) left one, omega (arith, ap (λ n. n * (z * y)) second))

-- what k flows have left for each of them, whole over the denominator of m + k flows
pub record IsLevel (n m k left : ℕ) : Type 0 where
  pub level : ℕ
  pub share : level * k ≡ left
  pub over : IsOver n (m + k) level

pub level : (n m k left : ℕ) → 0 < k → m + k ≤ n → IsOver n m left → IsLevel n m k left
level n m k left some le over =
    let z = denominator_of (m + k) / (k * denominator_of m) in
    let u = denominator_of n / denominator_of (m + k) in
    let y = left * denominator_of m / denominator_of n in
    let e = level_over k (denominator_of m) z (denominator_of (m + k)) u (denominator_of n) left y (positive m)
    (mul-div_cancel' (k * denominator_of m) (divides m k some))
    (mul-div_cancel' (denominator_of (m + k)) (divides_later (m + k) n le)) (mul-div_cancel' (denominator_of n) over) in
    record {
      level = z * u * y;
      share = e.0;
      over = subst (λ j. denominator_of n ∣ j) e.1 (dvd-mul_right (denominator_of n) (z * y));
    }
