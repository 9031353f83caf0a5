-- The least common multiple of all products of whole numbers above zero whose sum is at most n.
use Rattle.fairness.proofs.Common.{◌∣◌, ◌≡◌, ℕ, zero, suc, ◌+◌, ◌-◌, ◌*◌, ◌/◌, ◌<◌, ◌≤◌, inl, inr, List, [], ◌∷◌}
use Rattle.fairness.proofs.Common.{length, get_or, All, refl, sym, ap, ◌∙◌, subst, arith, dvd-zero, dvd-mul_left}
use Rattle.fairness.proofs.Common.{dvd-mul_right, mul-div_cancel', mul-pos, cases_lt, All-head, All-tail, All-nil}
use Rattle.fairness.proofs.Common.{All-cons, sum_by-cons, gcd, product, gcd-IsGcd, gcd-pos, rules}
use Rattle.std.specs.List.{sum}
use Rattle.std.proofs.Math.Nat.{dvd_refl, dvd_trans, le_of_dvd, one-dvd, mul-dvd-mul_left, mul-dvd-mul_right}
use Rattle.std.proofs.Math.Nat.{dvd_of_mul-dvd-mul_left, dvd_of_mul-dvd-mul_right}
use Rattle.std.proofs.lemmas.Nat.Gcd.{dvd_antisymm}
use Rattle.fairness.specs.Numbers.Amount.{gcd_within}
use Rattle.fairness.specs.Fairness.Exists.{AreAddends, IsMultipleOfAll, IsLeastMultiple, AreLeastMultiplesFrom}
use Rattle.fairness.specs.Numbers.Gcd.{gcd-scaled}

-- ---- of two numbers

lcm : ℕ → ℕ → ℕ
lcm a b = a * (b / gcd a b)

lcm-left : (a b : ℕ) → a ∣ lcm a b
unfolding lcm
lcm-left a b = dvd-mul_right a (b / gcd a b)

lcm-right : (a b : ℕ) → b ∣ lcm a b
unfolding lcm
lcm-right a b =
    let g = gcd-IsGcd a b in
    let first : gcd a b * (a / gcd a b) ≡ a = mul-div_cancel' (gcd a b) g.0 in
    let second : gcd a b * (b / gcd a b) ≡ b = mul-div_cancel' (gcd a b) g.1 in
    let e : b * (a / gcd a b) ≡ a * (b / gcd a b) =
    omega (arith, ap (λ n. n * (b / gcd a b)) first, ap (λ n. n * (a / gcd a b)) second) in
    subst (λ n. b ∣ n) e (dvd-mul_right b (a / gcd a b))

lcm-pos : (a b : ℕ) → 0 < a → 0 < b → 0 < lcm a b
unfolding lcm
lcm-pos a b first second =
    let g = gcd-IsGcd a b in
    let e : gcd a b * (b / gcd a b) ≡ b = mul-div_cancel' (gcd a b) g.1 in
    mul-pos first (some_factor (gcd a b) (b / gcd a b) b e second)
  where
    some_factor : (g q b : ℕ) → g * q ≡ b → 0 < b → 0 < q
    some_factor g zero b e h = absurd (omega arith)
    some_factor g (suc q) b e h = omega arith

lcm-least : (a b m : ℕ) → 0 < b → a ∣ m → b ∣ m → lcm a b ∣ m
unfolding lcm
lcm-least a b zero some first second = dvd-zero (lcm a b)
lcm-least a b (suc n) some first second =
    let m : ℕ = suc n in
    let g = gcd-IsGcd (m * a) (m * b) in
    let left : a * b ∣ m * a = subst (λ k. a * b ∣ k) (omega arith) (mul-dvd-mul_left b a second) in
    let right : a * b ∣ m * b = mul-dvd-mul_right a first b in
    let both : a * b ∣ m * gcd a b = subst (λ k. a * b ∣ k) (gcd-scaled m a b (omega arith)) (g.2 (a * b) left right) in
    let whole : gcd a b * (b / gcd a b) ≡ b = mul-div_cancel' (gcd a b) (gcd-IsGcd a b).1 in
    let e : a * b ≡ a * (b / gcd a b) * gcd a b = omega (arith, ap (λ k. a * k) whole) in
    dvd_of_mul-dvd-mul_right (a * (b / gcd a b)) (gcd-pos a b some) (subst (λ k. k ∣ m * gcd a b) e both)

-- ---- of all products

-- the least common multiple of k times the first, k + 1 times the second, and so on
multiple_from : ℕ → List ℕ → ℕ
multiple_from k [] = 1
multiple_from k (d ∷ ds) = lcm (k * d) (multiple_from (suc k) ds)

-- the last of the numbers is k, and before it stand products whose sum is at most n - k: so the entry at n has k times
-- that at n - k for each k; here from the entry at n down to that at 0
entries : ℕ → List ℕ
entries zero = 1 ∷ []
entries (suc n) = multiple_from 1 (entries n) ∷ entries n

-- the entry at that number of flows
pub denominator_of : ℕ → ℕ
denominator_of n = get_or (entries n) 0 0

length_entries : (n : ℕ) → length (entries n) ≡ suc n
unfolding entries
length_entries zero = refl
length_entries (suc n) = ap suc (length_entries n)

entry_at : (n i : ℕ) → i ≤ n → get_or (entries n) i 0 ≡ denominator_of (n - i)
unfolding entries denominator_of
entry_at zero zero le = refl
entry_at zero (suc i) le = absurd (omega arith)
entry_at (suc n) zero le = let e : suc n - zero ≡ suc n = omega arith in rw e refl
entry_at (suc n) (suc i) le = let e : suc n - suc i ≡ n - i = omega arith in rw e (entry_at n i (omega arith))

of_none : denominator_of 0 ≡ 1
unfolding entries denominator_of
of_none = refl

of_more : (n : ℕ) → denominator_of (suc n) ≡ multiple_from 1 (entries n)
unfolding entries denominator_of
of_more n = refl

has_each : (k : ℕ) (ds : List ℕ) (i : ℕ) → i < length ds → (k + i) * get_or ds i 0 ∣ multiple_from k ds
unfolding multiple_from
has_each k [] i l = absurd (omega arith)
has_each k (d ∷ ds) zero l =
    let e : k * d ≡ (k + 0) * d = omega arith in
    subst (λ n. n ∣ lcm (k * d) (multiple_from (suc k) ds)) e (lcm-left (k * d) _)
has_each k (d ∷ ds) (suc i) l =
    let e : suc k + i ≡ k + suc i = omega arith in
    dvd_trans _ (subst (λ n. n * get_or ds i 0 ∣ multiple_from (suc k) ds) e (has_each (suc k) ds i (omega arith)))
    (lcm-right (k * d) _)

multiple-pos : (k : ℕ) (ds : List ℕ) → 0 < k → All (λ d. 0 < d) ds → 0 < multiple_from k ds
unfolding multiple_from
multiple-pos k [] some h = omega arith
multiple-pos k (d ∷ ds) some h =
    lcm-pos (k * d) (multiple_from (suc k) ds) (mul-pos some (All-head (λ d. 0 < d) d ds h))
    (multiple-pos (suc k) ds (omega arith) (All-tail (λ d. 0 < d) d ds h))

divides_each : (k : ℕ) (ds : List ℕ) (m : ℕ) → 0 < k → All (λ d. 0 < d) ds
    → ((i : ℕ) → i < length ds → (k + i) * get_or ds i 0 ∣ m) → multiple_from k ds ∣ m
unfolding multiple_from
divides_each k [] m some pos h = one-dvd m
divides_each k (d ∷ ds) m some pos h =
    let rest = All-tail (λ d. 0 < d) d ds pos in
    let first : k * d ∣ m = let e : (k + 0) * d ≡ k * d = omega arith in subst (λ n. n ∣ m) e (h 0 (omega arith)) in
    lcm-least (k * d) (multiple_from (suc k) ds) m (multiple-pos (suc k) ds (omega arith) rest) first
    (divides_each (suc k) ds m (omega arith) rest (λ i l. let e : k + suc i ≡ suc k + i = omega arith in
    subst (λ n. n * get_or ds i 0 ∣ m) e (h (suc i) (omega arith))))

-- ---- entries divide later ones

-- k flows that divide a rest over the entry at m have rates over the entry at m + k
pub divides : (m k : ℕ) → 0 < k → k * denominator_of m ∣ denominator_of (m + k)
divides m zero some = absurd (omega arith)
divides m (suc k) some =
    let n : ℕ = m + k in
    let within : k < length (entries n) = omega (arith, length_entries n) in
    let back : n - k ≡ m = omega arith in
    let at : get_or (entries n) k 0 ≡ denominator_of m = entry_at n k (omega arith) ∙ ap denominator_of back in
    let e : 1 + k ≡ suc k = omega arith in
    let next : suc n ≡ m + suc k = omega arith in
    subst (λ j. suc k * denominator_of m ∣ denominator_of j) next (rw of_more
    (subst (λ j. suc k * j ∣ multiple_from 1 (entries n)) at
    (subst (λ j. j * get_or (entries n) k 0 ∣ multiple_from 1 (entries n)) e (has_each 1 (entries n) k within))))

all_positive : (n : ℕ) → All (λ d. 0 < d) (entries n)
unfolding entries
all_positive zero = All-cons (λ d. 0 < d) 1 [] (omega arith) (All-nil (λ d. 0 < d))
all_positive (suc n) = search (rules, All-cons, multiple_from, entries, multiple-pos, all_positive n)

pub positive : (n : ℕ) → 0 < denominator_of n
unfolding denominator_of
positive n = all_positive n 0 0 (omega (arith, length_entries n))

-- an entry divides each later one
pub divides_later : (m n : ℕ) → m ≤ n → denominator_of m ∣ denominator_of n
divides_later m n le = elim (cases_lt m n) [
  | inl less ↦
      let e : m + (n - m) ≡ n = omega arith in
      subst (λ j. denominator_of m ∣ denominator_of j) e
      (dvd_trans (denominator_of m) (dvd-mul_left (denominator_of m) (n - m)) (divides m (n - m) (omega arith)))
  | inr ge ↦ let e : m ≡ n = omega arith in
      subst (λ j. denominator_of m ∣ denominator_of j) e (dvd_refl (denominator_of m))
]

-- ---- they are the least common multiples

-- each product divides the entry
has_product : (n : ℕ) (ks : List ℕ) → AreAddends n ks → product ks ∣ denominator_of n
has_product n [] h = one-dvd (denominator_of n)
has_product n (k ∷ ks) h =
    let some : 0 < k = All-head (λ k. 0 < k) k ks h.positive in
    let whole : sum (k ∷ ks) ≡ k + sum ks = sum_by-cons (λ k. k) k ks in
    let within : k + sum ks ≤ n = omega (arith, whole, h.within) in
    let rest : product ks ∣ denominator_of (n - k) =
    has_product (n - k) ks (record { positive = All-tail (λ k. 0 < k) k ks h.positive; within = omega arith }) in
    let e : n - k + k ≡ n = omega arith in
    dvd_trans (k * product ks) (mul-dvd-mul_left (product ks) k rest)
    (subst (λ j. k * denominator_of (n - k) ∣ denominator_of j) e (divides (n - k) k some))

-- k and then numbers whose sum is at most n
one_more : (n k : ℕ) (ks : List ℕ) → 0 < k → AreAddends n ks → AreAddends (k + n) (k ∷ ks)
one_more n k ks some h = search (rules, sum_by-cons, positive, All-cons)

-- a multiple of all that have k among the numbers is k times one of the others
without_one : (n k m : ℕ) → 0 < k → IsMultipleOfAll (k + n) m → (k * (m / k) ≡ m) × IsMultipleOfAll n (m / k)
without_one n k m some h =
    let none : AreAddends n [] = record { positive = All-nil (λ k. 0 < k); within = omega arith } in
    let own : k ∣ m = let e : k * 1 ≡ k = omega arith in
    subst (λ j. j ∣ m) e (h (k ∷ []) (one_more n k [] some none)) in
    let back : k * (m / k) ≡ m = mul-div_cancel' k own in (
      back,
      λ ks adds.
          dvd_of_mul-dvd-mul_left (product ks) some
          (subst (λ j. k * product ks ∣ j) (sym back) (h (k ∷ ks) (one_more n k ks some adds))),
    )

-- what is a multiple of all products is one of the entry
entry_divides : (fuel n : ℕ) → n < fuel → (m : ℕ) → IsMultipleOfAll n m → denominator_of n ∣ m
entry_divides zero n enough m h = absurd (omega arith)
entry_divides (suc fuel) zero enough m h = rw of_none (one-dvd m)
entry_divides (suc fuel) (suc n) enough m h =
    rw of_more (divides_each 1 (entries n) m (omega arith) (all_positive n) (λ i l. by_place i
    (omega (arith, length_entries n)) (λ j le. entry_divides fuel (n - j) (omega arith) _)))
  where
    by_place : (i : ℕ) → i ≤ n
        → ((j : ℕ) → j ≤ n → IsMultipleOfAll (n - j) (m / (1 + j)) → denominator_of (n - j) ∣ m / (1 + j))
        → (1 + i) * get_or (entries n) i 0 ∣ m
    by_place i le ih =
        let all : 1 + i + (n - i) ≡ suc n = omega arith in
        let rest = without_one (n - i) (1 + i) m (omega arith) (subst (λ j. IsMultipleOfAll j m) (sym all) h) in
        rw (entry_at n i le) (subst (λ j. (1 + i) * denominator_of (n - i) ∣ j) rest.0
        (mul-dvd-mul_left _ (1 + i) (ih i le rest.1)))

pub is_least_multiple : (n : ℕ) → IsLeastMultiple n (denominator_of n)
is_least_multiple n = search (rules, positive, has_product, entry_divides)

pub one_multiple : (n per other : ℕ) → IsLeastMultiple n per → IsLeastMultiple n other → per ≡ other
one_multiple n per other a b = dvd_antisymm (a.least other b.multiple) (b.least per a.multiple)

-- ---- the first ones

-- so many entries, from the one at n on
entries_on : ℕ → ℕ → List ℕ
entries_on zero n = []
entries_on (suc many) n = denominator_of n ∷ entries_on many (n + 1)

multiples_on : (many n : ℕ) → AreLeastMultiplesFrom n (entries_on many n)
unfolding entries_on
multiples_on zero n = tt
multiples_on (suc many) n = (is_least_multiple n, multiples_on many (n + 1))

table : entries_on 17 0
    ≡ 1 ∷ 1 ∷ 2 ∷ 6 ∷ 12 ∷ 60 ∷ 360 ∷ 2520 ∷ 5040 ∷ 15120 ∷ 151200 ∷ 1663200 ∷ 9979200 ∷ 129729600 ∷ 1816214400
    ∷ 27243216000 ∷ 54486432000 ∷ []
unfolding entries_on denominator_of entries multiple_from lcm gcd_within
table = refl

pub first_multiples : AreLeastMultiplesFrom 0
    (1 ∷ 1 ∷ 2 ∷ 6 ∷ 12 ∷ 60 ∷ 360 ∷ 2520 ∷ 5040 ∷ 15120 ∷ 151200 ∷ 1663200 ∷ 9979200 ∷ 129729600 ∷ 1816214400
    ∷ 27243216000 ∷ 54486432000 ∷ [])
first_multiples = subst (λ ms. AreLeastMultiplesFrom 0 ms) table (multiples_on 17 0)

pub of_four : denominator_of 4 ≡ 12
unfolding denominator_of entries multiple_from lcm gcd_within
of_four = refl

pub of_sixteen : denominator_of 16 ≡ 54486432000
unfolding denominator_of entries multiple_from lcm gcd_within
of_sixteen = refl

-- that of sixteen flows is the greatest of those of no more
pub at_most : (m : ℕ) → m ≤ 16 → denominator_of m ≤ 54486432000
at_most m small = subst (λ n. denominator_of m ≤ n) of_sixteen (le_of_dvd (positive 16) (divides_later m 16 small))
