-- How many different users a side may have, of so many flows.
use Rattle.fairness.proofs.Common.{◌≡◌, ◌≢◌, ℕ, zero, suc, ◌+◌, ◌-◌, ◌<◌, ◌≤◌, cond, List, [], ◌∷◌, length, All}
use Rattle.fairness.proofs.Common.{AllPairs, sum_by, inl, inr, refl, sym, ap, arith, cases_eq, cases_lt, eq-eqb}
use Rattle.fairness.proofs.Common.{All-head, All-tail, sum_by-cons}
use Rattle.std.proofs.Common.{eqb}
use Rattle.std.proofs.lemmas.Bool.{ne_eqb}
use Rattle.fairness.proofs.Lists.Sums.{sum_by_same}
pub use Rattle.fairness.specs.Fairness.Exists.{HaveDistinctUsers}

-- what the first flows have together
abbrev pub sum_below : (ℕ → ℕ) → ℕ → ℕ
sum_below f zero = 0
sum_below f (suc n) = sum_below f n + f n

-- what each has, but one, which has nothing
abbrev without : (ℕ → ℕ) → ℕ → ℕ → ℕ
without f x i = cond (eqb i x) 0 (f i)

without_one : (f : ℕ → ℕ) (x i : ℕ) → i ≡ x → without f x i ≡ 0
without_one f x i e = ap (λ b. cond b 0 (f i)) (eq-eqb i x e)

without_other : (f : ℕ → ℕ) (x i : ℕ) → (i ≡ x → ⊥) → without f x i ≡ f i
without_other f x i ne = ap (λ b. cond b 0 (f i)) (ne_eqb i x ne)

below_same : (f : ℕ → ℕ) (x n : ℕ) → n ≤ x → sum_below (without f x) n ≡ sum_below f n
below_same f x zero le = refl
below_same f x (suc n) le =
    omega (arith, below_same f x n (omega arith), without_other f x n (λ e. absurd (omega arith)))

below_without : (f : ℕ → ℕ) (x n : ℕ) → x < n → sum_below (without f x) n + f x ≡ sum_below f n
below_without f x zero h = absurd (omega arith)
below_without f x (suc n) h = elim (cases_eq n x) [
  | inl e ↦ omega (arith, below_same f x n (omega arith), without_one f x n e, ap f e)
  | inr ne ↦ omega (arith, below_without f x n (lt_of n x h ne), without_other f x n ne)
]
  where
    lt_of : (n x : ℕ) → x < suc n → (n ≡ x → ⊥) → x < n
    lt_of n x h ne = elim (cases_lt x n) [ inl lt ↦ lt | inr le ↦ absurd (ne (omega arith)) ]

-- the elements of a list are different
abbrev pub AreDistinct : List ℕ → Type 0
AreDistinct xs = AllPairs (λ user other. user ≢ other) xs

distinct_head : (x : ℕ) (xs : List ℕ) → AreDistinct (x ∷ xs) → All (λ y. x ≢ y) xs
distinct_head x xs h k d l = h 0 (suc k) d (omega arith) (omega arith)

distinct_tail : (x : ℕ) (xs : List ℕ) → AreDistinct (x ∷ xs) → AreDistinct xs
distinct_tail x xs h i j d lt l = h (suc i) (suc j) d (omega arith) (omega arith)

-- some different ones of the first flows have no more together than all of them
pub distinct_at_most : (n : ℕ) (xs : List ℕ) (f : ℕ → ℕ) → AreDistinct xs → All (λ x. x < n) xs
    → sum_by f xs ≤ sum_below f n
distinct_at_most n [] f apart among = omega arith
distinct_at_most n (x ∷ xs) f apart among =
    let others = distinct_head x xs apart in
    let same = sum_by_same f (without f x) xs (λ k d l. sym (without_other f x _ (λ e. others k d l (sym e)))) in
    omega (
      arith,
      sum_by-cons f x xs,
      same,
      distinct_at_most n xs (without f x) (distinct_tail x xs apart) (All-tail (λ y. y < n) x xs among),
      below_without f x n (All-head (λ y. y < n) x xs among),
    )

ones : (xs : List ℕ) → sum_by (λ _. 1) xs ≡ length xs
ones [] = refl
ones (x ∷ xs) = omega (arith, sum_by-cons (λ _. 1) x xs, ones xs)

-- ---- what changes where each has less

pub below_difference : (f g : ℕ → ℕ) → ((i : ℕ) → g i ≤ f i) → (n : ℕ)
    → sum_below (λ i. f i - g i) n + sum_below g n ≡ sum_below f n
below_difference f g le zero = refl
below_difference f g le (suc n) = omega (arith, below_difference f g le n, le n)

-- where those of the list have nothing left, all have less by what these had
pub below_less : (n : ℕ) (xs : List ℕ) (f g : ℕ → ℕ) → AreDistinct xs → All (λ x. x < n) xs → ((i : ℕ) → g i ≤ f i)
    → All (λ x. g x ≡ 0) xs → sum_below g n + sum_by f xs ≤ sum_below f n
below_less n xs f g apart among le none =
    let same = sum_by_same f (λ i. f i - g i) xs (λ k d l. difference _ _ (none k d l)) in
    omega (arith, same, below_difference f g le n, distinct_at_most n xs (λ i. f i - g i) apart among)
  where
    difference : (a b : ℕ) → b ≡ 0 → a ≡ a - b
    difference a b e = omega arith
