-- Sums of two amounts over one list.
use Rattle.fairness.proofs.Common.{◌≡◌, ℕ, zero, suc, ◌*◌, ◌<◌, ◌≤◌, ◌⊎◌, inl, inr, List, [], ◌∷◌, length, get_or, All}
use Rattle.fairness.proofs.Common.{Contains, sum_by, refl, sym, subst, arith, le_refl, cases_lt, All-cons, All-head}
use Rattle.fairness.proofs.Common.{All-tail, All-nil, Contains-append_left, Contains-append_right, sum_by-cons, rules}
use Rattle.std.proofs.Common.{add-mul}
use Rattle.std.proofs.lemmas.List.Elements.{Contains-get_or}

-- what each member has, all elements have
pub All-from_contains : {X : Type 0} (P : X → Type 0) (xs : List X) → ((x : X) → Contains xs x → P x) → All P xs
All-from_contains P xs h k d l = h (get_or xs k d) (Contains-get_or xs k d l)

pub sum_by-scaled : (f : ℕ → ℕ) (k : ℕ) (xs : List ℕ) → sum_by (λ x. f x * k) xs ≡ sum_by f xs * k
sum_by-scaled f k [] = omega arith
sum_by-scaled f k (x ∷ xs) = search (rules, sum_by-cons, add-mul, sum_by-scaled f k xs)

pub sum_by-zero : (f : ℕ → ℕ) (xs : List ℕ) → All (λ x. f x ≡ 0) xs → sum_by f xs ≡ 0
sum_by-zero f [] h = refl
sum_by-zero f (x ∷ xs) h =
    omega (arith, sum_by-cons f x xs, All-head (λ y. f y ≡ 0) x xs h, sum_by-zero f xs (All-tail (λ y. f y ≡ 0) x xs h))

module _ (f g : ℕ → ℕ) where
  pub sum_by-below : (xs : List ℕ) → All (λ x. f x ≤ g x) xs → sum_by f xs ≤ sum_by g xs
  sum_by-below [] h = le_refl 0
  sum_by-below (x ∷ xs) h =
      omega (
        arith,
        sum_by-cons f x xs,
        sum_by-cons g x xs,
        All-head (λ y. f y ≤ g y) x xs h,
        sum_by-below xs (All-tail (λ y. f y ≤ g y) x xs h),
      )

  under_at : (xs : List ℕ) (k d : ℕ) → k < length xs → All (λ x. f x ≤ g x) xs → f (get_or xs k d) < g (get_or xs k d)
      → sum_by f xs < sum_by g xs
  under_at [] k d l h s = absurd (omega arith)
  under_at (x ∷ xs) zero d l h s =
      omega (arith, sum_by-cons f x xs, sum_by-cons g x xs, s, sum_by-below xs (All-tail (λ y. f y ≤ g y) x xs h))
  under_at (x ∷ xs) (suc k) d l h s =
      omega (
        arith,
        sum_by-cons f x xs,
        sum_by-cons g x xs,
        All-head (λ y. f y ≤ g y) x xs h,
        under_at xs k d (omega arith) (All-tail (λ y. f y ≤ g y) x xs h) s,
      )

  -- where no term is greater and one is less, the sum is less
  pub sum_by-under : (xs : List ℕ) (x : ℕ) → Contains xs x → All (λ y. f y ≤ g y) xs → f x < g x
      → sum_by f xs < sum_by g xs
  sum_by-under xs x c h s = under_at xs c.0 x c.1 h (subst (λ y. f y < g y) (sym c.2) s)

  -- f is at most g on the list, or some element shows that it is not
  pub at_most_or_more : (xs : List ℕ) → All (λ x. f x ≤ g x) xs ⊎ ((x : ℕ) × Contains xs x × (g x < f x))
  at_most_or_more [] = inl (All-nil (λ x. f x ≤ g x))
  at_most_or_more (x ∷ xs) = elim (cases_lt (g x) (f x)) [
    | inl more ↦ inr (x, Contains-append_left (x ∷ []) xs x (0, omega arith, refl), more)
    | inr less ↦ elim (at_most_or_more xs) [
      | inl all ↦ inl (All-cons (λ y. f y ≤ g y) x xs less all)
      | inr (y, c, more) ↦ inr (y, Contains-append_right (x ∷ []) xs y c, more)
    ]
  ]
