-- Sums of two amounts over one list.
use Rattle.fairness.proofs.Common.{◌≡◌, ℕ, ◌<◌, List, [], ◌∷◌, All, Contains, sum_by, count_by, Bool, true, false}
use Rattle.fairness.proofs.Common.{cond, refl, ap, arith, All-head, All-tail, Contains-append_right, sum_by-cons}

pub sum_by_same : (f g : ℕ → ℕ) (xs : List ℕ) → All (λ x. f x ≡ g x) xs → sum_by f xs ≡ sum_by g xs
sum_by_same f g [] h = refl
sum_by_same f g (x ∷ xs) h =
    omega (
      arith,
      sum_by-cons f x xs,
      sum_by-cons g x xs,
      All-head (λ y. f y ≡ g y) x xs h,
      sum_by_same f g xs (All-tail (λ y. f y ≡ g y) x xs h),
    )

pub sum_by-zero : (xs : List ℕ) → sum_by (λ _. 0) xs ≡ 0
sum_by-zero [] = refl
sum_by-zero (x ∷ xs) = omega (arith, sum_by-cons (λ _. 0) x xs, sum_by-zero xs)

first_counted : {X : Type 0} (p : X → Bool) (x : X) (xs : List X) → 0 < count_by p (x ∷ xs)
    → (0 < count_by p xs → (y : X) × Contains xs y × (p y ≡ true)) → (b : Bool) → p x ≡ b
    → (y : X) × Contains (x ∷ xs) y × (p y ≡ true)
first_counted p x xs some rest true e = (x, (0, omega arith, refl), e)
first_counted p x xs some rest false e =
    let one : Bool → ℕ = λ b. cond b 1 0 in
    let none : one (p x) ≡ 0 = ap one e in
    let later = rest (omega (arith, none, sum_by-cons (λ y. cond (p y) 1 0) x xs)) in
    (later.0, Contains-append_right (x ∷ []) xs later.0 later.1, later.2)

-- where some are counted there is one of them
pub counted : {X : Type 0} (p : X → Bool) (xs : List X) → 0 < count_by p xs → (x : X) × Contains xs x × (p x ≡ true)
counted p [] some = absurd (omega arith)
counted p (x ∷ xs) some = first_counted p x xs some (counted p xs) (p x) refl
