-- The places of the elements of a list that pass a test.
use Rattle.fairness.proofs.Common.{◌≡◌, ◌≢◌, ℕ, zero, suc, ◌+◌, ◌<◌, ◌≤◌, List, [], ◌∷◌, length, Bool, true, false}
use Rattle.fairness.proofs.Common.{cond, Some, All, AllPairs, Contains, refl, subst, arith, inl, inr, slice_get}
use Rattle.fairness.proofs.Common.{AllZip, Contains-append_right, places_from, rules, common_steps}
use Rattle.std.proofs.lemmas.List.Kept.{AllPairs-cons}
use Rattle.fairness.proofs.Lists.SumOrder.{All-from_contains}
use Rattle.fairness.proofs.Lists.Members.{In, in_from_contains}

pub below_length : {X : Type 0} (xs : List X) (i : ℕ) (x : X) → slice_get xs i ≡ Some x → i < length xs
below_length [] i x e = cc
below_length (y ∷ ys) zero x e = omega arith
below_length (y ∷ ys) (suc i) x e = let h : i < length ys = below_length ys i x e in omega arith

in_cons : {X : Type 0} (y x : X) (xs : List X) → Contains xs x → Contains (y ∷ xs) x
in_cons y x xs has = Contains-append_right (y ∷ []) xs x has

-- one that passes the test is among the places
pub place_in : {X : Type 0} (place : ℕ) (test : X → Bool) (xs : List X) (i : ℕ) (x : X) → slice_get xs i ≡ Some x
    → test x ≡ true → Contains (places_from place test xs) (place + i)
place_in place test [] i x at e = cc
place_in place test (y ∷ ys) zero x at e = let same : y ≡ x = cc in rw (same, e) (0, omega arith, omega arith)
place_in {X} place test (y ∷ ys) (suc i) x at e =
    by_test (test y) (subst (λ (n : ℕ). Contains (places_from (place + 1) test ys) n) (omega arith)
    (place_in (place + 1) test ys i x at e))
  where
    by_test : (b : Bool) → Contains (places_from (place + 1) test ys) (place + suc i)
        → Contains (cond b (place ∷ places_from (place + 1) test ys) (places_from (place + 1) test ys)) (place + suc i)
    by_test true has = in_cons place (place + suc i) (places_from (place + 1) test ys) has
    by_test false has = has

pub place_here : {X : Type 0} (test : X → Bool) (xs : List X) (i : ℕ) (x : X) → slice_get xs i ≡ Some x → test x ≡ true
    → Contains (places_from 0 test xs) i
place_here test xs i x at e = grind (arith, common_steps, place_in 0 test xs i x)

-- what stands at a place of those that pass
pub passes_at : {X : Type 0} (place : ℕ) (test : X → Bool) (xs : List X) (i : ℕ) → In (places_from place test xs) i
    → (k : ℕ) × (place + k ≡ i) × (x : X) × (slice_get xs k ≡ Some x) × (test x ≡ true)
passes_at place test [] i h = absurd h
passes_at {X} place test (x ∷ xs) i h = by_test (test x) refl h (passes_at (place + 1) test xs i)
  where
    by_test : (b : Bool) → test x ≡ b
        → In (cond b (place ∷ places_from (place + 1) test xs) (places_from (place + 1) test xs)) i
        → (In (places_from (place + 1) test xs) i
        → (k : ℕ) × (place + 1 + k ≡ i) × (y : X) × (slice_get xs k ≡ Some y) × (test y ≡ true))
        → (k : ℕ) × (place + k ≡ i) × (y : X) × (slice_get (x ∷ xs) k ≡ Some y) × (test y ≡ true)
    by_test true is (inl e) ih = (0, omega (arith, e), x, refl, is)
    by_test true is (inr g) ih = let r = ih g in (suc r.0, omega (arith, r.1), r.2, r.3, r.4)
    by_test false is g ih = let r = ih g in (suc r.0, omega (arith, r.1), r.2, r.3, r.4)

pub passes_here : {X : Type 0} (test : X → Bool) (xs : List X) (i : ℕ) → In (places_from 0 test xs) i
    → (x : X) × (slice_get xs i ≡ Some x) × (test x ≡ true)
passes_here {X} test xs i h = search (rules, passes_at)

-- the same places pass tests that answer alike
pub places_alike : {X Y : Type 0} (R : X → Y → Type 0) (f : X → Bool) (g : Y → Bool)
    → ((x : X) (y : Y) → R x y → f x ≡ g y) → (place : ℕ) (xs : List X) (ys : List Y)
    → AllZip R xs ys → places_from place f xs ≡ places_from place g ys
places_alike R f g same place [] [] h = refl
places_alike R f g same place [] (y ∷ ys) h = absurd h
places_alike R f g same place (x ∷ xs) [] h = absurd h
places_alike R f g same place (x ∷ xs) (y ∷ ys) h = search (rules, places_alike R f g same (place + 1) xs ys h.1)

-- no place stands there twice
pub places_apart : {X : Type 0} (place : ℕ) (test : X → Bool) (xs : List X)
    → AllPairs (λ user other. user ≢ other) (places_from place test xs)
places_apart place test [] = λ i j d before below. absurd (omega arith)
places_apart {X} place test (x ∷ xs) = by_test (test x) (places_apart (place + 1) test xs)
  where
    rest : List ℕ
    rest = places_from (place + 1) test xs

    later : All (λ other. place ≢ other) (places_from (place + 1) test xs)
    later =
        All-from_contains (λ other. place ≢ other) (places_from (place + 1) test xs)
        (λ other has same. let at = passes_at (place + 1) test xs other
        (in_from_contains (places_from (place + 1) test xs) other has) in
        absurd (omega (arith, at.1, same)))

    by_test : (b : Bool) → AllPairs (λ user other. user ≢ other) (places_from (place + 1) test xs)
        → AllPairs (λ user other. user ≢ other)
        (cond b (place ∷ places_from (place + 1) test xs) (places_from (place + 1) test xs))
    by_test true ih = AllPairs-cons (λ user other. user ≢ other) place (places_from (place + 1) test xs) later ih
    by_test false ih = ih

pub places_below : {X : Type 0} (test : X → Bool) (xs : List X) (n : ℕ) → length xs ≤ n
    → All (λ user. user < n) (places_from 0 test xs)
places_below test xs n few =
    All-from_contains (λ user. user < n) (places_from 0 test xs)
    (λ user has. let at = passes_here test xs user (in_from_contains (places_from 0 test xs) user has) in
    let below : user < length xs = below_length xs user at.0 at.1 in
    omega arith)
