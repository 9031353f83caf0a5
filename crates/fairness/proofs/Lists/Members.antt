-- Members of lists, by recursion.
use Rattle.fairness.proofs.Common.{◌≡◌, ℕ, zero, suc, ◌<◌, List, [], ◌∷◌, ◌++◌, map, length, Bool, true, false, cond}
use Rattle.fairness.proofs.Common.{Some, refl, sym, ap, subst, arith, ◌⊎◌, inl, inr, Contains, slice_get, filter}
use Rattle.fairness.proofs.Common.{list_all, list_any, and_parts, and_from, rules}
use Rattle.std.specs.List.{flat_map}
use Rattle.std.proofs.lemmas.Bool.{or_parts, or_from}

abbrev pub In : {X : Type 0} → List X → X → Type 0
In [] x = ⊥
In (y ∷ ys) x = (y ≡ x) ⊎ In ys x

pub in_from_contains : {X : Type 0} (xs : List X) (x : X) → Contains xs x → In xs x
in_from_contains [] x (k, below, e) = absurd (omega arith)
in_from_contains (y ∷ ys) x (zero, below, e) = inl e
in_from_contains (y ∷ ys) x (suc k, below, e) = inr (in_from_contains ys x (k, omega arith, e))

pub contains_from_in : {X : Type 0} (xs : List X) (x : X) → In xs x → Contains xs x
contains_from_in [] x h = absurd h
contains_from_in (y ∷ ys) x (inl e) = (0, omega arith, e)
contains_from_in (y ∷ ys) x (inr h) =
    let c : Contains ys x = contains_from_in ys x h in let below : c.0 < length ys = c.1 in (suc c.0, omega arith, c.2)

pub in_left : {X : Type 0} (xs ys : List X) (x : X) → In xs x → In (xs ++ ys) x
in_left [] ys x h = absurd h
in_left (y ∷ xs) ys x (inl e) = inl e
in_left (y ∷ xs) ys x (inr h) = inr (in_left xs ys x h)

pub in_right : {X : Type 0} (xs ys : List X) (x : X) → In ys x → In (xs ++ ys) x
in_right [] ys x h = h
in_right (y ∷ xs) ys x h = inr (in_right xs ys x h)

pub in_either : {X : Type 0} (xs ys : List X) (x : X) → In (xs ++ ys) x → In xs x ⊎ In ys x
in_either [] ys x h = inr h
in_either (y ∷ xs) ys x (inl e) = inl (inl e)
in_either {X} (y ∷ xs) ys x (inr h) = search (rules, in_either xs ys x h)

pub in_filter : {X : Type 0} (test : X → Bool) (xs : List X) (x : X) → In xs x → test x ≡ true → In (filter test xs) x
in_filter test [] x h t = absurd h
in_filter {X} test (y ∷ ys) x h t = by_test (test y) refl h (λ g. in_filter test ys x g t)
  where
    by_test : (b : Bool) → test y ≡ b → (y ≡ x) ⊎ In ys x → (In ys x → In (filter test ys) x)
        → In (cond b (y ∷ filter test ys) (filter test ys)) x
    by_test true is (inl e) ih = inl e
    by_test true is (inr g) ih = inr (ih g)
    by_test false is (inl e) ih = let u : test y ≡ test x = ap test e in cc
    by_test false is (inr g) ih = ih g

pub from_filter : {X : Type 0} (test : X → Bool) (xs : List X) (x : X) → In (filter test xs) x
    → In xs x × (test x ≡ true)
from_filter test [] x h = absurd h
from_filter {X} test (y ∷ ys) x h = by_test (test y) refl h (λ g. from_filter test ys x g)
  where
    by_test : (b : Bool) → test y ≡ b → In (cond b (y ∷ filter test ys) (filter test ys)) x
        → (In (filter test ys) x → In ys x × (test x ≡ true)) → In (y ∷ ys) x × (test x ≡ true)
    by_test true is (inl e) ih = (inl e, subst (λ (z : X). test z ≡ true) e is)
    by_test true is (inr g) ih = let r : In ys x × (test x ≡ true) = ih g in (inr r.0, r.1)
    by_test false is g ih = let r : In ys x × (test x ≡ true) = ih g in (inr r.0, r.1)

pub in_map : {X Y : Type 0} (f : X → Y) (xs : List X) (x : X) → In xs x → In (map f xs) (f x)
in_map f [] x h = absurd h
in_map f (y ∷ ys) x (inl e) = inl (ap f e)
in_map f (y ∷ ys) x (inr h) = inr (in_map f ys x h)

pub from_map : {X Y : Type 0} (f : X → Y) (xs : List X) (y : Y) → In (map f xs) y → (x : X) × In xs x × (f x ≡ y)
from_map f [] y h = absurd h
from_map f (x ∷ xs) y (inl e) = (x, inl refl, e)
from_map {X} {Y} f (x ∷ xs) y (inr h) = let r : (z : X) × In xs z × (f z ≡ y) = from_map f xs y h in (r.0, inr r.1, r.2)

pub in_get : {X : Type 0} (xs : List X) (i : ℕ) (x : X) → slice_get xs i ≡ Some x → In xs x
in_get [] i x e = cc
in_get (y ∷ ys) zero x e = inl cc
in_get (y ∷ ys) (suc i) x e = inr (in_get ys i x e)

-- where a member stands
pub get_in : {X : Type 0} (xs : List X) (x : X) → In xs x → (i : ℕ) × (slice_get xs i ≡ Some x)
get_in [] x h = absurd h
get_in (y ∷ ys) x (inl e) = (0, ap Some e)
get_in {X} (y ∷ ys) x (inr h) = let r : (i : ℕ) × (slice_get ys i ≡ Some x) = get_in ys x h in (suc r.0, r.1)

-- what no member passes
pub none_passes : {X : Type 0} (test : X → Bool) (xs : List X) → list_any test xs ≡ false → (x : X) → In xs x
    → test x ≡ false
none_passes test [] e x h = absurd h
none_passes {X} test (y ∷ ys) e x (inl same) = search (rules, or_parts)
none_passes test (y ∷ ys) e x (inr h) = none_passes test ys (or_parts (test y) (list_any test ys) e).1 x h

pub any_fails : {X : Type 0} (test : X → Bool) (xs : List X) → ((x : X) → In xs x → test x ≡ false)
    → list_any test xs ≡ false
any_fails test [] h = refl
any_fails test (y ∷ ys) h = or_from (test y) _ (h y (inl refl)) (any_fails test ys (λ x g. h x (inr g)))

pub any_passes : {X : Type 0} (test : X → Bool) (xs : List X) (x : X) → In xs x → test x ≡ true
    → list_any test xs ≡ true
any_passes test xs x h t = search (rules, none_passes)

pub filter_nothing : {X : Type 0} (p : X → Bool) (xs : List X) → list_any p xs ≡ false → filter p xs ≡ []
filter_nothing p [] e = refl
filter_nothing p (x ∷ xs) e = search (rules, filter_nothing p xs)

-- some member passes, or none does
pub some_or_none : {X : Type 0} (test : X → Bool) (xs : List X)
    → ((x : X) × In xs x × (test x ≡ true)) ⊎ ((x : X) → In xs x → test x ≡ false)
some_or_none test [] = inr (λ x h. absurd h)
some_or_none {X} test (y ∷ ys) = by_test (test y) refl (some_or_none test ys)
  where
    by_test : (b : Bool) → test y ≡ b → ((x : X) × In ys x × (test x ≡ true)) ⊎ ((x : X) → In ys x → test x ≡ false)
        → ((x : X) × In (y ∷ ys) x × (test x ≡ true)) ⊎ ((x : X) → In (y ∷ ys) x → test x ≡ false)
    by_test true is ih = inl (y, inl refl, is)
    by_test false is (inl (x, h, t)) = inl (x, inr h, t)
    by_test false is (inr none) = inr (λ x. elim [ inl e ↦ subst (λ (z : X). test z ≡ false) e is | inr h ↦ none x h ])

pub get_from_map : {X Y : Type 0} (f : X → Y) (xs : List X) (i : ℕ) (y : Y) → slice_get (map f xs) i ≡ Some y
    → (x : X) × (slice_get xs i ≡ Some x) × (f x ≡ y)
get_from_map f [] i y e = cc
get_from_map f (x ∷ xs) zero y e = (x, refl, cc)
get_from_map f (x ∷ xs) (suc i) y e = get_from_map f xs i y e

pub in_flat_map : {X Y : Type 0} (f : X → List Y) (xs : List X) (x : X) (y : Y) → In xs x → In (f x) y
    → In (flat_map f xs) y
in_flat_map f [] x y h g = absurd h
in_flat_map {X} {Y} f (z ∷ zs) x y (inl e) g = in_left (f z) (flat_map f zs) y (subst (λ (w : X). In (f w) y) (sym e) g)
in_flat_map f (z ∷ zs) x y (inr h) g = in_right (f z) (flat_map f zs) y (in_flat_map f zs x y h g)

pub from_flat_map : {X Y : Type 0} (f : X → List Y) (xs : List X) (y : Y) → In (flat_map f xs) y
    → (x : X) × In xs x × In (f x) y
from_flat_map f [] y h = absurd h
from_flat_map {X} {Y} f (z ∷ zs) y h = by_part (in_either (f z) (flat_map f zs) y h) (λ g. from_flat_map f zs y g)
  where
    by_part : In (f z) y ⊎ In (flat_map f zs) y → (In (flat_map f zs) y → (x : X) × In zs x × In (f x) y)
        → (x : X) × In (z ∷ zs) x × In (f x) y
    by_part (inl g) ih = (z, inl refl, g)
    by_part (inr g) ih = let r : (x : X) × In zs x × In (f x) y = ih g in (r.0, inr r.1, r.2)

-- what all members pass
pub all_pass : {X : Type 0} (test : X → Bool) (xs : List X) → list_all test xs ≡ true → (x : X) → In xs x
    → test x ≡ true
all_pass test [] h x among = absurd among
all_pass {X} test (y ∷ xs) h x (inl e) = subst (λ (z : X). test z ≡ true) e (and_parts (test y) (list_all test xs) h).0
all_pass test (y ∷ xs) h x (inr among) = all_pass test xs (and_parts (test y) (list_all test xs) h).1 x among

pub all_passed : {X : Type 0} (test : X → Bool) (xs : List X) → ((x : X) → In xs x → test x ≡ true)
    → list_all test xs ≡ true
all_passed test [] h = refl
all_passed test (y ∷ xs) h = and_from (test y) _ (h y (inl refl)) (all_passed test xs (λ x among. h x (inr among)))
