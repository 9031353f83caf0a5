-- A property of each element of a list, by recursion.
use Rattle.fairness.proofs.Common.{◌≡◌, ℕ, zero, suc, List, [], ◌∷◌, ◌++◌, Bool, true, false, cond, Some, All, subst}
use Rattle.fairness.proofs.Common.{slice_get, All-cons, All-nil, All-head, All-tail, filter, rules}
use Rattle.std.specs.Prelude.{⊤}
use Rattle.std.specs.List.{find}
use Rattle.fairness.specs.Lists.WithoutFirst.{without_first}

-- Q holds of each
abbrev pub Each : {X : Type 0} → (X → Type 0) → List X → Type 0
Each Q [] = ⊤
Each Q (x ∷ xs) = Q x × Each Q xs

pub each_map : {X : Type 0} (Q R : X → Type 0) (xs : List X) → ((x : X) → Q x → R x) → Each Q xs → Each R xs
each_map Q R [] f h = tt
each_map Q R (x ∷ xs) f h = (f x h.0, each_map Q R xs f h.1)

pub each_filtered : {X : Type 0} (Q : X → Type 0) (test : X → Bool) (xs : List X) → Each Q xs
    → Each (λ x. Q x × (test x ≡ true)) (filter test xs)
each_filtered Q test [] h = tt
each_filtered {X} Q test (x ∷ xs) h = search (rules, each_filtered Q test xs h.1)

pub each_find : {X : Type 0} (Q : X → Type 0) (test : X → Bool) (xs : List X) (x : X) → Each Q xs
    → find test xs ≡ Some x → Q x
each_find Q test [] x e is = cc
each_find {X} Q test (y ∷ ys) x e is = by_test (test y) is (λ g. each_find Q test ys x e.1 g)
  where
    by_test : (b : Bool) → cond b (Some y) (find test ys) ≡ Some x → (find test ys ≡ Some x → Q x) → Q x
    by_test true g ih = let same : y ≡ x = cc in subst Q same e.0
    by_test false g ih = ih g

pub each_without : {X : Type 0} (Q : X → Type 0) (test : X → Bool) (xs : List X) → Each Q xs
    → Each Q (without_first test xs)
each_without Q test [] e = tt
each_without {X} Q test (x ∷ xs) e = search (rules, each_without Q test xs e.1)

pub each_joined : {X : Type 0} (Q : X → Type 0) (xs : List X) (x : X) → Each Q xs → Q x → Each Q (xs ++ x ∷ [])
each_joined Q [] x e q = (q, tt)
each_joined Q (y ∷ ys) x e q = (e.0, each_joined Q ys x e.1 q)

pub each_at : {X : Type 0} (Q : X → Type 0) (xs : List X) → Each Q xs → (i : ℕ) (x : X) → slice_get xs i ≡ Some x → Q x
each_at Q [] h i x e = cc
each_at Q (y ∷ ys) h zero x e = let same : y ≡ x = cc in subst Q same h.0
each_at Q (y ∷ ys) h (suc i) x e = each_at Q ys h.1 i x e

-- as std says it
pub each_of_all : {X : Type 0} (Q : X → Type 0) (xs : List X) → All Q xs → Each Q xs
each_of_all Q [] all = tt
each_of_all Q (x ∷ xs) all = (All-head Q x xs all, each_of_all Q xs (All-tail Q x xs all))

pub all_of_each : {X : Type 0} (Q : X → Type 0) (xs : List X) → Each Q xs → All Q xs
all_of_each Q [] each = All-nil Q
all_of_each Q (x ∷ xs) each = All-cons Q x xs each.0 (all_of_each Q xs each.1)

pub each_of_both : {X : Type 0} (Q : X → Type 0) (xs ys : List X) → Each Q (xs ++ ys) → Each Q xs × Each Q ys
each_of_both Q [] ys e = (tt, e)
each_of_both Q (x ∷ xs) ys e = let rest : Each Q xs × Each Q ys = each_of_both Q xs ys e.1 in ((e.0, rest.0), rest.1)

pub all_of_both : {X : Type 0} (Q : X → Type 0) (xs ys : List X) → All Q (xs ++ ys) → All Q xs × All Q ys
all_of_both Q xs ys all =
    let both : Each Q xs × Each Q ys = each_of_both Q xs ys (each_of_all Q (xs ++ ys) all) in
    (all_of_each Q xs both.0, all_of_each Q ys both.1)
