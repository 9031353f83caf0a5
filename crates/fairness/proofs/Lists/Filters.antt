-- What a filter keeps, and what is found.
use Rattle.fairness.proofs.Common.{◌≡◌, ◌≤◌, List, [], ◌∷◌, length, Bool, true, false, None, refl, arith, filter}
use Rattle.fairness.proofs.Common.{list_any, rules}
use Rattle.std.specs.List.{find}
use Rattle.fairness.specs.Lists.WithoutFirst.{without_first}

pub filter_swap : {X : Type 0} (f g : X → Bool) (xs : List X) → filter f (filter g xs) ≡ filter g (filter f xs)
filter_swap f g [] = refl
filter_swap {X} f g (x ∷ xs) = search (rules, filter_swap f g xs)

-- what the one test passes, the other does too
pub filter_stronger : {X : Type 0} (f g : X → Bool) (xs : List X) → ((x : X) → f x ≡ true → g x ≡ true)
    → filter f (filter g xs) ≡ filter f xs
filter_stronger f g [] h = refl
filter_stronger {X} f g (x ∷ xs) h = search (rules, filter_stronger f g xs h)

pub find_from_any : {X : Type 0} (p : X → Bool) (xs : List X) → list_any p xs ≡ false → find p xs ≡ None
find_from_any p [] h = refl
find_from_any {X} p (x ∷ xs) h = search (rules, find_from_any p xs)

pub length-filter : {X : Type 0} (test : X → Bool) (xs : List X) → length (filter test xs) ≤ length xs
length-filter test [] = omega arith
length-filter {X} test (x ∷ xs) = search (rules, length-filter test xs)

pub length-without_first : {X : Type 0} (test : X → Bool) (xs : List X) → length (without_first test xs) ≤ length xs
length-without_first test [] = omega arith
length-without_first {X} test (x ∷ xs) = search (rules, length-without_first test xs)

pub none_long : {X : Type 0} (xs : List X) → length xs ≤ 0 → xs ≡ []
none_long [] h = refl
none_long (x ∷ xs) h = absurd (omega arith)
