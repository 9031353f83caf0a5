-- Ends of pairs with numbers: where they stand in a list without doubles, and what one more changes.
use Rattle.std.proofs.Common.{◌≡◌, ℕ, ◌<◌, Bool, true, false, cond, List, [], ◌∷◌, ◌++◌, length, get_or, slice_get}
use Rattle.std.proofs.Common.{eqb, ltb, Option, Some, None, MatchOption, refl, sym, ap, ap₂, subst, ◌∙◌, arith, if◌then◌else◌}
use Rattle.std.specs.Option.{option_or}
use Rattle.std.specs.List.{IsDistinct, list_any, position, position_or_len}
use Rattle.std.proofs.lemmas.Bool.Decides.{nat_tests}
use Rattle.std.proofs.lemmas.List.Sums.{position_or_len_is}
use Rattle.std.proofs.lemmas.Map.Keys.{apart_from_distinct}
use Rattle.std.proofs.lemmas.Option.{slice_get_within, get_or_from_slice_get}
use Rattle.peer_numbers.specs.declared.ends.Ends.{Ends}
use Rattle.peer_numbers.specs.Ends.{same_ends, number_of_ends, IsWithEnds}
use Rattle.peer_numbers.proofs.Peers.{position_push}

-- numbers are one in either order
pub eqb_flip : (a b : ℕ) → eqb a b ≡ eqb b a
eqb_flip a b = grind (arith, nat_tests)

-- ends are one with themselves
pub itself : (e : Ends) → same_ends e e ≡ true
itself e = grind (arith, nat_tests)

-- others than the one of two that are one are others than the other
others : (e d x : Ends) → same_ends e d ≡ true → same_ends x d ≡ false → same_ends e x ≡ false
others e d x same other = grind (arith, nat_tests)

-- the place at which a test first passes
place_is : {X : Type 0} (p : X → Bool) (xs : List X) (place : ℕ) → position_or_len p xs ≡ place → place < length xs
    → position p xs ≡ Some place
place_is p xs place is within =
    let below : ltb (position_or_len p xs) (length xs) ≡ true = grind (arith, nat_tests) in
    ap (λ b. cond b (Some (position_or_len p xs)) None) below ∙ ap Some is

-- where there are no doubles, ends have the number at which they stand
pub number_there : (ends : List Ends) (number : ℕ) (e there : Ends) → IsDistinct same_ends ends
    → slice_get ends number ≡ Some there → same_ends e there ≡ true → number_of_ends ends e ≡ Some number
number_there ends number e there distinct got same =
    let within : number < length ends = slice_get_within ends number there got in
    let it : get_or ends number there ≡ there = get_or_from_slice_get ends number there there got in
    place_is (same_ends e) ends number
    (position_or_len_is (same_ends e) ends number there (omega arith)
    (λ k below. others e there (get_or ends k there) same
    (subst (λ (d : Ends). same_ends (get_or ends k there) d ≡ false) it
    (apart_from_distinct same_ends ends k number there distinct below within)))
    (λ below. ap (same_ends e) it ∙ same))
    within

-- a test that passes somewhere first passes at a place, and one that does not at none
passes : {X : Type 0} (p : X → Bool) (xs : List X) → list_any p xs ≡ true → position_or_len p xs < length xs
passes p [] h = absurd cc
passes p (x ∷ xs) h = by (p x) refl (λ more. passes p xs more)
  where
    by : (b : Bool) → p x ≡ b → (list_any p xs ≡ true → position_or_len p xs < length xs)
        → position_or_len p (x ∷ xs) < length (x ∷ xs)
    by true e below = rw e (omega arith)
    by false e below = rw e (omega (arith, below (rw e at h)))

fails : {X : Type 0} (p : X → Bool) (xs : List X) → list_any p xs ≡ false → position_or_len p xs ≡ length xs
fails p [] h = refl
fails p (x ∷ xs) h = by (p x) refl (λ more. fails p xs more)
  where
    by : (b : Bool) → p x ≡ b → (list_any p xs ≡ false → position_or_len p xs ≡ length xs)
        → position_or_len p (x ∷ xs) ≡ length (x ∷ xs)
    by true e long = absurd (cc (rw e at h))
    by false e long = rw e (omega (arith, long (rw e at h)))

-- the number that ends get, and the list with them
pub with_number : (ends new : List Ends) (e : Ends) (number : ℕ) → number ≡ position_or_len (same_ends e) ends
    → new ≡ (if list_any (same_ends e) ends then ends else ends ++ e ∷ [])
    → (number_of_ends new e ≡ Some number) × IsWithEnds ends e new
with_number ends new e number is with = by (list_any (same_ends e) ends) refl with
  where
    is_with : (found : Option ℕ) → number_of_ends ends e ≡ found
        → MatchOption found (new ≡ ends ++ e ∷ []) (λ number. new ≡ ends) → IsWithEnds ends e new
    is_with found f w =
        subst (λ (o : Option ℕ). MatchOption o (new ≡ ends ++ e ∷ []) (λ number. new ≡ ends)) (sym f) w

    by : (b : Bool) → list_any (same_ends e) ends ≡ b → new ≡ (if b then ends else ends ++ e ∷ [])
        → (number_of_ends new e ≡ Some number) × IsWithEnds ends e new
    by true any w =
        let there : number_of_ends ends e ≡ Some number =
        place_is (same_ends e) ends number (sym is) (omega (arith, passes (same_ends e) ends any)) in
        (ap (λ list. number_of_ends list e) w ∙ there, is_with (Some number) there w)
    by false any w =
        let long : position_or_len (same_ends e) ends ≡ length ends = fails (same_ends e) ends any in
        let past : ltb (position_or_len (same_ends e) ends) (length ends) ≡ false = grind (arith, nat_tests) in
        let none : number_of_ends ends e ≡ None =
        ap (λ b. cond b (Some (position_or_len (same_ends e) ends)) None) past in (
          ap (λ list. number_of_ends list e) w ∙ position_push (same_ends e) ends e
              ∙ ap₂ (λ found b. option_or found (cond b (Some (length ends)) None)) none (itself e)
              ∙ ap Some (sym long ∙ sym is),
          is_with None none w,
        )
