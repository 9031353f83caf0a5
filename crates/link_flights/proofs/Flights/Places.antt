-- The places of those of a list that pass a test.
use Rattle.link_flights.proofs.Common.{◌≡◌, ℕ, zero, suc, ◌+◌, ◌<◌, ◌≤◌, Bool, true, false, ◌||◌, List, [], ◌∷◌, length}
use Rattle.link_flights.proofs.Common.{Some, get_or, slice_get, drop, refl, sym, ap, ◌∙◌, arith, filter, list_all}
use Rattle.link_flights.proofs.Common.{and_from, none-some, places_of}
use Rattle.link_flights.proofs.Flights.InFlight.{filter_yes, filter_no}

module _ {X : Type 0} (test : X → Bool) where
  pub places_yes : (n : ℕ) (x : X) (xs : List X) → test x ≡ true
      → places_of test n (x ∷ xs) ≡ n ∷ places_of test (suc n) xs
  places_yes n x xs h = rw h refl

  pub places_no : (n : ℕ) (x : X) (xs : List X) → test x ≡ false
      → places_of test n (x ∷ xs) ≡ places_of test (suc n) xs
  places_no n x xs h = rw h refl

  -- there is one for each that passes
  pub places_length : (n : ℕ) (xs : List X) → length (places_of test n xs) ≡ length (filter test xs)
  places_length n [] = refl
  places_length n (x ∷ xs) = by_test (test x) refl (places_length (suc n) xs)
    where
      by_test : (b : Bool) → test x ≡ b → length (places_of test (suc n) xs) ≡ length (filter test xs)
          → length (places_of test n (x ∷ xs)) ≡ length (filter test (x ∷ xs))
      by_test true is ih = ap length (places_yes n x xs is) ∙ ap suc ih ∙ sym (ap length (filter_yes test x xs is))
      by_test false is ih = ap length (places_no n x xs is) ∙ ih ∙ sym (ap length (filter_no test x xs is))

  -- it stands there
  pub record StandsThere (n : ℕ) (xs : List X) (k : ℕ) (x : X) : Type 0 where
    pub at : ℕ
    pub place : get_or (places_of test n xs) k 0 ≡ n + at
    pub there : slice_get xs at ≡ Some x

  pub stands_there : (n : ℕ) (xs : List X) (k : ℕ) (x : X) → slice_get (filter test xs) k ≡ Some x
      → StandsThere n xs k x
  stands_there n [] k x is = absurd (none-some x is)
  stands_there n (y ∷ ys) k x is = by_test (test y) refl k is (λ i h. stands_there (suc n) ys i x h)
    where
      by_test : (b : Bool) → test y ≡ b → (i : ℕ) → slice_get (filter test (y ∷ ys)) i ≡ Some x
          → ((j : ℕ) → slice_get (filter test ys) j ≡ Some x → StandsThere (suc n) ys j x)
          → StandsThere n (y ∷ ys) i x
      by_test true passes zero h ih = record {
        at = 0;
        place = ap (λ l. get_or l 0 0) (places_yes n y ys passes) ∙ omega arith;
        there = sym (ap (λ l. slice_get l 0) (filter_yes test y ys passes)) ∙ h;
      }
      by_test true passes (suc i) h ih =
          let s = ih i (sym (ap (λ l. slice_get l (suc i)) (filter_yes test y ys passes)) ∙ h) in
          record {
            at = suc s.at;
            place = ap (λ l. get_or l (suc i) 0) (places_yes n y ys passes) ∙ s.place ∙ omega arith;
            there = s.there;
          }
      by_test false fails i h ih =
          let s = ih i (sym (ap (λ l. slice_get l i) (filter_no test y ys fails)) ∙ h) in
          record {
            at = suc s.at;
            place = ap (λ l. get_or l i 0) (places_no n y ys fails) ∙ s.place ∙ omega arith;
            there = s.there;
          }

  -- where all pass, each stands at its number
  pub all_places : ((x : X) → test x ≡ true) → (n : ℕ) (xs : List X) (k : ℕ) → k < length xs
      → get_or (places_of test n xs) k 0 ≡ n + k
  all_places all n [] k lt = absurd (omega arith)
  all_places all n (x ∷ xs) zero lt = ap (λ l. get_or l 0 0) (places_yes n x xs (all x)) ∙ omega arith
  all_places all n (x ∷ xs) (suc k) lt =
      ap (λ l. get_or l (suc k) 0) (places_yes n x xs (all x)) ∙ all_places all (suc n) xs k (omega arith) ∙ omega arith

  pub all_pass_filter : ((x : X) → test x ≡ true) → (xs : List X) → filter test xs ≡ xs
  all_pass_filter all [] = refl
  all_pass_filter all (x ∷ xs) = filter_yes test x xs (all x) ∙ ap (λ l. x ∷ l) (all_pass_filter all xs)

-- what holds of each of a list
pub all_by_number : {X : Type 0} (good : X → Bool) (xs : List X)
    → ((k : ℕ) (x : X) → slice_get xs k ≡ Some x → good x ≡ true) → list_all good xs ≡ true
all_by_number good [] each = refl
all_by_number good (x ∷ xs) each =
    and_from (good x) _ (each 0 x refl) (all_by_number good xs (λ k y there. each (suc k) y there))

-- the first of what is left of a list, and what is left after it
pub first_left : {X : Type 0} (xs : List X) (k : ℕ) (y : X) (ys : List X) → drop k xs ≡ y ∷ ys
    → (slice_get xs k ≡ Some y) × (drop (k + 1) xs ≡ ys)
first_left [] zero y ys is = absurd (omega (arith, ap length is))
first_left [] (suc k) y ys is = absurd (omega (arith, ap length is))
first_left (x ∷ xs) zero y ys is = (ap (λ l. slice_get l 0) is, ap (drop 1) is)
first_left (x ∷ xs) (suc k) y ys is =
    let later = first_left xs k y ys is in
    (later.0, ap (λ n. drop n (x ∷ xs)) (let it : suc k + 1 ≡ suc (k + 1) = omega arith in it) ∙ later.1)

-- where nothing is left, there are no more
pub none_left : {X : Type 0} (xs : List X) (k : ℕ) → drop k xs ≡ [] → length xs ≤ k
none_left [] k is = omega arith
none_left (x ∷ xs) zero is = absurd (omega (arith, ap length is))
none_left (x ∷ xs) (suc k) is = omega (arith, none_left xs k is)

-- past the end nothing is left
pub past_end : {X : Type 0} (xs : List X) (k : ℕ) → length xs ≤ k → drop k xs ≡ []
past_end [] zero le = refl
past_end [] (suc k) le = refl
past_end (x ∷ xs) zero le = absurd (omega arith)
past_end (x ∷ xs) (suc k) le = past_end xs k (omega arith)

-- within a list something stands
pub one_there : {X : Type 0} (xs : List X) (k : ℕ) → k < length xs → (x : X) × (slice_get xs k ≡ Some x)
one_there [] k lt = absurd (omega arith)
one_there (x ∷ xs) zero lt = (x, refl)
one_there (x ∷ xs) (suc k) lt = one_there xs k (omega arith)

pub or_first : (a b : Bool) → a ≡ true → (a || b) ≡ true
or_first a b is = ap (λ x. x || b) is

pub or_second : (a b : Bool) → b ≡ true → (a || b) ≡ true
or_second true b is = refl
or_second false b is = is

-- those of the places of some that pass another test, which fewer pass
pub fewer_places : {X : Type 0} (more fewer : X → Bool) → ((x : X) → fewer x ≡ true → more x ≡ true) → (n : ℕ) (xs : List X)
    (at : ℕ → Bool) → ((i : ℕ) (x : X) → slice_get xs i ≡ Some x → at (n + i) ≡ fewer x)
    → filter at (places_of more n xs) ≡ places_of fewer n xs
fewer_places more fewer within n [] at same = refl
fewer_places {X} more fewer within n (y ∷ ys) at same =
    by_tests (fewer y) (more y) refl refl
    (fewer_places more fewer within (suc n) ys at
    (λ i x there. ap at (let it : suc n + i ≡ n + suc i = omega arith in it) ∙ same (suc i) x there))
  where
    here : at n ≡ fewer y
    here = ap at (let it : n ≡ n + 0 = omega arith in it) ∙ same 0 y refl

    by_tests : (a b : Bool) → fewer y ≡ a → more y ≡ b
        → filter at (places_of more (suc n) ys) ≡ places_of fewer (suc n) ys
        → filter at (places_of more n (y ∷ ys)) ≡ places_of fewer n (y ∷ ys)
    by_tests true true is all ih =
        ap (filter at) (places_yes more n y ys all) ∙ filter_yes at n (places_of more (suc n) ys) (here ∙ is)
        ∙ ap (λ ps. n ∷ ps) ih ∙ sym (places_yes fewer n y ys is)
    by_tests true false is none ih = absurd (not_both (sym none ∙ within y is))
      where
        not_both : false ≡ true → ⊥
        not_both e = cc
    by_tests false true out all ih =
        ap (filter at) (places_yes more n y ys all) ∙ filter_no at n (places_of more (suc n) ys) (here ∙ out)
        ∙ ih ∙ sym (places_no fewer n y ys out)
    by_tests false false out none ih =
        ap (filter at) (places_no more n y ys none) ∙ ih ∙ sym (places_no fewer n y ys out)
