-- How many messages in flight, at the beginning of the list, have got a rate.
use Rattle.link_flights.proofs.Common.{◌≡◌, ℕ, zero, suc, ◌<◌, ◌≤◌, Bool, true, List, [], ◌∷◌, length, take, drop}
use Rattle.link_flights.proofs.Common.{get_or, set, Some, refl, sym, ◌∙◌, arith, AllZip, list_all, remove, Ordering}
use Rattle.link_flights.proofs.Common.{ap, ◌++◌, length-append, and_from, length-set, get_or_default, slice_get_read, Caps, first_of_both}
use Rattle.link_flights.proofs.Common.{second_of_both, IsChangedUpTo, last_moment, Flight, UnitFlight, flight_at}
use Rattle.link_flights.proofs.Common.{flights_at, has_come, AreTimed, HaveRates, PassesNowhere, is_out, are_limited}
use Rattle.link_flights.proofs.Common.{rated_ones, IsRatedFrom}
use Rattle.std.proofs.lemmas.List.{length-take-le, take-append-drop, take-append-le}
use Rattle.std.proofs.lemmas.List.Edits.{length-remove}
use Rattle.std.specs.Prelude.{slice_get}
use Rattle.link_flights.proofs.Flights.Done.{out_by_finish, limited_there}
use Rattle.link_flights.proofs.Flights.Flight.{IsBrought, is_past, is_counted_on, past_so, all_there}
use Rattle.link_flights.proofs.Flights.Search.{passed_there}

-- ---- the first elements of a list pass a test

module _ {X : Type 0} (test : X → Bool) where
  pass_with : (n : ℕ) (xs : List X) (at : ℕ) (y : X) → list_all test (take n xs) ≡ true
      → ((d : X) → test (get_or xs at d) ≡ true → test y ≡ true) → list_all test (take n (set xs at y)) ≡ true
  pass_with zero xs at y all kept = refl
  pass_with (suc n) [] at y all kept = refl
  pass_with (suc n) (x ∷ xs) zero y all kept =
      and_from (test y) _ (kept x (first_of_both (test x) _ all)) (second_of_both (test x) _ all)
  pass_with (suc n) (x ∷ xs) (suc at) y all kept =
      and_from (test x) _ (first_of_both (test x) _ all)
      (pass_with n xs at y (second_of_both (test x) _ all) (λ d. kept d))

  pass_less : (n : ℕ) (xs : List X) (at : ℕ) → at ≤ n → list_all test (take (suc n) xs) ≡ true
      → list_all test (take n (remove xs at)) ≡ true
  pass_less zero xs at within all = refl
  pass_less (suc n) [] zero within all = refl
  pass_less (suc n) [] (suc at) within all = refl
  pass_less (suc n) (x ∷ xs) zero within all = second_of_both (test x) _ all
  pass_less (suc n) (x ∷ xs) (suc at) within all =
      and_from (test x) _ (first_of_both (test x) _ all)
      (pass_less n xs at (omega arith) (second_of_both (test x) _ all))

  pass_still : (n : ℕ) (xs : List X) (at : ℕ) → n ≤ at → list_all test (take n xs) ≡ true
      → list_all test (take n (remove xs at)) ≡ true
  pass_still zero xs at beyond all = refl
  pass_still (suc n) [] zero beyond all = absurd (omega arith)
  pass_still (suc n) [] (suc at) beyond all = refl
  pass_still (suc n) (x ∷ xs) zero beyond all = absurd (omega arith)
  pass_still (suc n) (x ∷ xs) (suc at) beyond all =
      and_from (test x) _ (first_of_both (test x) _ all)
      (pass_still n xs at (omega arith) (second_of_both (test x) _ all))

module _ {P : Type 0} where
  -- ---- those at the beginning have rates

  pub rates_put : (n : ℕ) (fs : List (Flight P)) (at : ℕ) (one : Flight P) → HaveRates n fs
      → ((d : Flight P) → (get_or fs at d).rated ≡ true → one.rated ≡ true)
      → HaveRates n (set fs at one)
  rates_put n fs at one h kept =
      (omega (arith, h.0, length-set fs at one), pass_with (λ f. f.rated) n fs at one h.1 kept)

  pub rates_less : (n : ℕ) (fs : List (Flight P)) (at : ℕ) → HaveRates (suc n) fs → at < suc n
      → HaveRates n (remove fs at)
  rates_less n fs at h within = (
    omega (arith, h.0, length-remove fs at (omega (arith, h.0, within))),
    pass_less (λ f. f.rated) n fs at (omega arith) h.1,
  )

  pub rates_still : (n : ℕ) (fs : List (Flight P)) (at : ℕ) → HaveRates n fs → n ≤ at → at < length fs
      → HaveRates n (remove fs at)
  rates_still n fs at h beyond inside = (
    omega (arith, h.0, length-remove fs at inside, inside, beyond),
    pass_still (λ f. f.rated) n fs at beyond h.1,
  )

  -- and when others come behind all
  pub longer_with : (n : ℕ) (fs gs : List (Flight P)) → n ≤ length fs → n ≤ length (fs ++ gs)
  longer_with n fs gs le = omega (arith, le, length-append fs gs)

  pub rates_with : (n : ℕ) (fs gs : List (Flight P)) → HaveRates n fs → HaveRates n (fs ++ gs)
  rates_with n fs gs h =
      (longer_with n fs gs h.0, ap (list_all (λ f. f.rated)) (take-append-le n fs gs h.0) ∙ h.1)

  -- ---- those that have rates are counted on

  pub counted_from : (at now n : ℕ) (fs : List (Flight P)) → HaveRates n fs
      → list_all (is_past at) fs ≡ true → at ≤ now → IsChangedUpTo (IsBrought at now) fs fs n
  counted_from at now n fs h past later = record {
    from = take n fs;
    to = take n fs;
    rest = drop n fs;
    old_is = sym (take-append-drop n fs);
    now_is = sym (take-append-drop n fs);
    at_is = sym (length-take-le n fs h.0);
    changed = each n fs h.1 past;
  }
    where
      each : (n : ℕ) (fs : List (Flight P)) → list_all (λ f. f.rated) (take n fs) ≡ true
          → list_all (is_past at) fs ≡ true → AllZip (IsBrought at now) (take n fs) (take n fs)
      each zero fs all past = tt
      each (suc n) [] all past = tt
      each (suc n) (f ∷ fs) all past = (
        is_counted_on at now f (first_of_both f.rated _ all) (first_of_both (is_past at f) _ past) later,
        each n fs (second_of_both f.rated _ all) (second_of_both (is_past at f) _ past),
      )

  -- ---- and none of them is done, where no finish has come

  module _ (cmp : P → P → Ordering) (caps : Caps P) (scale : ℕ) (some : 0 < scale) (at : ℕ) (here : at ≤ last_moment)
    where
      abbrev out : Flight P → Bool
      out f = is_out cmp caps scale (flight_at at f)

      -- so none of those between two places leaves, which have got a rate, where their finishes have not come
      pub none_out_between : (n : ℕ) (fs : List (Flight P)) (from to : ℕ) → HaveRates n fs
          → list_all (is_past at) fs ≡ true → ((i : ℕ) → from ≤ i → i < to → i < n)
          → PassesNowhere (λ f. has_come at f.finish) fs from to → AreTimed fs
          → are_limited cmp caps (rated_ones (flights_at at fs)) ≡ true → PassesNowhere out fs from to
      none_out_between n fs from to have past inside none timed limited i low high d =
          let f = get_or fs i d in
          let below : i < length fs = omega (arith, inside i low high, have.0) in
          let is : f ≡ get_or fs i f = get_or_default fs i d f below in
          let there : slice_get fs i ≡ Some f = slice_get_read fs (length fs) i f refl below is in
          let rated = passed_there (λ (f : Flight P). f.rated) n fs i f have.1 (inside i low high) there
          in
          sym (out_by_finish cmp caps scale some at f rated
          (past_so at f (all_there (is_past at) fs i f past below is) rated) here (timed i f there rated)
          (limited_there cmp caps scale some at fs i f limited below is rated))
          ∙ none i low high d

-- all have rates, once each has got one
pub all_have_got : {P : Type 0} (now times at : ℕ) (us : List (UnitFlight P)) (fs : List (Flight P))
    → AllZip (IsRatedFrom now times) us (flights_at at fs) → list_all (λ f. f.rated) fs ≡ true
all_have_got now times at [] [] z = refl
all_have_got now times at [] (f ∷ fs) z = absurd z
all_have_got now times at (u ∷ us) [] z = absurd z
all_have_got now times at (u ∷ us) (f ∷ fs) z = and_from f.rated _ z.0.rated (all_have_got now times at us fs z.1)
