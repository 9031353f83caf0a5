-- Places in order, with the number of each noted at it.
use Rattle.link_flights.proofs.Common.{◌≡◌, ℕ, ◌+◌, ◌<◌, inl, inr, true, false, List, Some, All, Contains, get_or}
use Rattle.link_flights.proofs.Common.{slice_get, slice_set, length, sym, ap, ◌∙◌, subst, arith, list_all, Ordering}
use Rattle.link_flights.proofs.Common.{cases_lt, get_or_from_slice_get, by_bool, in_from_contains, get_in}
use Rattle.link_flights.proofs.Common.{get_set_other, Component, Flight, is_of, places_of, suits, in_map, in_get, []}
use Rattle.link_flights.proofs.Common.{flight_at, flights_at, AllPairs, get_set_here}
use Rattle.link_flights.specs.Flights.Components.{AreNumbered}
use Rattle.link_flights.proofs.Flights.Components.{rated_outside}
use Rattle.link_flights.proofs.Flights.Sides.{place_listed, places_ascend, places_within}

-- one more of them is noted
pub numbered_more : (places before : List ℕ) (n : ℕ) → AllPairs (λ one other. one < other) places → n < length places
    → get_or places n 0 < length before
    → ((k at : ℕ) → k < n → slice_get places k ≡ Some at → slice_get before at ≡ Some k)
    → (k at : ℕ) → k < n + 1 → slice_get places k ≡ Some at
    → slice_get (slice_set before (get_or places n 0) n) at ≡ Some k
numbered_more places before n up inside low noted k at within there =
    let is : get_or places k 0 ≡ at = get_or_from_slice_get places k at 0 there in
    elim (cases_lt k n) [
      | inl less ↦
          let apart : get_or places n 0 ≡ at → ⊥ = λ e. omega (arith, e, is, up k n 0 less inside) in
          get_set_other before (get_or places n 0) at n apart ∙ noted k at less there
      | inr le ↦
          let same : n ≡ k = omega (arith, le, within) in
          let here : get_or places n 0 ≡ at = ap (λ m. get_or places m 0) same ∙ is in
          ap (slice_get (slice_set before (get_or places n 0) n)) (sym here)
          ∙ get_set_here before (get_or places n 0) n low ∙ ap Some same
    ]

-- a place of no number is not listed
pub unlisted : (places number_at : List ℕ) → AreNumbered places number_at → (at : ℕ)
    → ((k : ℕ) → slice_get number_at at ≡ Some k → slice_get places k ≡ Some at → ⊥) → Contains places at → ⊥
unlisted places number_at numbered at not listed =
    let k = get_in places at (in_from_contains places at listed) in
    not k.0 (numbered k.0 at k.1) k.1

module _ {P : Type 0} (cmp : P → P → Ordering) (component : Component P) (list : List (Flight P)) (places : List ℕ)
    (are : places ≡ places_of (λ f. is_of cmp component (flight_at 0 f)) 0 list) where
  -- those that are rated anew stand in order
  pub anew_in_order : AllPairs (λ one other. one < other) places
  anew_in_order =
      subst (AllPairs (λ one other. one < other)) (sym are)
      (places_ascend (λ (f : Flight P). is_of cmp component (flight_at 0 f)) list)

  -- and among all
  pub anew_within : (count : ℕ) → count ≡ length list → All (λ at. at < count) places
  anew_within count all =
      subst (λ n. All (λ at. at < n) places) (sym all)
      (subst (All (λ at. at < length list)) (sym are) (places_within cmp component list))

  -- one that is not among them has got a rate
  pub rated_unlisted : (now : ℕ) → list_all (suits cmp component) (flights_at now list) ≡ true
      → (at : ℕ) (one : Flight P) → slice_get list at ≡ Some one → (Contains places at → ⊥)
      → (is_of cmp component (flight_at now one) ≡ false) × (one.rated ≡ true)
  rated_unlisted now suited at one there not =
      let out : is_of cmp component (flight_at now one) ≡ false =
      by_bool (is_of cmp component (flight_at now one))
      (λ is. absurd (not (subst (λ ps. Contains ps at) (sym are)
      (place_listed (λ (f : Flight P). is_of cmp component (flight_at 0 f)) list at one there is))))
      (λ is. is) in (
        out,
        rated_outside cmp component [] (flights_at now list) suited (flight_at now one)
            (in_map (flight_at now) list one (in_get list at one there)) out,
      )
