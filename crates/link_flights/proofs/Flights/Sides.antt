-- The sides of those in flight that are rated anew: how one is counted along its chain, and that they are all.
use Rattle.link_flights.proofs.Common.{◌≡◌, ℕ, zero, suc, ◌+◌, ◌-◌, ◌<◌, ◌≤◌, Bool, true, false, cond, not, ◌&&◌, ◌||◌}
use Rattle.link_flights.proofs.Common.{◌⊎◌, inl, inr, List, [], ◌∷◌, ◌++◌, Option, Some, None, All, Contains, slice_set}
use Rattle.link_flights.proofs.Common.{map, length, take, get_or, slice_get, sum_by, if◌then◌else◌, zero-add, refl, sym}
use Rattle.link_flights.proofs.Common.{ap, ap₂, ◌∙◌, subst, arith, option_map, filter, list_all, IsTotalOrder, Ordering}
use Rattle.link_flights.proofs.Common.{false≢true, get_set_other, append-nil, length-map, map-append, take_all}
use Rattle.link_flights.proofs.Common.{sum_by-cons, none-some, same_Some, slice_get-map, slice_get_within}
use Rattle.link_flights.proofs.Common.{get_or_from_slice_get, Side, limits, places_from, Subject, by_bool}
use Rattle.link_flights.proofs.Common.{first_of_both, In, in_from_contains, contains_from_in, in_left, in_right, in_map}
use Rattle.link_flights.proofs.Common.{in_get, get_in, all_pass, All-from_contains, same_peer_itself, Component, Flight}
use Rattle.link_flights.proofs.Common.{End, Origin, Recipient, is_sender, is_receiver, keeps, is_of, those_of, touches}
use Rattle.link_flights.proofs.Common.{has_both, suits, places_of, UnitFlight, flight_at, flights_at, PassesFirstAt}
use Rattle.link_flights.proofs.Common.{IsNextPlace, flow_sent, flow_in_flight, uses_end, end_subject, kept_load}
use Rattle.link_flights.proofs.Common.{flows_of, share, AllPairs, take_more, filter-append, IsCounted}
use Rattle.std.proofs.Common.{unwrap_or}
use Rattle.std.proofs.lemmas.Bool.{cases_eq}
use Rattle.std.proofs.Math.Bool.{and-false}
use Rattle.std.proofs.lemmas.List.Sums.{sum_by-append}
use Rattle.link_pairs.specs.declared.message.Message.{Message}
use Rattle.link_flights.proofs.Flights.ComponentFlows.{one_more}
use Rattle.link_flights.proofs.Flights.InFlight.{filter_yes, filter_no, read_filter}
use Rattle.link_flights.proofs.Flights.Places.{one_there, places_yes, places_no, places_length, fewer_places}
use Rattle.link_flights.proofs.Flights.Search.{behind, fewer_ahead, next_shared}

-- ---- lists

-- the places of those that pass, with one more at the end
places_with : {X : Type 0} (test : X → Bool) (place : ℕ) (xs : List X) (x : X) → test x ≡ true
    → places_from place test (xs ++ x ∷ []) ≡ places_from place test xs ++ (place + length xs) ∷ []
places_with test place [] x is = rw is (ap (λ n. n ∷ []) (let it : place ≡ place + 0 = omega arith in it))
places_with test place (y ∷ ys) x is = by_test (test y) (places_with test (place + 1) ys x is)
  where
    by_test : (b : Bool)
        → places_from (place + 1) test (ys ++ x ∷ []) ≡ places_from (place + 1) test ys ++ (place + 1 + length ys) ∷ []
        → cond b (place ∷ places_from (place + 1) test (ys ++ x ∷ [])) (places_from (place + 1) test (ys ++ x ∷ []))
        ≡ cond b (place ∷ places_from (place + 1) test ys) (places_from (place + 1) test ys)
        ++ (place + suc (length ys)) ∷ []
    by_test b ih = by_count b
        (ih ∙ ap (λ n. places_from (place + 1) test ys ++ n ∷ [])
        (let it : place + 1 + length ys ≡ place + suc (length ys) = omega arith in it))
      where
        by_count : (b : Bool)
            → places_from (place + 1) test (ys ++ x ∷ [])
            ≡ places_from (place + 1) test ys ++ (place + suc (length ys)) ∷ []
            → cond b (place ∷ places_from (place + 1) test (ys ++ x ∷ []))
            (places_from (place + 1) test (ys ++ x ∷ []))
            ≡ cond b (place ∷ places_from (place + 1) test ys) (places_from (place + 1) test ys)
            ++ (place + suc (length ys)) ∷ []
        by_count true e = ap (λ l. place ∷ l) e
        by_count false e = e

places_without : {X : Type 0} (test : X → Bool) (place : ℕ) (xs : List X) (x : X) → test x ≡ false
    → places_from place test (xs ++ x ∷ []) ≡ places_from place test xs
places_without test place [] x is = rw is refl
places_without test place (y ∷ ys) x is =
    ap (λ l. cond (test y) (place ∷ l) l) (places_without test (place + 1) ys x is)

-- a place of those that pass: what stands there, and how many of those that pass stand before it
pub record IsPlaceOf {X : Type 0} (test : X → Bool) (xs : List X) (k at : ℕ) : Type 0 where
  pub x : X
  pub there : slice_get xs at ≡ Some x
  pub passes : test x ≡ true
  pub number : k ≡ length (filter test (take at xs))
  pub among : slice_get (filter test xs) k ≡ Some x

module _ {X : Type 0} (test : X → Bool) where
  from_place : (n : ℕ) (xs : List X) (k p : ℕ) → slice_get (places_of test n xs) k ≡ Some p
      → (at : ℕ) × (p ≡ n + at) × IsPlaceOf test xs k at
  from_place n [] k p is = absurd (none-some p is)
  from_place n (y ∷ ys) k p is = by_test (test y) refl k is (λ i h. from_place (suc n) ys i p h)
    where
      by_test : (b : Bool) → test y ≡ b → (i : ℕ) → slice_get (places_of test n (y ∷ ys)) i ≡ Some p
          → ((j : ℕ) → slice_get (places_of test (suc n) ys) j ≡ Some p
          → (at : ℕ) × (p ≡ suc n + at) × IsPlaceOf test ys j at)
          → (at : ℕ) × (p ≡ n + at) × IsPlaceOf test (y ∷ ys) i at
      by_test true passes zero h ih = (
        0,
        sym (same_Some n p (sym (ap (λ l. slice_get l 0) (places_yes test n y ys passes)) ∙ h))
            ∙ (let it : n ≡ n + 0 = omega arith in it),
        record {
          x = y;
          there = refl;
          passes = passes;
          number = refl;
          among = ap (λ l. slice_get l 0) (filter_yes test y ys passes);
        },
      )
      by_test true passes (suc i) h ih =
          let s = ih i (sym (ap (λ l. slice_get l (suc i)) (places_yes test n y ys passes)) ∙ h) in (
            suc s.0,
            omega (arith, s.1),
            record {
              x = s.2.x;
              there = s.2.there;
              passes = s.2.passes;
              number = ap suc s.2.number ∙ sym (ap length (filter_yes test y (take s.0 ys) passes));
              among = ap (λ l. slice_get l (suc i)) (filter_yes test y ys passes) ∙ s.2.among;
            },
          )
      by_test false fails i h ih =
          let s = ih i (sym (ap (λ l. slice_get l i) (places_no test n y ys fails)) ∙ h) in (
            suc s.0,
            omega (arith, s.1),
            record {
              x = s.2.x;
              there = s.2.there;
              passes = s.2.passes;
              number = s.2.number ∙ sym (ap length (filter_no test y (take s.0 ys) fails));
              among = ap (λ l. slice_get l i) (filter_no test y ys fails) ∙ s.2.among;
            },
          )

  pub place_is_of : (xs : List X) (k at : ℕ) → slice_get (places_of test 0 xs) k ≡ Some at → IsPlaceOf test xs k at
  place_is_of xs k at is =
      let r = from_place 0 xs k at is in
      subst (IsPlaceOf test xs k) (let it : r.0 ≡ at = omega (arith, r.1) in it) r.2

  -- what stands at a place that is listed
  pub what_is_listed : (xs : List X) (at : ℕ) → Contains (places_of test 0 xs) at
      → (x : X) × (slice_get xs at ≡ Some x) × (test x ≡ true)
  what_is_listed xs at listed =
      let k = get_in (places_of test 0 xs) at (in_from_contains (places_of test 0 xs) at listed) in
      let p = place_is_of xs k.0 at k.1 in
      (p.x, p.there, p.passes)

  -- a place that is listed is one of the list
  pub listed_within : (xs : List X) (at : ℕ) → Contains (places_of test 0 xs) at → at < length xs
  listed_within xs at listed = let x = what_is_listed xs at listed in slice_get_within xs at x.0 x.1

  -- one that passes is listed
  listed_from : (n : ℕ) (xs : List X) (at : ℕ) (x : X) → slice_get xs at ≡ Some x → test x ≡ true
      → Contains (places_of test n xs) (n + at)
  listed_from n [] at x there passes = absurd (none-some x there)
  listed_from n (y ∷ ys) at x there passes = by_test (test y) refl at there (listed_from (suc n) ys)
    where
      by_test : (b : Bool) → test y ≡ b → (i : ℕ) → slice_get (y ∷ ys) i ≡ Some x
          → ((j : ℕ) (z : X) → slice_get ys j ≡ Some z → test z ≡ true → Contains (places_of test (suc n) ys) (suc n + j))
          → Contains (places_of test n (y ∷ ys)) (n + i)
      by_test true is zero h ih =
          subst (λ l. Contains l (n + 0)) (sym (places_yes test n y ys is))
          (contains_from_in (n ∷ places_of test (suc n) ys) (n + 0) (inl (let it : n ≡ n + 0 = omega arith in it)))
      by_test true is (suc i) h ih =
          subst (λ l. Contains l (n + suc i)) (sym (places_yes test n y ys is))
          (contains_from_in (n ∷ places_of test (suc n) ys) (n + suc i)
          (inr (subst (In (places_of test (suc n) ys)) (let it : suc n + i ≡ n + suc i = omega arith in it)
          (in_from_contains (places_of test (suc n) ys) (suc n + i) (ih i x h passes)))))
      by_test false is zero h ih =
          absurd (false≢true (sym is ∙ ap test (same_Some y x h) ∙ passes))
      by_test false is (suc i) h ih =
          subst (λ l. Contains l (n + suc i)) (sym (places_no test n y ys is))
          (subst (Contains (places_of test (suc n) ys)) (let it : suc n + i ≡ n + suc i = omega arith in it)
          (ih i x h passes))

  pub place_listed : (xs : List X) (at : ℕ) (x : X) → slice_get xs at ≡ Some x → test x ≡ true
      → Contains (places_of test 0 xs) at
  place_listed xs at x there passes =
      subst (Contains (places_of test 0 xs)) (zero-add at) (listed_from 0 xs at x there passes)

-- each of these is noted, with one more
pub noted_more : (before now : List Bool) (users : List ℕ) (i : ℕ) → i < length users
    → ((k : ℕ) → slice_get now k ≡ Some true → (slice_get before k ≡ Some true) ⊎ Contains (take i users) k)
    → (k : ℕ) → slice_get (slice_set now (get_or users i 0) true) k ≡ Some true
    → (slice_get before k ≡ Some true) ⊎ Contains (take (i + 1) users) k
noted_more before now users i inside noted k is = elim (cases_eq k (get_or users i 0)) [
  | inl same ↦ inr (in_next (inr (inl (sym same))))
  | inr apart ↦ elim (noted k (sym (get_set_other now (get_or users i 0) k true (λ e. apart (sym e))) ∙ is)) [
    | inl was ↦ inl was
    | inr among ↦ inr (in_next (inl (in_from_contains (take i users) k among)))
  ]
]
  where
    in_next : In (take i users) k ⊎ In (get_or users i 0 ∷ []) k → Contains (take (i + 1) users) k
    in_next (inl h) =
        subst (λ us. Contains us k) (sym (take_more users i 0 inside))
        (contains_from_in (take i users ++ get_or users i 0 ∷ []) k (in_left (take i users) (get_or users i 0 ∷ []) k h))
    in_next (inr h) =
        subst (λ us. Contains us k) (sym (take_more users i 0 inside))
        (contains_from_in (take i users ++ get_or users i 0 ∷ []) k (in_right (take i users) (get_or users i 0 ∷ []) k h))

-- the places of those that pass ascend
module _ {X : Type 0} (test : X → Bool) where
  none_below : (n : ℕ) (xs : List X) (i d : ℕ) → i < length (places_of test n xs) → n ≤ get_or (places_of test n xs) i d
  none_below n [] i d within = absurd (omega (arith, within))
  none_below n (y ∷ ys) i d within = by_test (test y) refl i within (none_below (suc n) ys)
    where
      by_test : (b : Bool) → test y ≡ b → (j : ℕ) → j < length (places_of test n (y ∷ ys))
          → ((k e : ℕ) → k < length (places_of test (suc n) ys) → suc n ≤ get_or (places_of test (suc n) ys) k e)
          → n ≤ get_or (places_of test n (y ∷ ys)) j d
      by_test true is zero lt later = omega (arith, ap (λ l. get_or l 0 d) (places_yes test n y ys is))
      by_test true is (suc j) lt later =
          let it = later j d (omega (arith, lt, ap length (places_yes test n y ys is))) in
          omega (arith, it, ap (λ l. get_or l (suc j) d) (places_yes test n y ys is))
      by_test false is j lt later =
          let it = later j d (omega (arith, lt, ap length (places_no test n y ys is))) in
          omega (arith, it, ap (λ l. get_or l j d) (places_no test n y ys is))

  ascend_from : (n : ℕ) (xs : List X) → AllPairs (λ one other. one < other) (places_of test n xs)
  ascend_from n [] i j d before within = absurd (omega (arith, within))
  ascend_from n (y ∷ ys) i j d before within = by_test (test y) refl i j before within (ascend_from (suc n) ys)
    where
      by_test : (b : Bool) → test y ≡ b → (i j : ℕ) → i < j → j < length (places_of test n (y ∷ ys))
          → AllPairs (λ one other. one < other) (places_of test (suc n) ys)
          → get_or (places_of test n (y ∷ ys)) i d < get_or (places_of test n (y ∷ ys)) j d
      by_test true is i zero less lt later = absurd (omega (arith, less))
      by_test true is zero (suc j) less lt later =
          let it = none_below (suc n) ys j d (omega (arith, lt, ap length (places_yes test n y ys is))) in
          omega (
            arith,
            it,
            ap (λ l. get_or l 0 d) (places_yes test n y ys is),
            ap (λ l. get_or l (suc j) d) (places_yes test n y ys is),
          )
      by_test true is (suc i) (suc j) less lt later =
          let it = later i j d (omega (arith, less)) (omega (arith, lt, ap length (places_yes test n y ys is))) in
          omega (
            arith,
            it,
            ap (λ l. get_or l (suc i) d) (places_yes test n y ys is),
            ap (λ l. get_or l (suc j) d) (places_yes test n y ys is),
          )
      by_test false is i j less lt later =
          let it = later i j d less (omega (arith, lt, ap length (places_no test n y ys is))) in
          omega (
            arith,
            it,
            ap (λ l. get_or l i d) (places_no test n y ys is),
            ap (λ l. get_or l j d) (places_no test n y ys is),
          )

  pub places_ascend : (xs : List X) → AllPairs (λ one other. one < other) (places_of test 0 xs)
  places_ascend xs = ascend_from 0 xs

-- ---- one more in flight

module _ {P : Type 0} (cmp : P → P → Ordering) (component : Component P) where
  those_more : (us : List (UnitFlight P)) (u : UnitFlight P) → is_of cmp component u ≡ true
      → those_of cmp component (us ++ u ∷ []) ≡ those_of cmp component us ++ u ∷ []
  those_more us u is =
      filter-append (is_of cmp component) us (u ∷ [])
      ∙ ap (λ l. those_of cmp component us ++ l) (filter_yes (is_of cmp component) u [] is)

  those_same : (us : List (UnitFlight P)) (u : UnitFlight P) → is_of cmp component u ≡ false
      → those_of cmp component (us ++ u ∷ []) ≡ those_of cmp component us
  those_same us u out =
      filter-append (is_of cmp component) us (u ∷ [])
      ∙ ap (λ l. those_of cmp component us ++ l) (filter_no (is_of cmp component) u [] out)
      ∙ append-nil (those_of cmp component us)

  module _ (s : Subject P) where
    abbrev load_of : UnitFlight P → ℕ
    load_of u = cond (limits cmp s (flow_in_flight cmp u)) u.rate 0

    abbrev stays : UnitFlight P → Bool
    stays u = not (is_of cmp component u)

    kept_same : (us : List (UnitFlight P)) (u : UnitFlight P) → is_of cmp component u ≡ true
        → kept_load cmp component (us ++ u ∷ []) s ≡ kept_load cmp component us s
    kept_same us u is =
        ap (sum_by load_of)
        (filter-append stays us (u ∷ []) ∙ ap (λ l. filter stays us ++ l) (filter_no stays u [] (ap not is))
        ∙ append-nil (filter stays us))

    kept_more : (us : List (UnitFlight P)) (u : UnitFlight P) → is_of cmp component u ≡ false
        → kept_load cmp component (us ++ u ∷ []) s ≡ kept_load cmp component us s + load_of u
    kept_more us u out =
        ap (sum_by load_of)
        (filter-append stays us (u ∷ []) ∙ ap (λ l. filter stays us ++ l) (filter_yes stays u [] (ap not out)))
        ∙ sum_by-append load_of (filter stays us) (u ∷ [])
        ∙ ap (λ n. kept_load cmp component us s + n)
        (sum_by-cons load_of u [] ∙ (let it : load_of u + 0 ≡ load_of u = omega arith in it))

    abbrev users_of : List (UnitFlight P) → List ℕ
    users_of us = places_from 0 (limits cmp s) (flows_of cmp component us)

    user_more : (us : List (UnitFlight P)) (u : UnitFlight P) → is_of cmp component u ≡ true
        → limits cmp s (flow_in_flight cmp u) ≡ true
        → users_of (us ++ u ∷ []) ≡ users_of us ++ length (those_of cmp component us) ∷ []
    user_more us u is l =
        ap (places_from 0 (limits cmp s))
        (ap (map (flow_in_flight cmp)) (those_more us u is)
        ∙ map-append (flow_in_flight cmp) (those_of cmp component us) (u ∷ []))
        ∙ places_with (limits cmp s) 0 (flows_of cmp component us) (flow_in_flight cmp u) l
        ∙ ap (λ n. users_of us ++ n ∷ [])
        (zero-add (length (flows_of cmp component us)) ∙ length-map (those_of cmp component us) (flow_in_flight cmp))

    user_passed : (us : List (UnitFlight P)) (u : UnitFlight P) → is_of cmp component u ≡ true
        → limits cmp s (flow_in_flight cmp u) ≡ false → users_of (us ++ u ∷ []) ≡ users_of us
    user_passed us u is off =
        ap (places_from 0 (limits cmp s))
        (ap (map (flow_in_flight cmp)) (those_more us u is)
        ∙ map-append (flow_in_flight cmp) (those_of cmp component us) (u ∷ []))
        ∙ places_without (limits cmp s) 0 (flows_of cmp component us) (flow_in_flight cmp u) off

    user_same : (us : List (UnitFlight P)) (u : UnitFlight P) → is_of cmp component u ≡ false
        → users_of (us ++ u ∷ []) ≡ users_of us
    user_same us u out =
        ap (λ vs. places_from 0 (limits cmp s) (map (flow_in_flight cmp) vs)) (those_same us u out)

  -- ---- along the list

  module _ (now : ℕ) (list : List (Flight P)) (s : Subject P) (all : ℕ) where
    abbrev first : ℕ → List (UnitFlight P)
    first n = flights_at now (take n list)

    abbrev Counted : ℕ → Side → Type 0
    Counted n side = IsCounted cmp component now list s all n side

    pub none_counted : Counted 0 (record { cap = all; users = [] })
    none_counted = record { left = let it : all ≡ all - 0 = omega arith in it; users = refl }

    module _ (n : ℕ) (one : Flight P) (there : slice_get list n ≡ Some one) where
      abbrev u : UnitFlight P
      u = flight_at now one

      more : first (n + 1) ≡ first n ++ u ∷ []
      more =
          one_more cmp now list n one (slice_get_within list n one there)
          (sym (get_or_from_slice_get list n one one there))

      -- one that the side does not limit changes nothing
      pub passed_by : limits cmp s (flow_sent cmp one.message.value) ≡ false → (side : Side) → Counted n side
          → Counted (n + 1) side
      passed_by off side h = by_bool (is_of cmp component u)
          (λ is. record {
            left = h.left ∙ ap (λ k. all - k)
                (sym (ap (λ us. kept_load cmp component us s) more ∙ kept_same s (first n) u is));
            users = h.users ∙ sym (ap (users_of s) more ∙ user_passed s (first n) u is off);
          })
          (λ out. record {
            left = h.left ∙ ap (λ k. all - k)
                (sym (ap (λ us. kept_load cmp component us s) more ∙ kept_more s (first n) u out
                ∙ ap (λ b. kept_load cmp component (first n) s + cond b u.rate 0) off
                ∙ (let it : kept_load cmp component (first n) s + 0 ≡ kept_load cmp component (first n) s =
                omega arith in it)));
            users = h.users ∙ sym (ap (users_of s) more ∙ user_same s (first n) u out);
          })

      -- one that is rated anew is a user
      pub user_counted : limits cmp s (flow_sent cmp one.message.value) ≡ true → is_of cmp component u ≡ true
          → (side : Side) → Counted n side → (number : ℕ) → number ≡ length (those_of cmp component (first n))
          → Counted (n + 1) (record { cap = side.cap; users = side.users ++ number ∷ [] })
      user_counted l is side h number number_is = record {
        left = h.left ∙ ap (λ k. all - k)
            (sym (ap (λ us. kept_load cmp component us s) more ∙ kept_same s (first n) u is));
        users = ap₂ (λ us k. us ++ k ∷ []) h.users number_is
            ∙ sym (ap (users_of s) more ∙ user_more s (first n) u is l);
      }

      -- one that keeps its rate takes that
      pub rate_counted : limits cmp s (flow_sent cmp one.message.value) ≡ true → is_of cmp component u ≡ false
          → (side : Side) → Counted n side → (cap : ℕ) → cap ≡ side.cap - u.rate
          → Counted (n + 1) (record { cap = cap; users = side.users })
      rate_counted l out side h cap cap_is =
          let load : kept_load cmp component (first (n + 1)) s ≡ kept_load cmp component (first n) s + u.rate =
          ap (λ us. kept_load cmp component us s) more ∙ kept_more s (first n) u out
          ∙ ap (λ b. kept_load cmp component (first n) s + cond b u.rate 0) l in
          record {
            left = omega (arith, cap_is, h.left, load);
            users = h.users ∙ sym (ap (users_of s) more ∙ user_same s (first n) u out);
          }

    -- those that it does not limit, one after another
    pub skipped : (k n : ℕ) → n + k ≤ length list
        → ((i : ℕ) → n ≤ i → i < n + k → (d : Flight P)
        → limits cmp s (flow_sent cmp (get_or list i d).message.value) ≡ false)
        → (side : Side) → Counted n side → Counted (n + k) side
    skipped zero n within none side h = subst (λ m. Counted m side) (let it : n ≡ n + 0 = omega arith in it) h
    skipped (suc k) n within none side h =
        let one = one_there list n (omega (arith, within)) in
        let here : get_or list n one.0 ≡ one.0 = get_or_from_slice_get list n one.0 one.0 one.1 in
        subst (λ m. Counted m side) (let it : n + 1 + k ≡ n + suc k = omega arith in it)
        (skipped k (n + 1) (omega (arith, within)) (λ i low high d. none i (omega (arith, low)) (omega (arith, high)) d)
        side
        (passed_by n one.0 one.1
        (ap (λ (f : Flight P). limits cmp s (flow_sent cmp f.message.value)) (sym here)
        ∙ none n (omega arith) (omega arith) one.0) side h))

    -- where all are counted
    pub all_counted : (n : ℕ) → length list ≤ n → (side : Side) → Counted n side
        → (side.cap ≡ all - kept_load cmp component (flights_at now list) s) × (side.users ≡ users_of s (flights_at now list))
    all_counted n end side h =
        let whole : first n ≡ flights_at now list = ap (flights_at now) (take_all n list end) in (
          h.left ∙ ap (λ us. all - kept_load cmp component us s) whole,
          h.users ∙ ap (users_of s) whole,
        )

-- ---- what limits a flow at an end

module _ {P : Type 0} (cmp : P → P → Ordering) where
  -- a side at an end of a message limits those that share the end, if they use it
  pub limits_at : (end : End) (m n : Message P)
      → limits cmp (end_subject end (flow_sent cmp m)) (flow_sent cmp n) ≡ (uses_end cmp end n && share cmp end m n)
  limits_at Origin m n = refl
  limits_at Recipient m n = refl

  -- of the first from one on that share an end, a side has been counted
  pub record HasCounted (end : End) (m : Message P) (component : Component P) (now : ℕ) (list : List (Flight P))
      (all : ℕ) (next : Option ℕ) (side : Side) : Type 0 where
    pub from : ℕ
    pub within : from ≤ length list
    pub is_next : IsNextPlace (λ one. share cmp end m one.message.value) list from next
    pub so_far : IsCounted cmp component now list (end_subject end (flow_sent cmp m)) all from side

  module _ (end : End) (m : Message P) (component : Component P) (now : ℕ) (list : List (Flight P)) (all : ℕ) where
    abbrev s : Subject P
    s = end_subject end (flow_sent cmp m)

    -- what does not share the end is not limited
    off : (i : ℕ) (d : Flight P) → share cmp end m (get_or list i d).message.value ≡ false
        → limits cmp s (flow_sent cmp (get_or list i d).message.value) ≡ false
    off i d none =
        limits_at end m (get_or list i d).message.value
        ∙ ap (λ b. uses_end cmp end (get_or list i d).message.value && b) none
        ∙ and-false (uses_end cmp end (get_or list i d).message.value)

    pub counting_starts : (next : Option ℕ)
        → IsNextPlace (λ one. share cmp end m one.message.value) list 0 next
        → HasCounted end m component now list all next (record { cap = all; users = [] })
    counting_starts next is = record {
      from = 0;
      within = omega arith;
      is_next = is;
      so_far = none_counted cmp component now list s all;
    }

    module _ (next : Option ℕ) (side : Side) (h : HasCounted end m component now list all next side) where
      abbrev is_shared : Flight P → Bool
      is_shared one = share cmp end m one.message.value

      first_there : (at : ℕ) → next ≡ Some at → PassesFirstAt is_shared list h.from at
      first_there at is = subst (IsNextPlace is_shared list h.from) is h.is_next

      pub next_within : (at : ℕ) → next ≡ Some at → at < length list
      next_within at is = (first_there at is).high

      pub next_shares : (at : ℕ) → next ≡ Some at → (one : Flight P) → slice_get list at ≡ Some one
          → share cmp end m one.message.value ≡ true
      next_shares at is one there =
          ap is_shared (sym (get_or_from_slice_get list at one one there)) ∙ (first_there at is).here one

      -- up to the next one
      pub counted_here : (at : ℕ) → next ≡ Some at → IsCounted cmp component now list s all at side
      counted_here at is =
          let there = first_there at is in
          let gap : h.from + (at - h.from) ≡ at = omega (arith, there.low) in
          subst (λ n. IsCounted cmp component now list s all n side) gap
          (skipped cmp component now list s all (at - h.from) h.from (omega (arith, gap, there.high))
          (λ i low high d. off i d (there.before i low (omega (arith, high, gap)) d)) side h.so_far)

      -- with the next one
      pub counts_on : IsTotalOrder cmp → (at : ℕ) → next ≡ Some at → (following : Option ℕ)
          → ((d : Flight P) → IsNextPlace
          (λ other. share cmp end (get_or list at d).message.value other.message.value) list (at + 1) following)
          → (new : Side) → IsCounted cmp component now list s all (at + 1) new
          → HasCounted end m component now list all following new
      counts_on order at is following further new counted =
          let there = first_there at is in
          let one = (one_there list at there.high).0 in
          record {
            from = at + 1;
            within = omega (arith, there.high);
            is_next = next_shared cmp order end m list (at + 1) following (get_or list at one).message.value
                (there.here one) (further one);
            so_far = counted;
          }

      -- where there is no next one, all are counted
      pub counted_all : next ≡ None
          → (side.cap ≡ all - kept_load cmp component (flights_at now list) s)
          × (side.users ≡ places_from 0 (limits cmp s) (flows_of cmp component (flights_at now list)))
      counted_all is =
          let none = subst (IsNextPlace is_shared list h.from) is h.is_next in
          let gap : h.from + (length list - h.from) ≡ length list = omega (arith, h.within) in
          all_counted cmp component now list s all (h.from + (length list - h.from)) (omega (arith, gap)) side
          (skipped cmp component now list s all (length list - h.from) h.from (omega (arith, gap))
          (λ i low high d. off i d (none i low (omega (arith, high, gap)) d)) side h.so_far)

      -- fewer stand behind the next one
      pub fewer_to_count : (at : ℕ) → next ≡ Some at → (following : Option ℕ)
          → ((d : Flight P) → IsNextPlace
          (λ other. share cmp end (get_or list at d).message.value other.message.value) list (at + 1) following)
          → behind list following < behind list next
      fewer_to_count at is following further =
          let d = (one_there list at (first_there at is).high).0 in
          fewer_ahead (λ (other : Flight P). share cmp end (get_or list at d).message.value other.message.value) list at
          next following is (first_there at is).high (further d)

-- ---- who is rated anew near the component

module _ {P : Type 0} (cmp : P → P → Ordering) (component : Component P) (u : UnitFlight P)
    (suited : suits cmp component u ≡ true) where
  -- one of which it has an end is rated anew just where it keeps no rate
  pub of_if_not_kept : touches cmp component u.message ≡ true → keeps component u ≡ false
      → is_of cmp component u ≡ true
  of_if_not_kept near free =
      let both : has_both cmp component u.message ≡ true =
      sym (ap₂ (λ a b. a || (if b then has_both cmp component u.message else u.rated)) free near) ∙ suited in
      ap₂ (λ a b. a && not b)
      (first_of_both (is_sender cmp component u.message.origin u.message.recipient) _ both) free

  pub out_if_kept : keeps component u ≡ true → is_of cmp component u ≡ false
  out_if_kept kept = ap (λ b. is_sender cmp component u.message.origin u.message.recipient && not b) kept
      ∙ and-false (is_sender cmp component u.message.origin u.message.recipient)

-- what one drains that has got a rate
pub rated_rate : {P : Type 0} (one : Flight P) → one.rated ≡ true → (flight_at 0 one).rate ≡ one.rate
rated_rate one rated = ap (λ b. if b then one.rate else 0) rated

-- ---- by places

module _ {P : Type 0} (cmp : P → P → Ordering) (component : Component P) (list : List (Flight P)) where
  abbrev is_rated : Flight P → Bool
  is_rated f = is_of cmp component (flight_at 0 f)

  -- as many of the component stand before a place at every moment
  pub those_before : (now : ℕ) (fs : List (Flight P))
      → length (filter is_rated fs) ≡ length (those_of cmp component (flights_at now fs))
  those_before now [] = refl
  those_before now (f ∷ fs) = by_test (is_rated f) refl (those_before now fs)
    where
      by_test : (b : Bool) → is_rated f ≡ b
          → length (filter is_rated fs) ≡ length (those_of cmp component (flights_at now fs))
          → length (filter is_rated (f ∷ fs)) ≡ length (those_of cmp component (flights_at now (f ∷ fs)))
      by_test true is ih =
          ap length (filter_yes is_rated f fs is) ∙ ap suc ih
          ∙ sym (ap length (filter_yes (is_of cmp component) (flight_at now f) (flights_at now fs) is))
      by_test false out ih =
          ap length (filter_no is_rated f fs out) ∙ ih
          ∙ sym (ap length (filter_no (is_of cmp component) (flight_at now f) (flights_at now fs) out))

  -- each is suited
  pub suited_at : (now : ℕ) → list_all (suits cmp component) (flights_at now list) ≡ true → (at : ℕ) (one : Flight P)
      → slice_get list at ≡ Some one → suits cmp component (flight_at now one) ≡ true
  suited_at now all at one there =
      all_pass (suits cmp component) (flights_at now list) all (flight_at now one)
      (in_map (flight_at now) list one (in_get list at one there))

  -- the flow of a number is that of the one at its place
  pub flow_at : (now k at : ℕ) (one : Flight P) → slice_get (places_of is_rated 0 list) k ≡ Some at
      → slice_get list at ≡ Some one
      → slice_get (flows_of cmp component (flights_at now list)) k ≡ Some (flow_sent cmp one.message.value)
  flow_at now k at one placed there =
      let p = place_is_of is_rated list k at placed in
      let same : p.x ≡ one = same_Some p.x one (sym p.there ∙ there) in
      read_those now k p.x p.among ∙ ap (λ (f : Flight P). Some (flow_sent cmp f.message.value)) same
    where
      read_those : (now k : ℕ) (x : Flight P) → slice_get (filter is_rated list) k ≡ Some x
          → slice_get (flows_of cmp component (flights_at now list)) k ≡ Some (flow_sent cmp x.message.value)
      read_those now k x at =
          ap (λ us. slice_get (map (flow_in_flight cmp) us) k) (read_filter (flight_at now) (is_of cmp component) list)
          ∙ slice_get-map (flow_in_flight cmp) (map (flight_at now) (filter is_rated list)) k
          ∙ ap (option_map (flow_in_flight cmp))
          (slice_get-map (flight_at now) (filter is_rated list) k ∙ ap (option_map (flight_at now)) at)

-- ---- one on the chain of an end

module _ {P : Type 0} (cmp : P → P → Ordering) (end : End) (component : Component P) (now : ℕ)
    (list : List (Flight P)) (m : Message P) (one : Flight P) (all at : ℕ) (there : slice_get list at ≡ Some one)
    (shares : share cmp end m one.message.value ≡ true) (side : Side) where
  abbrev IsCountedTo : ℕ → Side → Type 0
  IsCountedTo n new = IsCounted cmp component now list (end_subject end (flow_sent cmp m)) all n new

  limited : (b : Bool) → uses_end cmp end one.message.value ≡ b
      → limits cmp (end_subject end (flow_sent cmp m)) (flow_sent cmp one.message.value) ≡ b
  limited b uses = limits_at cmp end m one.message.value ∙ ap₂ (λ x y. x && y) uses shares ∙ and_true b
    where
      and_true : (b : Bool) → (b && true) ≡ b
      and_true true = refl
      and_true false = refl

  -- it does not use the side
  pub count_passed : uses_end cmp end one.message.value ≡ false → IsCountedTo at side → IsCountedTo (at + 1) side
  count_passed uses h =
      passed_by cmp component now list (end_subject end (flow_sent cmp m)) all at one there (limited false uses) side h

  -- it is rated anew
  pub count_user : uses_end cmp end one.message.value ≡ true → is_of cmp component (flight_at now one) ≡ true
      → (number : ℕ) → slice_get (places_of (λ f. is_of cmp component (flight_at 0 f)) 0 list) number ≡ Some at
      → IsCountedTo at side → IsCountedTo (at + 1) (record { cap = side.cap; users = side.users ++ number ∷ [] })
  count_user uses is number placed h =
      user_counted cmp component now list (end_subject end (flow_sent cmp m)) all at one there (limited true uses) is side
      h number
      ((place_is_of (λ f. is_of cmp component (flight_at 0 f)) list number at placed).number
      ∙ those_before cmp component list now (take at list))

  -- it keeps its rate
  pub count_rate : uses_end cmp end one.message.value ≡ true → is_of cmp component (flight_at now one) ≡ false
      → (cap : ℕ) → cap ≡ side.cap - (flight_at now one).rate
      → IsCountedTo at side → IsCountedTo (at + 1) (record { cap = cap; users = side.users })
  count_rate uses out cap cap_is h =
      rate_counted cmp component now list (end_subject end (flow_sent cmp m)) all at one there (limited true uses) out side
      h cap cap_is

-- there is a place for each flow of those that are rated anew
pub as_many : {P : Type 0} (cmp : P → P → Ordering) (component : Component P) (list : List (Flight P)) (now : ℕ)
    → length (flows_of cmp component (flights_at now list))
    ≡ length (places_of (λ f. is_of cmp component (flight_at 0 f)) 0 list)
as_many cmp component list now =
    length-map (those_of cmp component (flights_at now list)) (flow_in_flight cmp)
    ∙ sym (those_before cmp component list now list)
    ∙ sym (places_length (λ f. is_of cmp component (flight_at 0 f)) 0 list)

module _ {P : Type 0} (cmp : P → P → Ordering) where
  -- a message that uses an end is limited there
  pub limited_itself : IsTotalOrder cmp → (end : End) (m : Message P) → uses_end cmp end m ≡ true
      → limits cmp (end_subject end (flow_sent cmp m)) (flow_sent cmp m) ≡ true
  limited_itself order Origin m uses = same_peer_itself cmp order m.origin
  limited_itself order Recipient m uses =
      limits_at cmp Recipient m m ∙ ap₂ (λ a b. a && b) uses (same_peer_itself cmp order m.recipient)

  -- and what is limited uses it
  pub uses_if_limited : (end : End) (m : Message P)
      → limits cmp (end_subject end (flow_sent cmp m)) (flow_sent cmp m) ≡ true → uses_end cmp end m ≡ true
  uses_if_limited end m l =
      first_of_both (uses_end cmp end m) (share cmp end m m) (sym (limits_at cmp end m m) ∙ l)

module _ {P : Type 0} (cmp : P → P → Ordering) (component : Component P) (list : List (Flight P)) where
  -- the one of a number is that at its place
  pub those_at : (now k at : ℕ) (one : Flight P)
      → slice_get (places_of (λ f. is_of cmp component (flight_at 0 f)) 0 list) k ≡ Some at → slice_get list at ≡ Some one
      → slice_get (those_of cmp component (flights_at now list)) k ≡ Some (flight_at now one)
  those_at now k at one placed there =
      let rated : Flight P → Bool = λ f. is_of cmp component (flight_at 0 f) in
      let p = place_is_of rated list k at placed in
      let same : p.x ≡ one = same_Some p.x one (sym p.there ∙ there) in
      ap (λ us. slice_get us k) (read_filter (flight_at now) (is_of cmp component) list)
      ∙ slice_get-map (flight_at now) (filter rated list) k ∙ ap (option_map (flight_at now)) p.among
      ∙ ap (λ (f : Flight P). Some (flight_at now f)) same

  -- each place is one of the list
  pub places_within : All (λ at. at < length list) (places_of (λ f. is_of cmp component (flight_at 0 f)) 0 list)
  places_within =
      let rated : Flight P → Bool = λ f. is_of cmp component (flight_at 0 f) in
      All-from_contains (λ at. at < length list) (places_of rated 0 list) (listed_within rated list)

-- ---- the places of those that are rated anew

module _ {P : Type 0} (cmp : P → P → Ordering) (component : Component P) (list : List (Flight P)) where
  abbrev has_end : Flight P → Bool
  has_end f = touches cmp component f.message.value

  abbrev is_anew : Flight P → Bool
  is_anew f = is_of cmp component (flight_at 0 f)

  -- whether one that is rated anew stands at a place
  abbrev pub anew_there : ℕ → Bool
  anew_there p = unwrap_or (option_map is_anew (slice_get list p)) false

  -- of each the component has an end
  has_end_if : (f : Flight P) → is_anew f ≡ true → has_end f ≡ true
  has_end_if f is =
      ap (λ b. b || is_receiver cmp component f.message.value.origin f.message.value.recipient)
      (first_of_both (is_sender cmp component f.message.value.origin f.message.value.recipient) _ is)

  -- they are among those of which it has an end
  pub anew_places : filter anew_there (places_of has_end 0 list) ≡ places_of is_anew 0 list
  anew_places =
      fewer_places has_end is_anew has_end_if 0 list anew_there
      (λ i x there. ap anew_there (zero-add i) ∙ ap (λ o. unwrap_or (option_map is_anew o) false) there)

  module _ (now : ℕ) (suited : list_all (suits cmp component) (flights_at now list) ≡ true) (number at : ℕ)
      (placed : slice_get (places_of has_end 0 list) number ≡ Some at) where
    abbrev so_far : ℕ → List ℕ
    so_far n = filter anew_there (take n (places_of has_end 0 list))

    one_next : take (number + 1) (places_of has_end 0 list) ≡ take number (places_of has_end 0 list) ++ at ∷ []
    one_next =
        take_more (places_of has_end 0 list) number at
        (slice_get_within (places_of has_end 0 list) number at placed)
        ∙ ap (λ p. take number (places_of has_end 0 list) ++ p ∷ [])
        (get_or_from_slice_get (places_of has_end 0 list) number at at placed)

    there_is : (one : Flight P) → slice_get list at ≡ Some one → anew_there at ≡ is_anew one
    there_is one there = ap (λ o. unwrap_or (option_map is_anew o) false) there

    -- one that keeps no rate is listed
    pub anew_listed : (one : Flight P) → slice_get list at ≡ Some one → keeps component (flight_at 0 one) ≡ false
        → so_far (number + 1) ≡ so_far number ++ at ∷ []
    anew_listed one there free =
        let p = place_is_of has_end list number at placed in
        let same : p.x ≡ one = same_Some p.x one (sym p.there ∙ there) in
        let near : has_end one ≡ true = ap has_end (sym same) ∙ p.passes in
        let is : is_anew one ≡ true =
        of_if_not_kept cmp component (flight_at now one) (suited_at cmp component list now suited at one there) near free in
        ap (filter anew_there) one_next ∙ filter-append anew_there (take number (places_of has_end 0 list)) (at ∷ [])
        ∙ ap (λ l. so_far number ++ l) (filter_yes anew_there at [] (there_is one there ∙ is))

    -- and one that keeps its rate is not
    pub kept_unlisted : (one : Flight P) → slice_get list at ≡ Some one → keeps component (flight_at 0 one) ≡ true
        → so_far (number + 1) ≡ so_far number
    kept_unlisted one there kept =
        let out : is_anew one ≡ false =
        out_if_kept cmp component (flight_at now one) (suited_at cmp component list now suited at one there) kept in
        ap (filter anew_there) one_next ∙ filter-append anew_there (take number (places_of has_end 0 list)) (at ∷ [])
        ∙ ap (λ l. so_far number ++ l) (filter_no anew_there at [] (there_is one there ∙ out))
        ∙ append-nil (so_far number)
