-- Rates that are given to messages in flight one after another, and the first finish.
use Rattle.link_flights.proofs.Common.{◌≡◌, ◌≢◌, ℕ, zero, suc, ◌+◌, ◌-◌, ◌*◌, ◌<◌, ◌≤◌, nat_le, Bool, true, false, cond}
use Rattle.link_flights.proofs.Common.{if◌then◌else◌, not, ◌||◌, List, [], ◌∷◌, ◌++◌, All, Option, Some, None, length}
use Rattle.link_flights.proofs.Common.{drop, get_or, set, slice_get, refl, sym, ap, ◌∙◌, subst, inl, inr, ◌⊎◌, arith}
use Rattle.link_flights.proofs.Common.{◌==◌, list_any, Ordering, le-leb, leb-true, cases_lt, false≢true, eqb-true}
use Rattle.link_flights.proofs.Common.{length-append, append-nil, map-append, length-set, get_or_default, none-some}
use Rattle.link_flights.proofs.Common.{same_Some, slice_get-map, slice_get_within, get_or_from_slice_get}
use Rattle.link_flights.proofs.Common.{slice_get-get_or, get_from_map, billion, Caps, last_moment, RatedFlight}
use Rattle.link_flights.proofs.Common.{Component, Flight, Flights, is_of, those_of, places_of, UnitFlight, left_by}
use Rattle.link_flights.proofs.Common.{flight_at, flights_at, has_come, IsTimed, AreTimed, in_units, in_flight, rerated}
use Rattle.link_flights.proofs.Common.{rated_anew, IsReratedAt, IsRatedFrom, HaveFairRates, rated_flight_of, sending_of}
use Rattle.link_flights.proofs.Common.{append_assoc, set-get_or, mul-pos, get_or-seam, IsLeastMoment, SomeSpentAt}
use Rattle.link_flights.proofs.Common.{AreKeptBut, IsCountedAt}
use Rattle.std.specs.Prelude.{IfSome, option_map}
use Rattle.std.proofs.lemmas.List.{drop_more}
use Rattle.std.proofs.lemmas.Map.Keys.{any_passes_from_place}
use Rattle.fairness.proofs.Lists.Sorted.{set-seam}
use Rattle.link_simulation.specs.Rule.Planned.{IsSpentAt}
use Rattle.link_pairs.specs.declared.message.Message.{Message}
use Rattle.link_flights.specs.Flights.Rated.{AreOthersTimed}
use Rattle.link_flights.proofs.Flights.Flight.{drained_on, zip_there, all_there, is_past}
use Rattle.link_flights.proofs.Flights.InFlight.{filter_yes, filter_no}
use Rattle.link_flights.proofs.Flights.Places.{places_yes, places_no, first_left, none_left, past_end}
use Rattle.link_flights.proofs.Flights.Units.{drained_units, units_positive, no_units_left, nothing_left}
use Rattle.link_flights.proofs.Flights.Units.{other_factor}

-- ---- lists

get_either : {X : Type 0} (us : List X) (v : X) (i : ℕ) (x : X) → slice_get (us ++ v ∷ []) i ≡ Some x
    → (slice_get us i ≡ Some x) ⊎ (x ≡ v)
get_either [] v zero x is = inr (sym (same_Some v x is))
get_either [] v (suc i) x is = absurd (none-some x is)
get_either (u ∷ us) v zero x is = inl is
get_either (u ∷ us) v (suc i) x is = get_either us v i x is

-- where one passes, it stands somewhere
passes_there : {X : Type 0} (test : X → Bool) (xs : List X) → list_any test xs ≡ true
    → (i : ℕ) × (x : X) × (slice_get xs i ≡ Some x) × (test x ≡ true)
passes_there test [] any = absurd (false≢true any)
passes_there {X} test (x ∷ xs) any = by_test (test x) refl (λ later. passes_there test xs later)
  where
    by_test : (b : Bool) → test x ≡ b
        → (list_any test xs ≡ true → (i : ℕ) × (y : X) × (slice_get xs i ≡ Some y) × (test y ≡ true))
        → (i : ℕ) × (y : X) × (slice_get (x ∷ xs) i ≡ Some y) × (test y ≡ true)
    by_test true is ih = (0, x, refl, is)
    by_test false is ih =
        let r = ih (sym (ap (λ b. b || list_any test xs) is) ∙ any) in
        (suc r.0, r.1, r.2, r.3)

pub none_there : {X : Type 0} (xs : List X) (n : ℕ) → n ≡ length xs → (n == 0) ≡ true → xs ≡ []
none_there [] n is none = refl
none_there (x ∷ xs) n is none = absurd (omega (arith, is, eqb-true n 0 none))

-- ---- rates, one after another

module _ {P : Type 0} where
  -- those that are timed, and one more
  more_timed : (fs : List (Flight P)) (y : Flight P) → AreTimed fs
      → (y.rated ≡ true → IsTimed y) → AreTimed (fs ++ y ∷ [])
  more_timed fs y timed one i f there rated = elim (get_either fs y i f there) [
    | inl before ↦ timed i f before rated
    | inr is ↦ subst (λ (g : Flight P). IsTimed g) (sym is)
        (one (sym (ap (λ (g : Flight P). g.rated) is) ∙ rated))
  ]

  unit_there : (now : ℕ) (fs : List (Flight P)) (i : ℕ) (f : Flight P) → slice_get fs i ≡ Some f
      → slice_get (flights_at now fs) i ≡ Some (flight_at now f)
  unit_there now fs i f there =
      slice_get-map (λ (g : Flight P). flight_at now g) fs i
      ∙ ap (option_map (λ (g : Flight P). flight_at now g)) there

  moved_on : (now : ℕ) (fs : List (Flight P)) (y : Flight P) (us : List (UnitFlight P))
      → flights_at now fs ++ flight_at now y ∷ us ≡ flights_at now (fs ++ y ∷ []) ++ us
  moved_on now fs y us =
      sym (append_assoc (flights_at now fs) (flight_at now y ∷ []) us)
      ∙ ap (λ l. l ++ us) (sym (map-append (λ (f : Flight P). flight_at now f) fs (y ∷ [])))

-- ---- one that is rated anew, or goes on

module _ {P : Type 0} (now times rate : ℕ) where
  abbrev as_record : ℕ → Message P → ℕ → UnitFlight P
  as_record id m n = record { id = id; message = m; left = n; rate = rate; updated = now; rated = true }

  anew_is : (f x : Flight P) → f.id ≡ x.id → f.message.value ≡ x.message.value
      → f.left ≡ (flight_at now x).left * times → f.rate ≡ rate → f.since ≡ now → f.rated ≡ true
      → flight_at now f ≡ rated_anew now times rate (flight_at now x)
  anew_is f x id message left at_rate since rated =
      rw (rated, id, message, at_rate, since) (ap (as_record x.id x.message.value) rest)
    where
      none : now - now ≡ 0
      none = omega arith

      nothing : f.left - rate * 0 ≡ f.left
      nothing = omega arith

      rest : f.left - rate * (now - now) ≡ (flight_at now x).left * times
      rest = ap (λ n. f.left - rate * n) none ∙ nothing ∙ left

  same_is : (x : Flight P) → x.rated ≡ true → x.rate ≡ rate → times ≡ 1
      → flight_at now x ≡ rated_anew now times rate (flight_at now x)
  same_is x rated at_rate once =
      rw (rated, at_rate, once) (ap (as_record x.id x.message.value) (omega arith))

  module _ (fs : List (Flight P)) (at : ℕ) (x : Flight P) (there : at < length fs)
      (is : x ≡ get_or fs at x) where
    read : (d : Flight P) → x ≡ get_or fs at d
    read d = is ∙ get_or_default fs at x d there

    -- another one is put in its place
    pub put_anew : (f : Flight P) (new : List (Flight P)) → new ≡ set fs at f
        → f.id ≡ x.id → f.message.value ≡ x.message.value → f.left ≡ (flight_at now x).left * times
        → f.rate ≡ rate → f.since ≡ now → f.rated ≡ true → IsTimed f
        → IsReratedAt now at times rate fs new
    put_anew f new put id message left at_rate since rated timed = record {
      one = f;
      others = put;
      unit = λ d. anew_is f x id message left at_rate since rated
          ∙ ap (λ (y : Flight P). rated_anew now times rate (flight_at now y)) (read d);
      timed = timed;
    }

    -- nothing changes
    pub goes_on : x.rated ≡ true → x.rate ≡ rate → times ≡ 1
        → AreTimed fs → IsReratedAt now at times rate fs fs
    goes_on rated at_rate once timed = record {
      one = x;
      others = sym (set-get_or fs at x) ∙ ap (set fs at) (sym is);
      unit = λ d. same_is x rated at_rate once
          ∙ ap (λ (y : Flight P). rated_anew now times rate (flight_at now y)) (read d);
      timed = timed at x (slice_get-get_or fs at x there ∙ ap Some (sym is)) rated;
    }

set_there : {X : Type 0} (xs : List X) (at : ℕ) (y : X) (i : ℕ) (x : X) → slice_get (set xs at y) i ≡ Some x
    → (x ≡ y) ⊎ (slice_get xs i ≡ Some x)
set_there [] at y i x there = inr there
set_there (z ∷ xs) zero y zero x there = inl (sym (same_Some y x there))
set_there (z ∷ xs) zero y (suc i) x there = inr there
set_there (z ∷ xs) (suc at) y zero x there = inr there
set_there (z ∷ xs) (suc at) y (suc i) x there = set_there xs at y i x there

-- where one is rated anew, all are timed that were
pub timed_set : {P : Type 0} {fs new : List (Flight P)} {now at times rate : ℕ}
    → IsReratedAt now at times rate fs new → AreTimed fs → AreTimed new
timed_set {P} {fs = fs} {at = at} put timed i f there rated =
    elim (set_there fs at put.one i f (sym (ap (λ l. slice_get l i) put.others) ∙ there)) [
      | inl is ↦ subst (λ (g : Flight P). IsTimed g) (sym is) put.timed
      | inr before ↦ timed i f before rated
    ]

-- ---- how many are written anew

pub all_kept : {X : Type 0} (xs : List X) → AreKeptBut 0 xs xs
all_kept [] = refl
all_kept (x ∷ xs) = (refl, all_kept xs)

counted_more : {X : Type 0} (n : ℕ) (xs ys : List X) → AreKeptBut n xs ys → AreKeptBut (suc n) xs ys
counted_more n [] ys kept = kept
counted_more n (x ∷ xs) [] kept = absurd kept
counted_more zero (x ∷ xs) (y ∷ ys) kept = inl (kept.0, counted_more zero xs ys kept.1)
counted_more (suc n) (x ∷ xs) (y ∷ ys) (inl kept) = inl (kept.0, counted_more (suc n) xs ys kept.1)
counted_more (suc n) (x ∷ xs) (y ∷ ys) (inr rest) = inr (counted_more n xs ys rest)

set_elsewhere : {X : Type 0} (n : ℕ) (xs ys : List X) (at : ℕ) (y : X) → AreKeptBut n xs ys
    → AreKeptBut (suc n) xs (set ys at y)
set_elsewhere n [] ys at y kept = ap (λ l. set l at y) kept
set_elsewhere n (x ∷ xs) [] at y kept = absurd kept
set_elsewhere zero (x ∷ xs) (z ∷ ys) zero y kept = inr kept.1
set_elsewhere zero (x ∷ xs) (z ∷ ys) (suc at) y kept = inl (kept.0, set_elsewhere zero xs ys at y kept.1)
set_elsewhere (suc n) (x ∷ xs) (z ∷ ys) zero y (inl kept) = inr kept.1
set_elsewhere (suc n) (x ∷ xs) (z ∷ ys) zero y (inr rest) = inr (counted_more n xs ys rest)
set_elsewhere (suc n) (x ∷ xs) (z ∷ ys) (suc at) y (inl kept) = inl (kept.0, set_elsewhere (suc n) xs ys at y kept.1)
set_elsewhere (suc n) (x ∷ xs) (z ∷ ys) (suc at) y (inr rest) = inr (set_elsewhere n xs ys at y rest)

module _ {P : Type 0} {a : _} {b : _} {c : _} (at : ℕ) (old new : Flights P a b c) where
  -- one more is written anew at most
  pub one_counted : (first : List (Flight P)) → IsCountedAt at old new
      → AreKeptBut old.rated_anew first old.list.items → AreKeptBut new.rated_anew first new.list.items
  one_counted first (inl same) kept =
      subst (λ n. AreKeptBut n first new.list.items) (sym same.0)
      (subst (AreKeptBut old.rated_anew first) (sym same.1) kept)
  one_counted first (inr one) kept =
      subst (λ n. AreKeptBut n first new.list.items) (sym (one.0 ∙ omega arith))
      (subst (AreKeptBut (suc old.rated_anew) first) (sym one.1.1)
      (set_elsewhere old.rated_anew first old.list.items at one.1.0 kept))

  pub by_one : IsCountedAt at old new → new.rated_anew ≤ old.rated_anew + 1
  by_one (inl same) = omega (arith, same.0)
  by_one (inr one) = omega (arith, one.0)

module _ {P : Type 0} (cmp : P → P → Ordering) (component : Component P) (now times : ℕ) where
  abbrev again : List ℕ → List (UnitFlight P) → List (UnitFlight P)
  again rates us = rerated cmp component now times rates us

  abbrev anew : ℕ → UnitFlight P → UnitFlight P
  anew rate u = rated_anew now times rate u

  as_they_are : (us : List (UnitFlight P)) → us ≡ again [] us
  as_they_are [] = refl
  as_they_are (u ∷ us) = refl

  passed_over : (rates : List ℕ) (u : UnitFlight P) (us : List (UnitFlight P)) → is_of cmp component u ≡ false
      → again rates (u ∷ us) ≡ u ∷ again rates us
  passed_over [] u us out = ap (λ l. u ∷ l) (as_they_are us)
  passed_over (rate ∷ rates) u us out =
      ap (λ b. cond b (anew rate u ∷ again rates us) (u ∷ again (rate ∷ rates) us)) out

  given_one : (rate : ℕ) (rates : List ℕ) (u : UnitFlight P) (us : List (UnitFlight P)) → is_of cmp component u ≡ true
      → again (rate ∷ rates) (u ∷ us) ≡ anew rate u ∷ again rates us
  given_one rate rates u us of =
      ap (λ b. cond b (anew rate u ∷ again rates us) (u ∷ again (rate ∷ rates) us)) of

  module _ (rates : List ℕ) (old : List (Flight P)) where
    -- up to a place those of the component have got their rates, and from there on nothing has changed
    pub record AreReratedUpTo (so_far : List (Flight P)) (at next : ℕ) : Type 0 where
      pub to : List (Flight P)
      pub rest : List (Flight P)
      pub is : so_far ≡ to ++ rest
      pub at_is : at ≡ length to
      pub as_many : length so_far ≡ length old
      pub comes : again rates (flights_at now old) ≡ flights_at now to ++ again (drop next rates) (flights_at now rest)
      pub one_each : length rates ≡ next + length (those_of cmp component (flights_at now rest))
      pub left : All (λ (u : UnitFlight P). u.left * times ≢ 0) (flights_at now rest)
      pub timed : AreTimed to
      pub others : AreOthersTimed cmp component rest

    pub none_rerated : length rates ≡ length (those_of cmp component (flights_at now old))
        → All (λ (u : UnitFlight P). u.left * times ≢ 0) (flights_at now old) → AreOthersTimed cmp component old
        → AreReratedUpTo old 0 0
    none_rerated one_each left others = record {
      to = [];
      rest = old;
      is = refl;
      at_is = refl;
      as_many = refl;
      comes = refl;
      one_each = omega (arith, one_each);
      left = left;
      timed = λ i f there rated. absurd (none-some f there);
      others = others;
    }

module _ {P : Type 0} {cmp : P → P → Ordering} {component : Component P} {now times : ℕ} {rates : List ℕ}
    {old so_far : List (Flight P)} {at next : ℕ}
    (h : AreReratedUpTo cmp component now times rates old so_far at next) where
  -- what stands at the place
  pub record StandsNext (x : Flight P) : Type 0 where
    pub rest : List (Flight P)
    pub was : h.rest ≡ x ∷ rest

  module _ (x : Flight P) (s : StandsNext x) where
    abbrev u : UnitFlight P
    u = flight_at now x

    abbrev us : List (UnitFlight P)
    us = flights_at now s.rest

    left_all : All (λ (v : UnitFlight P). v.left * times ≢ 0) (u ∷ us)
    left_all = subst (λ l. All (λ (v : UnitFlight P). v.left * times ≢ 0) (flights_at now l)) s.was h.left

    others_all : AreOthersTimed cmp component (x ∷ s.rest)
    others_all = subst (AreOthersTimed cmp component) s.was h.others

    count_all : length rates ≡ next + length (those_of cmp component (u ∷ us))
    count_all = h.one_each ∙ ap (λ l. next + length (those_of cmp component (flights_at now l))) s.was

    comes_all : rerated cmp component now times rates (flights_at now old)
        ≡ flights_at now h.to ++ rerated cmp component now times (drop next rates) (u ∷ us)
    comes_all =
        h.comes
        ∙ ap (λ l. flights_at now h.to ++ rerated cmp component now times (drop next rates) (flights_at now l))
        s.was

    stands_in : so_far ≡ h.to ++ x ∷ s.rest
    stands_in = h.is ∙ ap (λ l. h.to ++ l) s.was

    pub stands_within : at < length so_far
    stands_within = omega (arith, h.at_is, ap length stands_in, length-append h.to (x ∷ s.rest))

    pub stands_here : (d : Flight P) → x ≡ get_or so_far at d
    stands_here d =
        sym (ap (λ l. get_or l at d) stands_in ∙ ap (λ n. get_or (h.to ++ x ∷ s.rest) n d) h.at_is
        ∙ get_or-seam h.to s.rest x d)

    pub something_left : u.left * times ≢ 0
    something_left = left_all 0 u (omega arith)

    pub has_rate : is_of cmp component u ≡ true → next < length rates
    has_rate of = omega (arith, count_all, ap length (filter_yes (is_of cmp component) u us of))

    pub passed : is_of cmp component u ≡ false
        → AreReratedUpTo cmp component now times rates old so_far (at + 1) next
    passed out = record {
      to = h.to ++ x ∷ [];
      rest = s.rest;
      is = h.is ∙ ap (λ l. h.to ++ l) s.was ∙ sym (append_assoc h.to (x ∷ []) s.rest);
      at_is = ap (λ n. n + 1) h.at_is ∙ sym (length-append h.to (x ∷ []));
      as_many = h.as_many;
      comes = comes_all
          ∙ ap (λ l. flights_at now h.to ++ l) (passed_over cmp component now times (drop next rates) u us out)
          ∙ moved_on now h.to x (rerated cmp component now times (drop next rates) us);
      one_each = count_all ∙ ap (λ l. next + length l) (filter_no (is_of cmp component) u us out);
      left = λ i v within. left_all (suc i) v (omega arith);
      timed = more_timed h.to x h.timed (others_all 0 x refl out);
      others = λ i f there. others_all (suc i) f there;
    }

    pub one_rerated : (rate : ℕ) (new : List (Flight P))
        → IsReratedAt now at times rate so_far new → x ≡ get_or so_far at x → rate ≡ get_or rates next 0
        → is_of cmp component u ≡ true → AreReratedUpTo cmp component now times rates old new (at + 1) (next + 1)
    one_rerated rate new put here rate_is of =
        let y = put.one in
        let fresh : flight_at now y ≡ anew cmp component now times (get_or rates next 0) u =
        put.unit x
        ∙ ap (λ (z : Flight P). rated_anew now times rate (flight_at now z)) (sym here)
        ∙ ap (λ n. rated_anew now times n u) rate_is in
        record {
          to = h.to ++ y ∷ [];
          rest = s.rest;
          is = put.others ∙ ap (λ l. set l at y) (h.is ∙ ap (λ l. h.to ++ l) s.was)
              ∙ ap (λ n. set (h.to ++ x ∷ s.rest) n y) h.at_is ∙ set-seam h.to s.rest x y
              ∙ sym (append_assoc h.to (y ∷ []) s.rest);
          at_is = ap (λ n. n + 1) h.at_is ∙ sym (length-append h.to (y ∷ []));
          as_many = ap length put.others ∙ length-set so_far at y ∙ h.as_many;
          comes = comes_all ∙ ap (λ l. flights_at now h.to ++ rerated cmp component now times l (u ∷ us))
              (drop_more rates next 0 (has_rate of))
              ∙ ap (λ l. flights_at now h.to ++ l)
              (given_one cmp component now times (get_or rates next 0) (drop (next + 1) rates) u us of)
              ∙ ap (λ v. flights_at now h.to ++ v ∷ rerated cmp component now times (drop (next + 1) rates) us)
              (sym fresh)
              ∙ moved_on now h.to y (rerated cmp component now times (drop (next + 1) rates) us);
          one_each = omega (arith, count_all, ap length (filter_yes (is_of cmp component) u us of));
          left = λ i v within. left_all (suc i) v (omega arith);
          timed = more_timed h.to y h.timed (λ is. put.timed);
          others = λ i g there. others_all (suc i) g there;
        }

  -- all of them
  pub record AreAllRerated : Type 0 where
    pub units : flights_at now so_far ≡ rerated cmp component now times rates (flights_at now old)
    pub timed : AreTimed so_far

  pub all_rerated : length so_far ≤ at → AreAllRerated
  all_rerated end = by_rest h.rest refl
    where
      by_rest : (rest : List (Flight P)) → h.rest ≡ rest → AreAllRerated
      by_rest [] e =
          let all : so_far ≡ h.to = h.is ∙ ap (λ l. h.to ++ l) e ∙ append-nil h.to in
          let none_come : rerated cmp component now times rates (flights_at now old) ≡ flights_at now h.to =
          h.comes
          ∙ ap (λ l. flights_at now h.to ++ rerated cmp component now times (drop next rates) (flights_at now l))
          e
          ∙ append-nil (flights_at now h.to) in
          record { units = ap (flights_at now) all ∙ sym none_come; timed = subst AreTimed (sym all) h.timed }
      by_rest (z ∷ rest) e =
          let whole = ap length (h.is ∙ ap (λ l. h.to ++ l) e) in
          absurd (omega (arith, end, h.at_is, whole, length-append h.to (z ∷ rest)))

module _ {P : Type 0} {cmp : P → P → Ordering} {component : Component P} {now times : ℕ} {rates : List ℕ}
    {old so_far : List (Flight P)} where
  -- where no rate is left, none of the others is of the component
  pub to_end : (n at next : ℕ) (h : AreReratedUpTo cmp component now times rates old so_far at next)
      → length h.rest ≡ n → length rates ≤ next
      → AreReratedUpTo cmp component now times rates old so_far (length so_far) next
  to_end zero at next h e end =
      let all : length so_far ≡ at =
      let whole = ap length h.is in omega (arith, e, whole, h.at_is, length-append h.to h.rest) in
      subst (λ k. AreReratedUpTo cmp component now times rates old so_far k next) (sym all) h
  to_end (suc n) at next h e end = by_rest h.rest refl (λ g f. to_end n (at + 1) next g f end)
    where
      out : (z : Flight P) (s : StandsNext h z) → (b : Bool)
          → is_of cmp component (flight_at now z) ≡ b → is_of cmp component (flight_at now z) ≡ false
      out z s true of = absurd (omega (arith, has_rate h z s of, end))
      out z s false of = of

      by_rest : (rest : List (Flight P)) → h.rest ≡ rest
          → ((g : AreReratedUpTo cmp component now times rates old so_far (at + 1) next) → length g.rest ≡ n
          → AreReratedUpTo cmp component now times rates old so_far (length so_far) next)
          → AreReratedUpTo cmp component now times rates old so_far (length so_far) next
      by_rest [] r later = absurd (omega (arith, e, ap length r))
      by_rest (z ∷ rest) r later =
          let s : StandsNext h z = record { rest = rest; was = r } in
          let g : AreReratedUpTo cmp component now times rates old so_far (at + 1) next =
          passed h z s (out z s (is_of cmp component (flight_at now z)) refl) in
          let before = ap length h.is in
          let after = ap length g.is in
          let fewer : length g.rest ≡ n =
          omega (arith, e, before, h.at_is, length-append h.to h.rest, after, g.at_is, length-append g.to g.rest) in
          later g fewer

-- ---- from one that is rated anew to the next

module _ {P : Type 0} (cmp : P → P → Ordering) (component : Component P) where
  abbrev is_rated : Flight P → Bool
  is_rated f = is_of cmp component (flight_at 0 f)

  -- where no more come, none of the others is of the component
  none_of_far : (now at : ℕ) (rest : List (Flight P)) → places_of is_rated at rest ≡ []
      → those_of cmp component (flights_at now rest) ≡ []
  none_of_far now at [] none = refl
  none_of_far now at (z ∷ rest) none = by_test (is_rated z) refl (none_of_far now (suc at) rest)
    where
      by_test : (b : Bool) → is_rated z ≡ b
          → (places_of is_rated (suc at) rest ≡ [] → those_of cmp component (flights_at now rest) ≡ [])
          → those_of cmp component (flights_at now (z ∷ rest)) ≡ []
      by_test true here later = absurd (omega (arith, ap length (sym (places_yes is_rated at z rest here) ∙ none)))
      by_test false out later =
          filter_no (is_of cmp component) (flight_at now z) (flights_at now rest) out
          ∙ later (sym (places_no is_rated at z rest out) ∙ none)

module _ {P : Type 0} (cmp : P → P → Ordering) (component : Component P) (now times : ℕ) (rates : List ℕ)
    (old so_far : List (Flight P)) where
  abbrev anew_at : Flight P → Bool
  anew_at f = is_of cmp component (flight_at 0 f)

  -- of those that are rated anew, the ones from a number on are still to come
  pub record AreToCome (number at : ℕ)
      (h : AreReratedUpTo cmp component now times rates old so_far at number) : Type 0
    where
      pub places : drop number (places_of anew_at 0 old) ≡ places_of anew_at at h.rest

  -- the next one, which stands at its place
  pub record IsNext (number from : ℕ) : Type 0 where
    pub at : ℕ
    pub after : from ≤ at
    pub up_to : AreReratedUpTo cmp component now times rates old so_far at number
    pub x : Flight P
    pub stands : StandsNext up_to x
    pub place : get_or (places_of anew_at 0 old) number 0 ≡ at
    pub of : is_of cmp component (flight_at now x) ≡ true
    pub places : drop (number + 1) (places_of anew_at 0 old) ≡ places_of anew_at (at + 1) stands.rest

  module _ (number from : ℕ) (lt : number < length (places_of anew_at 0 old)) where
    none_comes : (at : ℕ) (h : AreReratedUpTo cmp component now times rates old so_far at number)
        → AreToCome number at h → h.rest ≡ [] → IsNext number from
    none_comes at h ahead r =
        absurd (omega (
          arith,
          lt,
          none_left (places_of anew_at 0 old) number (ahead.places ∙ ap (places_of anew_at at) r),
        ))

    here_next : (at : ℕ) (h : AreReratedUpTo cmp component now times rates old so_far at number)
        → AreToCome number at h
        → from ≤ at → (z : Flight P) (rest : List (Flight P)) → h.rest ≡ z ∷ rest
        → anew_at z ≡ true → IsNext number from
    here_next at h ahead le z rest r here =
        let one = first_left (places_of anew_at 0 old) number at (places_of anew_at (suc at) rest)
        (ahead.places ∙ ap (places_of anew_at at) r ∙ places_yes anew_at at z rest here) in
        record {
          at = at;
          after = le;
          up_to = h;
          x = z;
          stands = record { rest = rest; was = r };
          place = get_or_from_slice_get (places_of anew_at 0 old) number at 0 one.0;
          of = here;
          places = one.1 ∙ ap (λ k. places_of anew_at k rest) (let it : suc at ≡ at + 1 = omega arith in it);
        }

    pub next_comes : (n at : ℕ) (h : AreReratedUpTo cmp component now times rates old so_far at number)
        → length h.rest ≡ n → AreToCome number at h → from ≤ at → IsNext number from
    unfolding passed
    next_comes zero at h e ahead le = by_rest h.rest refl
      where
        by_rest : (rest : List (Flight P)) → h.rest ≡ rest → IsNext number from
        by_rest [] r = none_comes at h ahead r
        by_rest (z ∷ rest) r = absurd (omega (arith, e, ap length r))
    next_comes (suc n) at h e ahead le =
        by_rest h.rest refl (λ g f later. next_comes n (at + 1) g f later (omega (arith, le)))
      where
        by_rest : (rest : List (Flight P)) → h.rest ≡ rest
            → ((g : AreReratedUpTo cmp component now times rates old so_far (at + 1) number) → length g.rest ≡ n
            → AreToCome number (at + 1) g → IsNext number from)
            → IsNext number from
        by_rest [] r later = none_comes at h ahead r
        by_rest (z ∷ rest) r later = by_test (anew_at z) refl
          where
            s : StandsNext h z
            s = record { rest = rest; was = r }

            by_test : (b : Bool) → anew_at z ≡ b → IsNext number from
            by_test true here = here_next at h ahead le z rest r here
            by_test false out =
                let g = passed h z s out in
                let same : length g.rest ≡ length rest = refl in
                later g (omega (arith, e, ap length r, same))
                (record {
                  places = ahead.places ∙ ap (places_of anew_at at) r ∙ places_no anew_at at z rest out
                      ∙ ap (λ k. places_of anew_at k rest) (let it : suc at ≡ at + 1 = omega arith in it);
                })

  pub none_more : (number at : ℕ) (h : AreReratedUpTo cmp component now times rates old so_far at number)
      → AreToCome number at h → length (places_of anew_at 0 old) ≤ number → length rates ≤ number
  none_more number at h ahead le =
      let none : places_of anew_at at h.rest ≡ [] =
      sym ahead.places ∙ past_end (places_of anew_at 0 old) number le in
      omega (arith, h.one_each, ap length (none_of_far cmp component now at h.rest none))

module _ {P : Type 0} (cmp : P → P → Ordering) (component : Component P) (now times : ℕ) (rates : List ℕ)
    (old so_far new : List (Flight P)) where
  -- one has got its rate
  pub rerated_to_come : (number from : ℕ) (n : IsNext cmp component now times rates old so_far number from)
      (rate : ℕ) (put : IsReratedAt now n.at times rate so_far new) (here : n.x ≡ get_or so_far n.at n.x)
      (rate_is : rate ≡ get_or rates number 0)
      → AreToCome cmp component now times rates old new (number + 1) (n.at + 1)
      (one_rerated n.up_to n.x n.stands rate new put here rate_is n.of)
  unfolding one_rerated
  rerated_to_come number from n rate put here rate_is = record { places = n.places }

  -- none has yet been looked at
  pub all_to_come : (one_each : length rates ≡ length (those_of cmp component (flights_at now old)))
      (left : All (λ (u : UnitFlight P). u.left * times ≢ 0) (flights_at now old))
      (others : AreOthersTimed cmp component old)
      → AreToCome cmp component now times rates old old 0 0
      (none_rerated cmp component now times rates old one_each left others)
  unfolding none_rerated
  all_to_come one_each left others = record { places = refl }

-- so many of those that are rated anew have got their rates
pub record IsSoFar {P : Type 0} {a : _} {b : _} {c : _} (cmp : P → P → Ordering) (component : Component P) (times : ℕ)
    (rates : List ℕ) (were_timed : Bool) (account units : ℕ) (old : List (Flight P))
    (now : Flights P a b c) (number : ℕ) : Type 0 where
  pub place : ℕ
  pub up_to : AreReratedUpTo cmp component account times rates old now.list.items place number
  pub to_come : AreToCome cmp component account times rates old now.list.items number place up_to
  pub at : now.at ≡ account
  pub scale : now.scale ≡ units
  pub timed : were_timed ≡ true → AreTimed now.list.items
  pub kept : AreKeptBut now.rated_anew old now.list.items
  pub counted : now.rated_anew ≤ number
  pub behind : number ≤ place

pub next_in : {P : Type 0} {a : _} {b : _} {c : _} {cmp : P → P → Ordering} {component : Component P} {times : ℕ}
    {rates : List ℕ} {were_timed : Bool} {account units : ℕ} {old : List (Flight P)}
    {now : Flights P a b c} {number : ℕ}
    (h : IsSoFar cmp component times rates were_timed account units old now number)
    → number < length (places_of (λ f. is_of cmp component (flight_at 0 f)) 0 old)
    → IsNext cmp component account times rates old now.list.items number h.place
next_in {cmp = cmp} {component} {times} {rates} {were_timed} {account} {units} {old} {now} {number} h lt =
    next_comes cmp component account times rates old now.list.items number h.place lt
    (length h.up_to.rest) h.place h.up_to refl h.to_come (omega arith)

-- ---- what is spent at a moment

-- no product of two numbers above zero is none
no_factor : (n times : ℕ) → 0 < times → n * times ≡ 0 → n ≡ 0
no_factor zero times some is = refl
no_factor (suc n) zero some is = absurd (omega arith)
no_factor (suc n) (suc times) some is =
    absurd (omega (arith, mul-pos {m = suc n} {n = suc times} (omega arith) (omega arith)))

module _ {P : Type 0} (scale : ℕ) (some : 0 < scale) where
  -- nothing is left of a message where its units run out
  out_if_spent : (u : UnitFlight P) (t : ℕ) → IsSpentAt t (rated_flight_of scale u) → u.left ≤ u.rate * (t - u.updated)
  out_if_spent u t spent =
      let none : u.left - u.rate * (t - u.updated) ≡ 0 =
      no_units_left _ (scale * billion) (units_positive scale some)
      (sym (ap (λ a. a.num) (drained_units u.left u.rate scale (t - u.updated) some)) ∙ spent) in
      omega arith

  spent_if_out : (u : UnitFlight P) (t : ℕ) → u.left ≤ u.rate * (t - u.updated) → IsSpentAt t (rated_flight_of scale u)
  spent_if_out u t out =
      ap (λ a. a.num) (drained_units u.left u.rate scale (t - u.updated) some)
      ∙ nothing_left _ (scale * billion) (units_positive scale some) (omega arith)

  -- a message in flight that has a rate, and of which something is left at the last account
  pub record RunsOn (at : ℕ) (f : Flight P) : Type 0 where
    pub rated : f.rated ≡ true
    pub since : f.since ≤ at
    pub left : left_by at f ≢ 0
    pub timed : IsTimed f

  module _ (at : ℕ) (here : at ≤ last_moment) (f : Flight P) (r : RunsOn at f) where
    abbrev unit : UnitFlight P
    unit = record {
      id = f.id;
      message = f.message.value;
      left = left_by at f;
      rate = f.rate;
      updated = at;
      rated = true;
    }

    unit_is : flight_at at f ≡ unit
    unit_is = ap flagged r.rated
      where
        flagged : Bool → UnitFlight P
        flagged b = record {
          id = f.id;
          message = f.message.value;
          left = if b then left_by at f else f.left;
          rate = if b then f.rate else 0;
          updated = if b then at else f.since;
          rated = b;
        }

    come_if_spent : (s : ℕ) → s ≤ last_moment → (rated_flight_of scale (flight_at at f)).updated ≤ s
        → IsSpentAt s (rated_flight_of scale (flight_at at f)) → has_come s f.finish ≡ true
    come_if_spent s le from spent =
        let since = r.since in
        let later : at ≤ s = subst (λ (u : UnitFlight P). u.updated ≤ s) unit_is from in
        let out : left_by at f ≤ f.rate * (s - at) =
        out_if_spent unit s (subst (λ u. IsSpentAt s (rated_flight_of scale u)) unit_is spent) in
        let all : f.left ≤ f.rate * (s - f.since) =
        omega (arith, out, drained_on f.left f.rate f.since at s since later) in
        sym (r.timed s (omega arith) le) ∙ le-leb f.left (f.rate * (s - f.since)) all

    out_if_come : (s : ℕ) → f.since ≤ s → s ≤ last_moment → has_come s f.finish ≡ true
        → f.left ≤ f.rate * (s - f.since)
    out_if_come s from le come = leb-true f.left (f.rate * (s - f.since)) (r.timed s from le ∙ come)

    -- it has not come before
    not_before : (s : ℕ) → has_come s f.finish ≡ true → at ≤ s
    not_before s come = elim (cases_lt s at) [
      | inl before ↦
          let out = out_if_come at r.since here (still_come f.finish come before) in
          let none : left_by at f ≡ 0 = omega (arith, out) in
          absurd (r.left none)
      | inr later ↦ later
    ]
      where
        still_come : (o : Option ℕ) → has_come s o ≡ true → s < at → has_come at o ≡ true
        still_come None come before = absurd (false≢true come)
        still_come (Some m) come before =
            let m_come : m ≤ s = leb-true m s come in
            le-leb m at (omega arith)

    spent_if_come : (s : ℕ) → s ≤ last_moment → has_come s f.finish ≡ true
        → ((rated_flight_of scale (flight_at at f)).updated ≤ s) × IsSpentAt s (rated_flight_of scale (flight_at at f))
    spent_if_come s le come =
        let since = r.since in
        let later = not_before s come in
        let all = out_if_come s (omega arith) le come in
        let out : left_by at f ≤ f.rate * (s - at) =
        omega (arith, all, drained_on f.left f.rate f.since at s since later) in (
          subst (λ (u : UnitFlight P). u.updated ≤ s) (sym unit_is) later,
          subst (λ u. IsSpentAt s (rated_flight_of scale u)) (sym unit_is) (spent_if_out unit s out),
        )

  module _ (at : ℕ) (here : at ≤ last_moment) (fs : List (Flight P))
      (run_on : (i : ℕ) (f : Flight P) → slice_get fs i ≡ Some f → RunsOn at f)
      (finish : Option ℕ) (first : (t : ℕ) → has_come t finish ≡ list_any (λ one. has_come t one.finish) fs) where
    abbrev sending : List (RatedFlight P)
    sending = sending_of scale (flights_at at fs)

    some_come : (s : ℕ) → s ≤ last_moment → SomeSpentAt sending s → has_come s finish ≡ true
    some_come s le h =
        let u = get_from_map (rated_flight_of scale) (flights_at at fs) h.0 h.1 h.2 in
        let f = get_from_map (λ (g : Flight P). flight_at at g) fs h.0 u.0 u.1 in
        let is : rated_flight_of scale (flight_at at f.0) ≡ h.1 = ap (rated_flight_of scale) f.2 ∙ u.2 in
        first s ∙ any_passes_from_place (λ (one : Flight P). has_come s one.finish) fs h.0 f.0 f.1
        (come_if_spent at here f.0 (run_on h.0 f.0 f.1) s le
        (subst (λ (g : RatedFlight P). g.updated ≤ s) (sym is) h.3) (subst (IsSpentAt s) (sym is) h.4))

    some_spent : (s : ℕ) → s ≤ last_moment → has_come s finish ≡ true → SomeSpentAt sending s
    some_spent s le come =
        let p = passes_there (λ (one : Flight P). has_come s one.finish) fs (sym (first s) ∙ come) in
        let spent = spent_if_come at here p.1 (run_on p.0 p.1 p.2) s le p.3 in (
          p.0,
          rated_flight_of scale (flight_at at p.1),
          slice_get-map (rated_flight_of scale) (flights_at at fs) p.0
              ∙ ap (option_map (rated_flight_of scale)) (unit_there at fs p.0 p.1 p.2),
          spent.0,
          spent.1,
        )

    by_finish : (o : Option ℕ) → finish ≡ o → IfSome o (λ t. t ≤ last_moment)
        → IsLeastMoment (λ s. SomeSpentAt sending s) o
    by_finish None is fits = λ t le spent. false≢true (sym (ap (has_come t) is) ∙ some_come t le spent)
    by_finish (Some t) is fits = (
      fits,
      some_spent t fits (ap (has_come t) is ∙ le-leb t t (omega arith)),
      λ s spent. elim (cases_lt last_moment s) [
        | inl late ↦ omega (arith, fits, late)
        | inr le ↦ leb-true t s (sym (ap (has_come s) is) ∙ some_come s le spent)
      ],
    )

-- the first finish is the first moment at which nothing is left of one
module _ {P : Type 0} (cmp : P → P → Ordering) (caps : Caps P) {a : _} {b : _} {c : _} (old new : Flights P a b c)
    (h : HaveFairRates cmp caps old new) (left : All (λ (u : UnitFlight P). u.left ≢ 0) (in_units old))
    (here : new.at ≤ last_moment) where
  all_run_on : (i : ℕ) (f : Flight P) → slice_get new.list.items i ≡ Some f
      → RunsOn new.scale new.scaled new.at f
  all_run_on i f there =
      let from =
      zip_there (IsRatedFrom old.at h.times) (in_units old) (in_units new) i (flight_at new.at f) h.each
      (unit_there new.at new.list.items i f there) in
      let rated : f.rated ≡ true = from.2.rated in
      let past : is_past new.at f ≡ true =
      all_there (is_past new.at) new.list.items i f new.past (slice_get_within new.list.items i f there)
      (sym (get_or_from_slice_get new.list.items i f f there)) in
      let was_some : from.0.left ≢ 0 =
      subst (λ (u : UnitFlight P). u.left ≢ 0) (get_or_from_slice_get (in_units old) i from.0 from.0 from.1)
      (left i from.0 (slice_get_within (in_units old) i from.0 from.1)) in
      let grows : 0 < h.times = other_factor old.scale h.times new.scale h.scale new.scaled in
      let is : left_by new.at f ≡ from.0.left * h.times =
      sym (ap (λ b. if b then left_by new.at f else f.left) rated) ∙ from.2.left in
      record {
        rated = rated;
        since = leb-true f.since new.at (sym (ap (λ b. not b || nat_le f.since new.at) rated) ∙ past);
        left = λ none. was_some (no_factor from.0.left h.times grows (sym is ∙ none));
        timed = h.timed i f there rated;
      }

  pub first_finish_is : (finish : Option ℕ)
      → ((t : ℕ) → has_come t finish ≡ list_any (λ one. has_come t one.finish) new.list.items)
      → IfSome finish (λ t. t ≤ last_moment) → IsLeastMoment (λ s. SomeSpentAt (in_flight new) s) finish
  first_finish_is finish first fits =
      by_finish new.scale new.scaled new.at here new.list.items all_run_on finish first finish refl fits
