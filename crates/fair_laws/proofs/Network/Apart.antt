-- A part of the flows that uses no link together with the rest.
use Rattle.fair_laws.proofs.Common.{rules, ◌≡◌, ℕ, suc, ◌+◌, ◌<◌, List, [], ◌∷◌, ◌++◌, Bool, true, false, cond}
use Rattle.fair_laws.proofs.Common.{Option, Some, None, map, length, All, ◌⊎◌, inl, inr, refl, sym, ap, ◌∙◌, subst}
use Rattle.fair_laws.proofs.Common.{arith, list_any, length-map, All-contains, Side, AreFairRates, places_from, In}
use Rattle.fair_laws.proofs.Common.{in_left, in_right, contains_from_in, any_passes, has_link, users_of, side_of_link}
use Rattle.fair_laws.proofs.Common.{sides_from, sides_over, common_steps, any_fails}
use Rattle.std.specs.List.{filter}
use Rattle.std.proofs.lemmas.List.{append_assoc}
use Rattle.fairness.specs.Fairness.Part.{flagged, is_in, place_in, sides_in}
use Rattle.fair_laws.proofs.Fairness.Apart.{flows_apart_are_fair, place_in-suc}
use Rattle.fair_routes.specs.Network.Laws.{RoutesApartAreFair}
use Rattle.fair_routes.proofs.Network.Sides.{some_user, no_user}

-- ---- places behind the first

no_places : {X : Type 0} (place : ℕ) (test : X → Bool) (xs : List X) → list_any test xs ≡ false
    → places_from place test xs ≡ []
no_places place test [] none = refl
no_places {X} place test (x ∷ xs) none = search (rules, no_places (place + 1) test xs)

used_places : {X : Type 0} (place : ℕ) (test : X → Bool) (xs : List X) → list_any test xs ≡ true
    → 0 < length (places_from place test xs)
used_places place test [] some = cc
used_places {X} place test (x ∷ xs) some = search (rules, used_places (place + 1) test xs)

places-suc : {X : Type 0} (place : ℕ) (test : X → Bool) (xs : List X)
    → places_from (place + 1) test xs ≡ map suc (places_from place test xs)
places-suc place test [] = refl
places-suc {X} place test (x ∷ xs) = search (rules, places-suc (place + 1) test xs)

-- the places in the part, of those places whose flows are of it
abbrev kept : List Bool → List ℕ → List ℕ
kept flags places = map (place_in flags) (filter (is_in flags) places)

kept_behind : (flags : List Bool) (places : List ℕ) → kept (true ∷ flags) (map suc places) ≡ map suc (kept flags places)
kept_behind flags [] = refl
kept_behind flags (p ∷ places) = grind (arith, common_steps, place_in-suc, kept_behind flags places)

kept_without : (flags : List Bool) (places : List ℕ) → kept (false ∷ flags) (map suc places) ≡ kept flags places
kept_without flags [] = refl
kept_without flags (p ∷ places) = search (rules, place_in-suc, kept_without flags places)

kept_none : (places : List ℕ) → kept [] places ≡ []
kept_none [] = refl
kept_none (p ∷ places) = kept_none places

-- the users of a link that are of the part, by their places in it
pub kept_places : {X : Type 0} (flags : List Bool) (test : X → Bool) (xs : List X)
    → kept flags (places_from 0 test xs) ≡ places_from 0 test (flagged flags xs)
kept_places [] test xs = kept_none (places_from 0 test xs)
kept_places (flag ∷ flags) test [] = refl
kept_places {X} (true ∷ flags) test (x ∷ xs) =
    grind (
      arith,
      common_steps,
      places-suc 0 test xs,
      places-suc 0 test (flagged flags xs),
      kept_behind flags (places_from 0 test xs),
      kept_places flags test xs,
    )
kept_places {X} (false ∷ flags) test (x ∷ xs) =
    grind (arith, common_steps, places-suc 0 test xs, kept_without flags (places_from 0 test xs), kept_places flags test xs)

-- ---- sides

sides_in-append : (flags : List Bool) (xs ys : List Side) → sides_in flags (xs ++ ys) ≡ sides_in flags xs ++ sides_in flags ys
sides_in-append flags [] ys = refl
sides_in-append flags (x ∷ xs) ys = search (rules, append_assoc, sides_in-append flags xs ys)

-- all of the users of a side are of the part, or none is
abbrev IsApart : List Bool → Side → Type 0
IsApart flags side =
    All (λ user. is_in flags user ≡ true) side.users ⊎ All (λ user. is_in flags user ≡ false) side.users

filter_all : (test : ℕ → Bool) (xs : List ℕ) → ((x : ℕ) → In xs x → test x ≡ true) → filter test xs ≡ xs
filter_all test [] h = refl
filter_all test (x ∷ xs) h = rw (h x (inl refl)) (ap (λ ys. x ∷ ys) (filter_all test xs (λ y g. h y (inr g))))

filter_none : (test : ℕ → Bool) (xs : List ℕ) → ((x : ℕ) → In xs x → test x ≡ false) → filter test xs ≡ []
filter_none test [] h = refl
filter_none test (x ∷ xs) h = rw (h x (inl refl)) (filter_none test xs (λ y g. h y (inr g)))

any_all : (test : ℕ → Bool) (xs : List ℕ) → 0 < length xs → ((x : ℕ) → In xs x → test x ≡ true) → list_any test xs ≡ true
any_all test [] some h = absurd (omega arith)
any_all test (x ∷ xs) some h = any_passes test (x ∷ xs) x (inl refl) (h x (inl refl))

-- whether the sides have users
module _ (flags : List Bool) (routes : List (List ℕ)) (link cap : ℕ) where
  abbrev users : List ℕ
  users = users_of link routes

  abbrev others : List ℕ
  others = users_of link (flagged flags routes)

  abbrev old : Side
  old = record { cap = cap; users = users_of link routes }

  abbrev one : Bool → List Side
  one b = cond b (record { cap = cap; users = users_of link (flagged flags routes) } ∷ []) []

  none_left : others ≡ [] → one (list_any (has_link link) (flagged flags routes)) ≡ []
  none_left empty = ap one (no_user 0 (has_link link) (flagged flags routes) (ap length empty))

  -- no flow uses the link
  unused : list_any (has_link link) routes ≡ false → one (list_any (has_link link) (flagged flags routes)) ≡ []
  unused nobody =
      let empty : users ≡ [] = no_places 0 (has_link link) routes nobody in
      none_left (sym (kept_places flags (has_link link) routes) ∙ ap (kept flags) empty)

  -- its flows are of the part
  all_own : list_any (has_link link) routes ≡ true → All (λ user. is_in flags user ≡ true) users
      → sides_in flags (old ∷ []) ≡ one (list_any (has_link link) (flagged flags routes))
  all_own somebody all =
      grind (
        arith,
        common_steps,
        kept_places flags (has_link link) routes,
        used_places 0 (has_link link) routes somebody,
        length-map users (place_in flags),
        All-contains,
        contains_from_in,
        filter_all,
        any_all,
        some_user,
      )

  -- or none of them
  none_own : All (λ user. is_in flags user ≡ false) users
      → sides_in flags (old ∷ []) ≡ one (list_any (has_link link) (flagged flags routes))
  none_own all =
      let off : (x : ℕ) → In users x → is_in flags x ≡ false = λ x h.
      All-contains (λ user. is_in flags user ≡ false) users x all (contains_from_in users x h) in
      let empty : others ≡ [] = sym (kept_places flags _ routes) ∙ ap (map _) (filter_none _ users off) in
      (rw (any_fails (is_in flags) users off) refl) ∙ sym (none_left empty)

side_apart : (flags : List Bool) (routes : List (List ℕ)) (link : ℕ) (cap : Option ℕ)
    → ((side : Side) → In (side_of_link routes link cap) side → IsApart flags side)
    → sides_in flags (side_of_link routes link cap) ≡ side_of_link (flagged flags routes) link cap
side_apart flags routes link None apart = refl
side_apart flags routes link (Some cap) apart = by_test (list_any (has_link link) routes) refl apart
  where
    by_test : (b : Bool) → list_any (has_link link) routes ≡ b
        → ((side : Side) → In (cond b (record { cap = cap; users = users_of link routes } ∷ []) []) side → IsApart flags side)
        → sides_in flags (cond b (record { cap = cap; users = users_of link routes } ∷ []) [])
        ≡ side_of_link (flagged flags routes) link (Some cap)
    by_test true is apart = elim (apart (record { cap = cap; users = users_of link routes }) (inl refl)) [
      | inl all ↦ all_own flags routes link cap is all
      | inr none ↦ none_own flags routes link cap none
    ]
    by_test false is apart = sym (unused flags routes link cap is)

sides_apart : (flags : List Bool) (routes : List (List ℕ)) (link : ℕ) (caps : List (Option ℕ))
    → ((side : Side) → In (sides_from link caps routes) side → IsApart flags side)
    → sides_in flags (sides_from link caps routes) ≡ sides_from link caps (flagged flags routes)
sides_apart flags routes link [] apart = refl
sides_apart flags routes link (cap ∷ caps) apart =
    sides_in-append flags (side_of_link routes link cap) (sides_from (link + 1) caps routes) ∙ ap
    (λ ss. ss ++ sides_in flags (sides_from (link + 1) caps routes)) (side_apart flags routes link cap
    (λ side h. apart side (in_left _ _ side h))) ∙ ap (λ ss. side_of_link (flagged flags routes) link cap ++ ss)
    (sides_apart flags routes (link + 1) caps (λ side h. apart side (in_right _ _ side h)))

length-flagged : {X Y : Type 0} (flags : List Bool) (xs : List X) (ys : List Y) → length xs ≡ length ys
    → length (flagged flags xs) ≡ length (flagged flags ys)
length-flagged [] xs ys same = refl
length-flagged (flag ∷ flags) [] [] same = refl
length-flagged (flag ∷ flags) [] (y ∷ ys) same = absurd (omega arith)
length-flagged (flag ∷ flags) (x ∷ xs) [] same = absurd (omega arith)
length-flagged (true ∷ flags) (x ∷ xs) (y ∷ ys) same =
    let rest : length xs ≡ length ys = omega arith in ap suc (length-flagged flags xs ys rest)
length-flagged (false ∷ flags) (x ∷ xs) (y ∷ ys) same =
    let rest : length xs ≡ length ys = omega arith in length-flagged flags xs ys rest

pub flows_apart_are_fair_alone : RoutesApartAreFair
flows_apart_are_fair_alone flags caps routes rates many apart fair =
    let sides = sides_over caps routes in
    let own =
    flows_apart_are_fair flags sides rates apart (subst (λ (n : ℕ). AreFairRates sides n rates) (sym many) fair) in
    let same = sides_apart flags routes 0 caps (λ side h. All-contains (IsApart flags) sides side apart
    (contains_from_in sides side h)) in
    subst (λ (n : ℕ). AreFairRates (sides_over caps (flagged flags routes)) n (flagged flags rates))
    (length-flagged flags rates routes fair.one_each)
    (subst (λ (ss : List Side). AreFairRates ss (length (flagged flags rates)) (flagged flags rates)) same own)
