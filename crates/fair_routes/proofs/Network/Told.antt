-- A network that is told bit by bit: its routes by the places of their links, and the sides that these make.
use Rattle.fair_routes.proofs.Common.{◌≡◌, ℕ, suc, ◌+◌, ◌<◌, ◌≤◌, List, [], ◌∷◌, ◌++◌, Option, Some, None, All, map}
use Rattle.fair_routes.proofs.Common.{length, get_or, refl, sym, ap, ap₂, ◌∙◌, subst, inl, inr, arith, AllZip, zip}
use Rattle.fair_routes.proofs.Common.{option_map, unwrap_or, cases_lt, eqb_tells, length-map, All-nil, All-map}
use Rattle.fair_routes.proofs.Common.{All-contains, slice_get-get_or, slice_get_within, get_or_from_slice_get, Rate}
use Rattle.fair_routes.proofs.Common.{places_alike, side_of_link, sides_from, sides_over, AreListed, IsNumbered}
use Rattle.fair_routes.proofs.Common.{IsWeightRefusal, common_steps, ◌↔◌, rules, AllPairs, keys, values, or-false}
use Rattle.fair_routes.proofs.Common.{list_any-append, told_routes, told_weights, AreRatesTold, MayRefuseTold}
use Rattle.fair_routes.proofs.Common.{IsWeightedAllocation, HasLargeWeightedRate, Refused, NoSuchLink}
use Rattle.std.proofs.Common.{Result, Ok, Err, slice_get}
use Rattle.std.specs.List.{flat_map}
use Rattle.std.specs.List.Sorted.{IsBinarySearchResult}
use Rattle.std.specs.Map.{keys_of, values_of}
use Rattle.std.specs.Int.NonZero.{non_zero_u64_get}
use Rattle.std.specs.declared.num.NonZeroU64.{NonZeroU64}
use Rattle.std.specs.Ordering.{nat_cmp}
use Rattle.std.specs.Result.{result_ok}
use Rattle.std.proofs.lemmas.List.Elements.{All-cons, All-append}
use Rattle.std.proofs.lemmas.List.Sorted.{searched}
use Rattle.std.proofs.lemmas.Slice.Zip.{firsts-zip, seconds-zip}
use Rattle.fairness.proofs.Lists.Zips.{zip-length}
use Rattle.fair_routes.specs.Network.Told.{told_weight, told_sides}
use Rattle.fair_routes.specs.Network.Told.{error_of}
use Rattle.fair_routes.specs.Network.Weights.{HasMuchWeight}
use Rattle.fair_routes.specs.declared.routes.network.Network.{Network}
use Rattle.fair_routes.specs.declared.routes.weighted.error.WeightError.{WeightError}
use Rattle.fair_routes.specs.declared.routes.weighted.error.WeightError.TheVariants.{Routes, OtherCount, NoWeight}
use Rattle.fair_routes.specs.declared.routes.weighted.error.WeightError.TheVariants.{TooMuchWeight}
use Rattle.fair_routes.proofs.Network.Said.{any_alike, same_test}

-- ---- places in a list that ascends

-- each later one is greater
module _ (xs : List ℕ) (up : AllPairs (λ one other. one < other) xs) where
  one_place : (i j x : ℕ) → slice_get xs i ≡ Some x → slice_get xs j ≡ Some x → i ≡ j
  one_place i j x first second =
      grind (
        arith,
        common_steps,
        get_or_from_slice_get xs i x 0 first,
        get_or_from_slice_get xs j x 0 second,
        cases_lt i j,
        cases_lt j i,
        slice_get_within xs j x second,
        slice_get_within xs i x first,
      )

  ascend : (i j : ℕ) → i ≤ j → j < length xs → get_or xs i 0 ≤ get_or xs j 0
  ascend i j le inside = search (rules, cases_lt)

  -- what a search finds is the place, and there is none where it finds nothing
  pub found_place : (x : ℕ) (r : Result ℕ ℕ) → IsBinarySearchResult (λ y. nat_cmp y x) xs r → (place : ℕ)
      → (result_ok r ≡ Some place) ↔ (slice_get xs place ≡ Some x)
  found_place x (Ok i) found place =
      let is = searched xs x (Ok i) found ascend in
      let here : slice_get xs i ≡ Some x = slice_get-get_or xs i 0 is.0 ∙ ap Some is.1 in (
        (λ e. let same : i ≡ place = cc e in subst (λ p. slice_get xs p ≡ Some x) same here),
        λ there. ap Some (one_place i place x here there),
      )
  found_place x (Err i) found place =
      let is = searched xs x (Err i) found ascend in (
        (λ e. absurd (cc e)),
        λ there.
            let inside = slice_get_within xs place x there in
            let value = get_or_from_slice_get xs place x 0 there in
            elim (cases_lt place i) [
              | inl less ↦ absurd (omega (arith, is.1 place less, value))
              | inr le ↦ absurd (omega (arith, is.2 place le inside, value))
            ],
      )

-- ---- a route by places

module _ (links : List ℕ) where
  pub numbered_none : IsNumbered links [] []
  numbered_none = record { below = All-nil (λ place. place < length links); same = λ place link is. refl }

  -- the answer of which place a link has
  abbrev pub IsPlace : Option ℕ → ℕ → Type 0
  IsPlace o link = (place : ℕ) → (o ≡ Some place) ↔ (slice_get links place ≡ Some link)

  -- one more link that is one of these
  pub numbered_more : (route numbered : List ℕ) (link place : ℕ) → IsNumbered links route numbered
      → IsPlace (Some place) link → IsNumbered links (route ++ link ∷ []) (numbered ++ place ∷ [])
  numbered_more route numbered link place h is =
      grind (
        arith,
        common_steps,
        slice_get_within links place link ((is place).0 refl),
        All-append,
        All-cons,
        All-nil,
        list_any-append,
        same_test,
      )

  -- and one that is none of these
  pub numbered_same : (route numbered : List ℕ) (link : ℕ) → IsNumbered links route numbered
      → IsPlace None link → IsNumbered links (route ++ link ∷ []) numbered
  numbered_same route numbered link h is = search (rules, eqb_tells, list_any-append, or-false)

  -- a link makes the same side
  same_side : (routes numbered : List (List ℕ)) → AllZip (IsNumbered links) routes numbered → (place link cap : ℕ)
      → slice_get links place ≡ Some link → side_of_link numbered place (Some cap) ≡ side_of_link routes link (Some cap)
  same_side routes numbered all place link cap e = search (rules, any_alike, places_alike)

  same_sides : (routes numbered : List (List ℕ)) → AllZip (IsNumbered links) routes numbered
      → (start : ℕ) (entries : List (ℕ × ℕ))
      → ((i link : ℕ) → slice_get (keys_of entries) i ≡ Some link → slice_get links (start + i) ≡ Some link)
      → sides_from start (map Some (values_of entries)) numbered
      ≡ flat_map (λ entry. side_of_link routes entry.0 (Some entry.1)) entries
  same_sides routes numbered all start [] at = refl
  same_sides routes numbered all start (e ∷ es) at =
      ap₂ (λ first rest. first ++ rest) (same_side routes numbered all start e.0 e.1
      (subst (λ n. slice_get links n ≡ Some e.0) (omega arith) (at 0 e.0 refl)))
      (same_sides routes numbered all (start + 1) es (λ i link is.
      subst (λ n. slice_get links n ≡ Some link) (omega arith) (at (suc i) link is)))

-- the sides by places are those of the links
pub sides_told : (entries : List (ℕ × ℕ)) (routes numbered : List (List ℕ))
    → AllZip (IsNumbered (keys_of entries)) routes numbered → sides_over (map Some (values_of entries)) numbered
    ≡ flat_map (λ entry. side_of_link routes entry.0 (Some entry.1)) entries
sides_told entries routes numbered all = search (rules, same_sides)

-- and each place is one of theirs
all_listed : (links : List ℕ) (routes numbered : List (List ℕ)) → AllZip (IsNumbered links) routes numbered
    → AreListed (length links) numbered
all_listed links [] [] all = All-nil (λ route. All (λ link. link < length links) route)
all_listed links [] (n ∷ ns) all = absurd all
all_listed links (r ∷ rs) [] all = absurd all
all_listed links (r ∷ rs) (n ∷ ns) all = search (rules, All-cons, all_listed links rs ns all.1)

-- ---- the rates

-- a weight is above zero
some_weight : (o : Option NonZeroU64) → 0 < unwrap_or (option_map non_zero_u64_get o) 1
some_weight None = omega arith
some_weight (Some weight) = weight.ok

module _ (n : Network) (numbered : List (List ℕ)) (all : AllZip (IsNumbered (keys n.caps)) (told_routes n) numbered) where
  abbrev caps : List (Option ℕ)
  caps = map Some (values n.caps)

  sides_are : sides_over caps numbered ≡ told_sides n
  sides_are = sides_told n.caps.entries (told_routes n) numbered all

  many_links : length caps ≡ length (keys n.caps)
  many_links = length-map (values n.caps) Some ∙ length-map n.caps.entries (λ e. e.1) ∙ sym (length-map n.caps.entries (λ e. e.0))

  many_flows : length numbered ≡ length (keys n.routes)
  many_flows = search (rules, zip-length, length-map)

  many_weights : length (told_weights n) ≡ length (keys n.routes)
  many_weights = length-map (keys n.routes) (told_weight n)

  all_positive : All (λ weight. 0 < weight) (told_weights n)
  all_positive = search (rules, All-map, some_weight)

  pub rates_told : (rates : List Rate) → IsWeightedAllocation caps numbered (told_weights n) rates
      → AreRatesTold n (zip (keys n.routes) rates)
  rates_told rates is = search (rules, many_weights, firsts-zip, seconds-zip, sides_are)

  pub refusal_told : (e : WeightError) → IsWeightRefusal caps numbered (told_weights n) e → MayRefuseTold n (error_of e)
  refusal_told (Routes (Refused e)) (inl memory) = inl memory
  refusal_told (Routes (Refused e)) (inr (large, listed, rate)) =
      inr (large, inl (subst (λ ss. HasLargeWeightedRate ss (told_weights n)) sides_are rate))
  refusal_told (Routes (NoSuchLink flow link)) h =
      let listed = all_listed (keys n.caps) (told_routes n) numbered all in
      let own : All (λ l. l < length (keys n.caps)) h.route =
      subst (λ r. All (λ l. l < length (keys n.caps)) r) (get_or_from_slice_get numbered flow h.route [] h.stands)
      (listed flow [] (slice_get_within numbered flow h.route h.stands)) in
      let small = All-contains (λ l. l < length (keys n.caps)) h.route link own h.uses in
      absurd (omega (arith, small, h.past, many_links))
  refusal_told (OtherCount of many) h = absurd (h.2 (h.1 ∙ many_weights ∙ sym many_flows ∙ sym h.0))
  refusal_told (NoWeight flow) h =
      let none = get_or_from_slice_get (told_weights n) flow 0 0 h in
      let some = all_positive flow 0 (slice_get_within (told_weights n) flow 0 h) in
      absurd (omega (arith, none, some))
  refusal_told TooMuchWeight h = inr (refl, inr (subst (HasMuchWeight (told_weights n)) sides_are h))
