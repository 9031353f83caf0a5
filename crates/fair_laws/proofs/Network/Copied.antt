-- A flow of some weight as so many flows of weight one.
use Rattle.fair_laws.proofs.Common.{rules, ◌≡◌, ◌==◌, ℕ, zero, suc, ◌+◌, ◌*◌, ◌<◌, ◌≤◌, List, [], Bool, true, false}
use Rattle.fair_laws.proofs.Common.{cond, All, Contains, Option, Some, length, map, get_or, sum_by, inl, inr, refl, sym}
use Rattle.fair_laws.proofs.Common.{ap, ◌∙◌, subst, arith, slice_get, eqb-true, eqb_tells, length-map, get_or_default}
use Rattle.fair_laws.proofs.Common.{sum_by-cons, slice_get-get_or, slice_get-map, get_or_from_slice_get, Side}
use Rattle.fair_laws.proofs.Common.{IsLimited, IsFair, IsRateOf, places_from, Rate, Unlimited, Finite, listed_on}
use Rattle.fair_laws.proofs.Common.{listed_from, in_map, in_from_contains, contains_from_in, from_map, any_passes}
use Rattle.fair_laws.proofs.Common.{All-from_contains, sum_by-scaled, sum_by_same, routes_at, has_link, users_of}
use Rattle.fair_laws.proofs.Common.{sides_over, weight_at, as_often, weighted, by_weight, AreWeightedRates}
use Rattle.fair_laws.proofs.Common.{range_with_len, length-range_with_len, get_or-range_with_len, same_amounts}
use Rattle.fair_laws.proofs.Common.{worth_too, in_get, get_in, get_from_map, place_here, passes_here, below_length}
use Rattle.std.proofs.lemmas.Bool.{cases_order}
use Rattle.std.proofs.lemmas.List.{map-id}
use Rattle.fair_routes.specs.Network.WeightLaws.{copies, copies_of, IsTogether, WeightsAreCopies}
use Rattle.fair_routes.specs.Network.Weights.{AreWeights}
use Rattle.fair_routes.proofs.Network.ByWeight.{sum_often, uses_often, often_uses, limited_wide, limited_narrow}
use Rattle.fair_routes.proofs.Network.LinkSides.{link_side, side_listed, users_are_flows}
use Rattle.fair_laws.proofs.Network.Relabelled.{IsTheSide, AreRelabelled, relabelled_fair, new_limited, old_limited}
use Rattle.fair_laws.proofs.Network.Reordered.{sum_at, sum_all}
use Rattle.fair_routes.proofs.Network.Said.{found}

-- ---- the sides of the copies

module _ (caps : List (Option ℕ)) (routes : List (List ℕ)) (weights : List ℕ) (are : AreWeights (length routes) weights) where
  abbrev range : List ℕ
  range = range_with_len 0 (length weights)

  abbrev order : List ℕ
  order = copies weights

  abbrev route : ℕ → List ℕ
  route i = get_or routes i []

  abbrev of : ℕ → ℕ
  of flow = get_or order flow 0

  abbrev news : List (List ℕ)
  news = map route order

  positive : (i : ℕ) → i < length routes → 0 < weight_at weights i
  positive i lt = are.positive i 0 (omega (arith, lt, are.one_each))

  in_range : (i : ℕ) → i < length routes → Contains range i
  in_range i lt =
      let within : i < length weights = omega (arith, lt, are.one_each) in
      let at : get_or range i i ≡ i = get_or-range_with_len 0 (length weights) i i within ∙ (omega arith) in
      (i, omega (arith, within, length-range_with_len 0 (length weights)), at)

  range_below : (i : ℕ) → Contains range i → i < length routes
  range_below i (k, within, at) = search (rules, length-range_with_len, get_or-range_with_len)

  placed : (i : ℕ) → i < length routes → Contains order i
  placed i lt = often_uses weights range i (positive i lt) (in_range i lt)

  below : (i : ℕ) → Contains order i → i < length routes
  below i c = range_below i (uses_often weights range i c)

  stands : (i : ℕ) → i < length routes → slice_get routes i ≡ Some (route i)
  stands i lt = slice_get-get_or routes i [] lt

  pub is_place : (flow : ℕ) → flow < length order → of flow < length routes
  is_place flow lt = below (of flow) (flow, lt, get_or_default order flow (of flow) 0 lt)

  -- what passes counts as often as its weight says
  weigh_if : (b : Bool) (w n : ℕ) → cond b (w * n) 0 ≡ w * cond b n 0
  weigh_if true w n = refl
  weigh_if false w n = omega arith

  same_loads : (link : ℕ) (parts : ℕ → ℕ) → sum_by parts (as_often weights (users_of link routes))
      ≡ sum_by (λ flow. parts (of flow)) (users_of link news)
  same_loads link parts =
      let test : ℕ → Bool = λ i. has_link link (route i) in
      let ranges : range_with_len 0 (length routes) ≡ range = ap (range_with_len 0) (sym are.one_each) in
      sum_often weights parts _ ∙ sum_all _ _ [] routes ∙ ap (sum_by _) ranges ∙ sum_by_same _ _ range
      (λ k d inside. weigh_if _ _ _) ∙ sym (sum_often weights _ range) ∙ sym (sum_at parts _ route order)

  side_for : (link : ℕ) (old new : Side) → old.users ≡ users_of link routes → new.users ≡ users_of link news
      → new.cap ≡ old.cap → IsTheSide of (length order) (weighted weights old) new
  side_for link old new olds news_are cap = record {
    cap = cap;
    loads = λ parts.
        ap (λ us. sum_by parts (as_often weights us)) olds ∙ same_loads link parts
        ∙ ap (sum_by (λ flow. parts (of flow))) (sym news_are);
    used = λ flow has.
        let at = passes_here (has_link link) news flow
        (in_from_contains (users_of link news) flow (subst (λ (us : List ℕ). Contains us flow) news_are has)) in
        let i = get_from_map route order flow at.0 at.1 in
        let is : of flow ≡ i.0 = get_or_from_slice_get order flow i.0 0 i.1 in
        let lt : i.0 < length routes = below i.0 (contains_from_in order i.0 (in_get order flow i.0 i.1)) in
        subst (λ (n : ℕ). Contains (as_often weights old.users) n) (sym is)
        (often_uses weights old.users i.0 (positive i.0 lt) (subst (λ (us : List ℕ). Contains us i.0) (sym olds)
        (place_here (has_link link) routes i.0 (route i.0) (stands i.0 lt) (ap (has_link link) i.2 ∙ at.2))));
    back = λ flow lt has.
        let narrow = uses_often weights old.users (of flow) has in
        let at = passes_here (has_link link) routes (of flow)
        (in_from_contains (users_of link routes) (of flow) (subst (λ (us : List ℕ). Contains us (of flow)) olds narrow)) in
        let same : route (of flow) ≡ at.0 = get_or_from_slice_get routes (of flow) at.0 [] at.1 in
        let here = slice_get-map route order flow ∙ (rw (slice_get-get_or order flow 0 lt) refl) in
        subst (λ (us : List ℕ). Contains us flow) (sym news_are)
        (place_here (has_link link) news flow (route (of flow)) here (ap (has_link link) same ∙ at.2));
  }

  abbrev olds : List Side
  olds = sides_over caps routes

  there : (wide : Side) → Contains (map (weighted weights) olds) wide
      → (new : Side) × Contains (sides_over caps news) new × IsTheSide of (length order) wide new
  there wide listed =
      let narrow = listed_from (weighted weights) olds wide listed in
      let old = narrow.0 in
      let is = link_side caps routes old narrow.1 in
      let some = found (has_link is.link) routes is.used in
      let at = get_in routes some.0 some.1 in
      let lt : at.0 < length routes = below_length routes at.0 some.0 at.1 in
      let same : route at.0 ≡ some.0 = get_or_from_slice_get routes at.0 some.0 [] at.1 in
      let used = any_passes (has_link is.link) news (route at.0) (in_map route order at.0
      (in_from_contains order at.0 (placed at.0 lt))) (ap (has_link is.link) same ∙ some.2) in
      let new : Side = record { cap = old.cap; users = users_of is.link news } in (
        new,
        side_listed caps news new (record { link = is.link; capped = is.capped; used = used; users = refl }),
        subst (λ (w : Side). IsTheSide of (length order) w new) narrow.2 (side_for is.link old new is.users refl refl),
      )

  from : (new : Side) → Contains (sides_over caps news) new
      → (wide : Side) × Contains (map (weighted weights) olds) wide × IsTheSide of (length order) wide new
  from new listed =
      let is = link_side caps news new listed in
      let some = found (has_link is.link) news is.used in
      let i = from_map route order some.0 some.1 in
      let lt : i.0 < length routes = below i.0 (contains_from_in order i.0 i.1) in
      let used = any_passes (has_link is.link) routes (route i.0) (in_get routes i.0 (route i.0) (stands i.0 lt))
      (ap (has_link is.link) i.2 ∙ some.2) in
      let old : Side = record { cap = new.cap; users = users_of is.link routes } in (
        weighted weights old,
        listed_on (weighted weights) olds old
            (side_listed caps routes old (record { link = is.link; capped = is.capped; used = used; users = refl })),
        side_for is.link old new refl is.users refl,
      )

  pub copied : AreRelabelled of (length order) (map (weighted weights) olds) (sides_over caps news)
  copied = search (rules, below, length-map, users_are_flows, there, from)

-- ---- the copies of one flow

none_of : (h : ℕ → ℕ) (flow a n : ℕ) → flow < a → sum_by (λ i. cond (i == flow) (h i) 0) (range_with_len a n) ≡ 0
none_of h flow a zero before = refl
none_of h flow a (suc n) before = elim (eqb_tells a flow) [
  | inl same ↦ absurd (omega (arith, before, same.1))
  | inr other ↦
      let nothing : cond (a == flow) (h a) 0 ≡ 0 = ap (λ b. cond b (h a) 0) other.0 in
      omega (
        arith,
        nothing,
        sum_by-cons (λ i. cond (i == flow) (h i) 0) a (range_with_len (a + 1) n),
        none_of h flow (a + 1) n (omega arith),
      )
]

one_of : (h : ℕ → ℕ) (flow a n : ℕ) → a ≤ flow → flow < a + n
    → sum_by (λ i. cond (i == flow) (h i) 0) (range_with_len a n) ≡ h flow
one_of h flow a zero low high = absurd (omega (arith, low, high))
one_of h flow a (suc n) low high = elim (eqb_tells a flow) [
  | inl same ↦
      let own : cond (a == flow) (h a) 0 ≡ h a = ap (λ b. cond b (h a) 0) same.0 in
      omega (
        arith,
        own,
        ap h same.1,
        sum_by-cons (λ i. cond (i == flow) (h i) 0) a (range_with_len (a + 1) n),
        none_of h flow (a + 1) n (omega (arith, same.1)),
      )
  | inr other ↦
      let nothing : cond (a == flow) (h a) 0 ≡ 0 = ap (λ b. cond b (h a) 0) other.0 in
      let past : a < flow = elim (cases_order a flow) [
        | inl same ↦ absurd (other.1 same)
        | inr (inl less) ↦ less
        | inr (inr more) ↦ absurd (omega (arith, more, low))
      ] in
      omega (
        arith,
        nothing,
        sum_by-cons (λ i. cond (i == flow) (h i) 0) a (range_with_len (a + 1) n),
        one_of h flow (a + 1) n (omega (arith, past)) (omega (arith, high)),
      )
]

module _ (caps : List (Option ℕ)) (routes : List (List ℕ)) (weights : List ℕ) (rates : List Rate)
    (are : AreWeights (length routes) weights) (fair : AreWeightedRates (sides_over caps routes) weights rates)
    (per : ℕ) (parts : ℕ → ℕ) (other : IsFair (sides_over caps (routes_at routes (copies weights))) per parts) where
  abbrev places : List ℕ
  places = copies weights

  abbrev flow_of : ℕ → ℕ
  flow_of copy = get_or places copy 0

  abbrev sides : List Side
  sides = sides_over caps routes

  abbrev wide : List Side
  wide = map (weighted weights) sides

  abbrev singles : List Side
  singles = sides_over caps (routes_at routes places)

  rel : AreRelabelled flow_of (length places) wide singles
  rel = copied caps routes weights are

  also : IsFair singles fair.per (λ copy. fair.parts (flow_of copy))
  also = relabelled_fair flow_of (length places) wide singles rel fair.per fair.parts fair.fair

  among : All (λ (side : Side). All (λ user. user < length weights) side.users) sides
  among = search (rules, users_are_flows)

  some : (u : ℕ) → u < length weights → 0 < weight_at weights u
  some u within = are.positive u 0 within

  -- what the copies of a flow have, by what each flow has
  counted : (flow : ℕ) → flow < length weights → (h : ℕ → ℕ)
      → sum_by (λ copy. h (flow_of copy)) (copies_of weights flow) ≡ weight_at weights flow * h flow
  counted flow within h =
      let test : ℕ → Bool = λ i. i == flow in
      let range = range_with_len 0 _ in
      ap (λ xs. sum_by (λ copy. h (flow_of copy)) (places_from 0 test xs)) (sym (map-id places)) ∙ sum_at h test
      (λ i. i) places ∙ sum_often weights _ range ∙ sym (sum_by_same _ _ range
      (λ k d inside. weigh_if caps routes weights are (test _) (weight_at weights (get_or range k d)) (h _))) ∙ one_of
      (λ i. weight_at weights i * h i) flow 0 (length weights) (omega arith) (omega (arith, within))

  module _ (flow : ℕ) (within : flow < length weights) where
    -- each of its copies stands for the flow
    copy_is : (copy : ℕ) → Contains (copies_of weights flow) copy → (copy < length places) × (flow_of copy ≡ flow)
    copy_is copy has =
        let at = passes_here (λ i. i == flow) places copy (in_from_contains (copies_of weights flow) copy has) in (
          below_length places copy at.0 at.1,
          get_or_from_slice_get places copy at.0 0 at.1 ∙ eqb-true at.0 flow at.2,
        )

    copy_limited : IsLimited sides flow → (copy : ℕ) → Contains (copies_of weights flow) copy → IsLimited singles copy
    copy_limited limited copy has =
        let is = copy_is copy has in
        new_limited flow_of (length places) wide singles rel copy is.0
        (subst (λ n. IsLimited wide n) (sym is.1) (limited_wide weights sides some among flow limited))

    flow_limited : (copy : ℕ) → Contains (copies_of weights flow) copy → IsLimited singles copy → IsLimited sides flow
    flow_limited copy has limited =
        let is = copy_is copy has in
        limited_narrow weights sides some among flow
        (subst (λ n. IsLimited wide n) is.1 (old_limited flow_of (length places) wide singles rel copy limited))

    together : IsLimited sides flow
        → sum_by parts (copies_of weights flow) * fair.per ≡ by_weight weights fair.parts flow * per
    together limited =
        sym (sum_by-scaled parts fair.per (copies_of weights flow)) ∙ sum_by_same (λ copy. parts copy * fair.per)
        (λ copy. fair.parts _ * per) _ (All-from_contains _ _ (λ copy has. same_amounts singles per fair.per parts _
        other also copy (copy_limited limited copy has))) ∙ sum_by-scaled (λ copy. fair.parts _) per
        (copies_of weights flow) ∙ ap (λ n. n * per) (counted flow within fair.parts)

    by_rate : (rate : Rate) → IsRateOf sides fair.per (by_weight weights fair.parts) flow rate
        → IsTogether singles per parts (copies_of weights flow) rate
    by_rate Unlimited none =
        All-from_contains (λ copy. ¬ IsLimited singles copy) _
        (λ copy has limited. none (flow_limited copy has limited))
    by_rate (Finite ratio) (limited, worth) =
        worth_too ratio.numerator ratio.denominator _ per _ fair.per fair.fair.some_part (together limited) worth

pub weights_are_copies : WeightsAreCopies
weights_are_copies caps routes weights rates are fair per parts other flow d within =
    by_rate caps routes weights rates are fair per parts other flow within (get_or rates flow d) (fair.rated flow d within)
