-- Flows in another order.
use Rattle.fair_laws.proofs.Common.{rules, ◌≡◌, ℕ, suc, ◌+◌, ◌<◌, List, [], ◌∷◌, Bool, true, false, cond, Option}
use Rattle.fair_laws.proofs.Common.{Some, map, length, get_or, All, Contains, sum_by, refl, sym, ap, ◌∙◌, subst}
use Rattle.fair_laws.proofs.Common.{arith, slice_get, length-map, get_or-map, get_or_default, All-contains}
use Rattle.fair_laws.proofs.Common.{sum_by-cons, slice_get-get_or, slice_get-map, get_or_from_slice_get, Side}
use Rattle.fair_laws.proofs.Common.{IsRateOf, places_from, Unlimited, in_map, in_from_contains, contains_from_in}
use Rattle.fair_laws.proofs.Common.{from_map, any_passes, routes_at, has_link, users_of, sides_over, common_steps}
use Rattle.fair_laws.proofs.Common.{range_with_len, length-range_with_len, get_or-range_with_len, in_get, get_in}
use Rattle.fair_laws.proofs.Common.{get_from_map, place_here, passes_here, below_length}
use Rattle.std.specs.List.Sorted.{IsPermutation}
use Rattle.std.proofs.lemmas.List.{same_lists}
use Rattle.std.proofs.lemmas.List.Sorted.{sum_by-IsPermutation, Contains-permutation, All-permutation}
use Rattle.fair_routes.specs.Network.Laws.{OrderOfFlowsDoesNotMatter}
use Rattle.fair_routes.proofs.Network.LinkSides.{link_side, side_listed, users_are_flows}
use Rattle.fair_laws.proofs.Network.Relabelled.{IsTheSide, AreRelabelled, relabelled_fair, relabelled_rate}
use Rattle.fair_routes.proofs.Network.Said.{found}
use Rattle.fair_laws.proofs.Fairness.Apart.{sum_by-agree}

-- ---- sums over the places that pass

shifted : {X : Type 0} (g : ℕ → ℕ) (place : ℕ) (test : X → Bool) (xs : List X)
    → sum_by g (places_from (place + 1) test xs) ≡ sum_by (λ n. g (suc n)) (places_from place test xs)
shifted g place test [] = refl
shifted {X} g place test (x ∷ xs) = grind (arith, common_steps, sum_by-cons, shifted g (place + 1) test xs)

-- the users of a link, where the flows are those that stand at these places
pub sum_at : {X : Type 0} (g : ℕ → ℕ) (test : X → Bool) (route : ℕ → X) (order : List ℕ)
    → sum_by (λ u. g (get_or order u 0)) (places_from 0 test (map route order))
    ≡ sum_by (λ i. cond (test (route i)) (g i) 0) order
sum_at g test route [] = refl
sum_at {X} g test route (i ∷ order) = by_test _ refl (shifted _ 0 test _ ∙ sum_at g test route order)
  where
    rest : List ℕ
    rest = places_from 1 test (map route order)

    by_test : (b : Bool) → test (route i) ≡ b
        → sum_by (λ u. g (get_or (i ∷ order) u 0)) (places_from 1 test (map route order))
        ≡ sum_by (λ j. cond (test (route j)) (g j) 0) order → sum_by (λ u. g (get_or (i ∷ order) u 0))
        (cond b (0 ∷ places_from 1 test (map route order)) (places_from 1 test (map route order)))
        ≡ sum_by (λ j. cond (test (route j)) (g j) 0) (i ∷ order)
    by_test true is ih =
        let own : cond (test (route i)) (g i) 0 ≡ g i = ap (λ b. cond b (g i) 0) is in
        omega (
          arith,
          sum_by-cons (λ u. g (get_or (i ∷ order) u 0)) 0 (places_from 1 test (map route order)),
          sum_by-cons (λ j. cond (test (route j)) (g j) 0) i order,
          own,
          ih,
        )
    by_test false is ih =
        let own : cond (test (route i)) (g i) 0 ≡ 0 = ap (λ b. cond b (g i) 0) is in
        omega (arith, sum_by-cons (λ j. cond (test (route j)) (g j) 0) i order, own, ih)

-- each place of a list in turn
from_range : {X : Type 0} (d : X) (xs : List X) → map (λ i. get_or xs i d) (range_with_len 0 (length xs)) ≡ xs
from_range d xs =
    same_lists _ xs (length-map _ _ ∙ length-range_with_len 0 (length xs)) (λ k e inside.
    let lt : k < length xs =
    omega (arith, inside, length-map (range_with_len 0 (length xs)) (λ i. get_or xs i d), length-range_with_len 0 (length xs)) in
    let at : get_or (range_with_len 0 (length xs)) k 0 ≡ k = get_or-range_with_len 0 (length xs) k 0 lt ∙ (omega arith) in
    get_or-map (λ i. get_or xs i d) (range_with_len 0 (length xs)) k 0 e
    (omega (arith, lt, length-range_with_len 0 (length xs))) ∙ ap (λ i. get_or xs i d) at ∙ get_or_default xs k d e lt)

-- the users of a link, by all flows
pub sum_all : {X : Type 0} (g : ℕ → ℕ) (test : X → Bool) (d : X) (xs : List X) → sum_by g (places_from 0 test xs)
    ≡ sum_by (λ i. cond (test (get_or xs i d)) (g i) 0) (range_with_len 0 (length xs))
sum_all {X} g test d xs =
    sum_by-agree g (λ u. g (get_or range u 0)) (places_from 0 test xs) (λ u among.
    let at = passes_here test xs u among in
    let lt : u < length xs = below_length xs u at.0 at.1 in
    let is : get_or range u 0 ≡ u = get_or-range_with_len 0 (length xs) u 0 lt ∙ (omega arith) in
    ap g (sym is)) ∙ ap (λ ys. sum_by (λ u. g (get_or range u 0)) (places_from 0 test ys)) (sym (from_range d xs))
    ∙ sum_at g test (λ i. get_or xs i d) range
  where
    range : List ℕ
    range = range_with_len 0 (length xs)

-- ---- the sides

module _ (caps : List (Option ℕ)) (routes : List (List ℕ)) (order : List ℕ)
    (permuted : IsPermutation (range_with_len 0 (length routes)) order) where
  abbrev range : List ℕ
  range = range_with_len 0 (length routes)

  abbrev route : ℕ → List ℕ
  route i = get_or routes i []

  abbrev of : ℕ → ℕ
  of flow = get_or order flow 0

  abbrev news : List (List ℕ)
  news = map route order

  pub inside : All (λ i. i < length routes) order
  inside =
      All-permutation (λ i. i < length routes) range order permuted (λ k d within.
      let lt : k < length routes = omega (arith, within, length-range_with_len 0 (length routes)) in
      let at = get_or-range_with_len 0 (length routes) k d lt in
      omega (arith, at, lt))

  stands : (i : ℕ) → i < length routes → slice_get routes i ≡ Some (route i)
  stands i lt = slice_get-get_or routes i [] lt

  placed : (i : ℕ) → i < length routes → Contains order i
  placed i lt =
      let at : get_or range i i ≡ i = get_or-range_with_len 0 (length routes) i i lt ∙ (omega arith) in
      Contains-permutation range order i permuted (i, omega (arith, lt, length-range_with_len 0 (length routes)), at)

  is_place : (flow i : ℕ) → slice_get order flow ≡ Some i → i < length routes
  is_place flow i at = All-contains (λ j. j < length routes) order i inside (contains_from_in order i (in_get order flow i at))

  side_for : (link : ℕ) (old new : Side) → old.users ≡ users_of link routes → new.users ≡ users_of link news
      → new.cap ≡ old.cap → IsTheSide of (length order) old new
  side_for link old new olds are cap = record {
    cap = cap;
    loads = λ parts.
        ap (sum_by parts) olds ∙ sum_all parts (has_link link) [] routes
        ∙ sym (sum_by-IsPermutation (λ i. cond (has_link link (route i)) (parts i) 0) range order permuted)
        ∙ sym (sum_at parts (has_link link) route order) ∙ ap (sum_by (λ flow. parts (of flow))) (sym are);
    used = λ flow has.
        let at = passes_here (has_link link) news flow
        (in_from_contains (users_of link news) flow (subst (λ (us : List ℕ). Contains us flow) are has)) in
        let i = get_from_map route order flow at.0 at.1 in
        let is : of flow ≡ i.0 = get_or_from_slice_get order flow i.0 0 i.1 in
        subst (λ (us : List ℕ). Contains us (of flow)) (sym olds)
        (subst (λ (n : ℕ). Contains (users_of link routes) n) (sym is)
        (place_here (has_link link) routes i.0 (route i.0) (stands i.0 (is_place flow i.0 i.1))
        (ap (has_link link) i.2 ∙ at.2)));
    back = λ flow lt has.
        let at = passes_here (has_link link) routes (of flow)
        (in_from_contains (users_of link routes) (of flow) (subst (λ (us : List ℕ). Contains us (of flow)) olds has)) in
        let same : route (of flow) ≡ at.0 = get_or_from_slice_get routes (of flow) at.0 [] at.1 in
        let here = slice_get-map route order flow ∙ (rw (slice_get-get_or order flow 0 lt) refl) in
        subst (λ (us : List ℕ). Contains us flow) (sym are)
        (place_here (has_link link) news flow (route (of flow)) here (ap (has_link link) same ∙ at.2));
  }

  there : (old : Side) → Contains (sides_over caps routes) old
      → (new : Side) × Contains (sides_over caps news) new × IsTheSide of (length order) old new
  there old listed =
      let is = link_side caps routes old listed in
      let some = found (has_link is.link) routes is.used in
      let at = get_in routes some.0 some.1 in
      let lt : at.0 < length routes = below_length routes at.0 some.0 at.1 in
      let same : route at.0 ≡ some.0 = get_or_from_slice_get routes at.0 some.0 [] at.1 in
      let used = any_passes (has_link is.link) news (route at.0) (in_map route order at.0
      (in_from_contains order at.0 (placed at.0 lt))) (ap (has_link is.link) same ∙ some.2) in
      let new : Side = record { cap = old.cap; users = users_of is.link news } in (
        new,
        side_listed caps news new (record { link = is.link; capped = is.capped; used = used; users = refl }),
        side_for is.link old new is.users refl refl,
      )

  from : (new : Side) → Contains (sides_over caps news) new
      → (old : Side) × Contains (sides_over caps routes) old × IsTheSide of (length order) old new
  from new listed =
      let is = link_side caps news new listed in
      let some = found (has_link is.link) news is.used in
      let i = from_map route order some.0 some.1 in
      let lt : i.0 < length routes =
      All-contains (λ j. j < length routes) order i.0 inside (contains_from_in order i.0 i.1) in
      let used = any_passes (has_link is.link) routes (route i.0) (in_get routes i.0 (route i.0) (stands i.0 lt))
      (ap (has_link is.link) i.2 ∙ some.2) in
      let old : Side = record { cap = new.cap; users = users_of is.link routes } in (
        old,
        side_listed caps routes old (record { link = is.link; capped = is.capped; used = used; users = refl }),
        side_for is.link old new refl is.users refl,
      )

  pub relabelled : AreRelabelled of (length order) (sides_over caps routes) (sides_over caps news)
  relabelled = search (rules, length-map, users_are_flows, there, from)

pub the_order_of_flows_does_not_matter : OrderOfFlowsDoesNotMatter
the_order_of_flows_does_not_matter caps routes rates order permuted fair =
    let are = relabelled caps routes order permuted in
    let flows = length order in
    let olds = sides_over caps routes in
    let news = sides_over caps (routes_at routes order) in
    let place : ℕ → ℕ = λ flow. get_or order flow 0 in
    record {
      one_each = length-map order _;
      per = fair.per;
      parts = λ flow. fair.parts _;
      fair = relabelled_fair place flows olds news are fair.per fair.parts fair.fair;
      rated = λ flow d lt.
          let at = get_or-map _ order flow 0 d lt in
          let there = inside caps routes order permuted flow 0 lt in
          relabelled_rate place flows olds news are fair.per fair.parts fair.fair flow _ lt
          (subst (IsRateOf olds fair.per fair.parts (get_or order flow 0)) (sym at) (fair.rated _ Unlimited there));
    }
