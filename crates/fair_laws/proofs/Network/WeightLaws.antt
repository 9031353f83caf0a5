-- Weights of one, and the same network with weights said otherwise.
use Rattle.fair_laws.proofs.Common.{rules, ◌≡◌, ℕ, ◌*◌, ◌<◌, List, [], ◌∷◌, ◌++◌, All, Contains, length, map, get_or}
use Rattle.fair_laws.proofs.Common.{replicate, refl, sym, ap, ◌∙◌, subst, arith, slice_index, get_or-map}
use Rattle.fair_laws.proofs.Common.{get_or-replicate, length-map, length-replicate, All-contains, All-tail, Side}
use Rattle.fair_laws.proofs.Common.{IsLimited, HaveUsersBelow, IsRateOf, Rate, Unlimited, Finite, listed_on}
use Rattle.fair_laws.proofs.Common.{listed_from, sum_by_same, All-from_contains, routes_at, sides_over, weight_at}
use Rattle.fair_laws.proofs.Common.{as_often, weighted, by_weight, AreWeightedRates, All-head, AreTheSameSides}
use Rattle.fair_laws.proofs.Common.{rates_at}
use Rattle.fairness.proofs.Fairness.SameSides.{still_fair}
use Rattle.fair_routes.specs.Network.WeightLaws.{WeightsOfOneChangeNothing, OrderOfLinksDoesNotMatterByWeight}
use Rattle.fair_routes.specs.Network.WeightLaws.{OrderOfFlowsDoesNotMatterByWeight, weights_at}
use Rattle.fair_routes.proofs.Network.ByWeight.{sum_often, uses_often, often_uses}
use Rattle.fair_routes.proofs.Network.LinkSides.{users_are_flows}
use Rattle.fair_laws.proofs.Network.Relabelled.{IsTheSide, AreRelabelled, relabelled_fair, rate_on}
use Rattle.fair_laws.proofs.Network.Reordered.{relabelled, inside}
use Rattle.fair_routes.proofs.Network.Said.{renamed_sides}

-- ---- weights of one

module _ (flows : ℕ) where
  abbrev ones : List ℕ
  ones = replicate flows 1

  once : (users : List ℕ) → All (λ u. u < flows) users → as_often ones users ≡ users
  once [] below = refl
  once (u ∷ us) below =
      let one : weight_at ones u ≡ 1 = get_or-replicate flows u 1 0 (All-head (λ v. v < flows) u us below) in
      ap (λ n. replicate n u ++ as_often ones us) one ∙ ap (λ vs. u ∷ vs) (once us (All-tail (λ v. v < flows) u us below))

  same_sides : (sides : List Side) → HaveUsersBelow flows sides → map (weighted ones) sides ≡ sides
  same_sides [] below = refl
  same_sides (side ∷ sides) below = λ i.
      record { cap = side.cap; users = first i } ∷ same_sides sides later i
    where
      first : as_often ones side.users ≡ side.users
      first = once side.users (All-head (λ (s : Side). All (λ user. user < flows) s.users) side sides below)

      later : HaveUsersBelow flows sides
      later = All-tail (λ (s : Side). All (λ user. user < flows) s.users) side sides below

  by_one : (parts : ℕ → ℕ) (flow : ℕ) → flow < flows → by_weight ones parts flow ≡ parts flow
  by_one parts flow within = omega (arith, ap (λ n. n * parts flow) (get_or-replicate flows flow 1 0 within))

  on_rate : (sides : List Side) (per : ℕ) (parts other : ℕ → ℕ) (flow : ℕ) → parts flow ≡ other flow → (rate : Rate)
      → IsRateOf sides per parts flow rate → IsRateOf sides per other flow rate
  on_rate sides per parts other flow same Unlimited none = none
  on_rate sides per parts other flow same (Finite ratio) (limited, worth) = search rules

pub weights_of_one_change_nothing : WeightsOfOneChangeNothing
weights_of_one_change_nothing caps routes rates =
    search (rules, length-replicate, on_rate, by_one, same_sides, users_are_flows)

-- ---- the same sides

module _ (weights : List ℕ) (xs ys : List Side) (same : AreTheSameSides xs ys) where
  wide_sides : AreTheSameSides (map (weighted weights) xs) (map (weighted weights) ys)
  wide_sides side = (
    (λ listed. let from = listed_from (weighted weights) xs side listed in
        subst (Contains (map (weighted weights) ys)) from.2
        (listed_on (weighted weights) ys from.0 ((same from.0).0 from.1))),
    (λ listed. let from = listed_from (weighted weights) ys side listed in
        subst (Contains (map (weighted weights) xs)) from.2
        (listed_on (weighted weights) xs from.0 ((same from.0).1 from.1))),
  )

  same_limited : (flow : ℕ) → IsLimited xs flow → IsLimited ys flow
  same_limited flow (side, u) = (side, record { listed = (same side).0 u.listed; used = u.used })

  limited_back : (flow : ℕ) → IsLimited ys flow → IsLimited xs flow
  limited_back flow (side, u) = (side, record { listed = (same side).1 u.listed; used = u.used })

  same_rate : (per : ℕ) (parts : ℕ → ℕ) (flow : ℕ) (rate : Rate) → IsRateOf xs per parts flow rate
      → IsRateOf ys per parts flow rate
  same_rate per parts flow Unlimited none = λ limited. none (limited_back flow limited)
  same_rate per parts flow (Finite ratio) (limited, worth) = (same_limited flow limited, worth)

  weighted_on : (rates : List Rate) → AreWeightedRates xs weights rates → AreWeightedRates ys weights rates
  weighted_on rates f = record {
    one_each = f.one_each;
    per = f.per;
    parts = f.parts;
    fair = still_fair (map (weighted weights) xs) (map (weighted weights) ys) wide_sides f.per f.parts f.fair;
    rated = λ flow d within.
        same_rate f.per (by_weight weights f.parts) flow (get_or rates flow d) (f.rated flow d within);
  }

pub the_order_of_links_does_not_matter_by_weight : OrderOfLinksDoesNotMatterByWeight
the_order_of_links_does_not_matter_by_weight caps others name routes weights rates are fair =
    search (rules, weighted_on, renamed_sides)

-- ---- flows at other places

module _ (of : ℕ → ℕ) (flows : ℕ) (olds news : List Side) (are : AreRelabelled of flows olds news)
    (weights others : List ℕ) (same : (flow : ℕ) → flow < flows → weight_at others flow ≡ weight_at weights (of flow))
    (positive : (flow : ℕ) → flow < flows → 0 < weight_at others flow) where
  is_new : (new : Side) → Contains news new → (flow : ℕ) → Contains new.users flow → flow < flows
  is_new new listed flow used = search (rules, All-contains)

  wide_side : (old new : Side) → Contains news new → IsTheSide of flows old new
      → IsTheSide of flows (weighted weights old) (weighted others new)
  wide_side old new listed is = record {
    cap = is.cap;
    loads = λ parts.
        sum_often weights parts old.users ∙ is.loads (λ u. weight_at weights u * parts u)
        ∙ sum_by_same (λ f. weight_at weights (of f) * parts (of f)) (λ f. weight_at others f * parts (of f)) new.users
        (All-from_contains (λ f. weight_at weights (of f) * parts (of f) ≡ weight_at others f * parts (of f)) new.users
        (λ f used. ap (λ n. n * parts (of f)) (sym (same f (is_new new listed f used)))))
        ∙ sym (sum_often others (λ f. parts (of f)) new.users);
    used = λ flow used.
        let own = uses_often others new.users flow used in
        let lt = is_new new listed flow own in
        often_uses weights old.users (of flow) (subst (λ n. 0 < n) (same flow lt) (positive flow lt)) (is.used flow own);
    back = λ flow lt used.
        often_uses others new.users flow (positive flow lt) (is.back flow lt (uses_often weights old.users (of flow) used));
  }

  pub wide_relabelled : AreRelabelled of flows (map (weighted weights) olds) (map (weighted others) news)
  wide_relabelled = record {
    below = All-from_contains (λ (s : Side). All (λ user. user < flows) s.users) (map (weighted others) news) (λ side listed.
        let from = listed_from (weighted others) news side listed in
        subst (λ (s : Side). All (λ user. user < flows) s.users) from.2
        (All-from_contains (λ user. user < flows) (as_often others from.0.users)
        (λ user used. is_new from.0 from.1 user (uses_often others from.0.users user used))));
    there = λ old listed.
        let from = listed_from (weighted weights) olds old listed in
        let new = are.there from.0 from.1 in (
          weighted others new.0,
          listed_on (weighted others) news new.0 new.1,
          subst (λ (s : Side). IsTheSide of flows s (weighted others new.0)) from.2 (wide_side from.0 new.0 new.1 new.2),
        );
    from = λ new listed.
        let from = listed_from (weighted others) news new listed in
        let old = are.from from.0 from.1 in (
          weighted weights old.0,
          listed_on (weighted weights) olds old.0 old.1,
          subst (λ (s : Side). IsTheSide of flows (weighted weights old.0) s) from.2 (wide_side old.0 from.0 from.1 old.2),
        );
  }

pub the_order_of_flows_does_not_matter_by_weight : OrderOfFlowsDoesNotMatterByWeight
the_order_of_flows_does_not_matter_by_weight caps routes weights rates order of permuted fair =
    let flows = length order in
    let place : ℕ → ℕ = λ flow. get_or order flow 0 in
    let olds = sides_over caps routes in
    let news = sides_over caps (routes_at routes order) in
    let others = weights_at weights order in
    let are = relabelled caps routes order permuted in
    let weigh : ℕ → ℕ = λ p. slice_index weights p in
    let many : length others ≡ flows = length-map order weigh in
    let same : (flow : ℕ) → flow < flows → weight_at others flow ≡ weight_at weights (place flow) =
    λ flow lt. get_or-map weigh order flow 0 0 lt in
    let within : (flow : ℕ) → flow < flows → place flow < length weights =
    λ flow lt. omega (arith, inside caps routes order permuted flow 0 lt, of.one_each) in
    let positive : (flow : ℕ) → flow < flows → 0 < weight_at others flow =
    λ flow lt. subst (λ n. 0 < n) (sym (same flow lt)) (of.positive (place flow) 0 (within flow lt)) in
    let wide = wide_relabelled place flows olds news are weights others same positive in
    record {
      one_each = length-map order (λ i. get_or rates i Unlimited) ∙ sym many;
      per = fair.per;
      parts = λ flow. fair.parts (place flow);
      fair = relabelled_fair place flows (map (weighted weights) olds) (map (weighted others) news) wide fair.per
          fair.parts fair.fair;
      rated = λ flow d lt'.
          let lt : flow < flows = omega (arith, lt', many) in
          let at = get_or-map (λ i. get_or rates i Unlimited) order flow 0 d lt in
          let rate = get_or (rates_at rates order) flow d in
          let old : IsRateOf olds fair.per (by_weight weights fair.parts) (place flow) rate =
          subst (IsRateOf olds fair.per (by_weight weights fair.parts) (place flow)) (sym at)
          (fair.rated (place flow) Unlimited (within flow lt)) in
          let new = rate_on place flows olds news are fair.per (by_weight weights fair.parts) flow rate lt old in
          on_rate flows news fair.per (λ f. by_weight weights fair.parts (place f))
          (by_weight others (λ f. fair.parts (place f))) flow
          (ap (λ n. n * fair.parts (place flow)) (sym (same flow lt))) rate new;
    }
