use Rattle.fair_routes.proofs.Common.{◌≡◌, ◌<◌, ℕ, List, All, length, map, inl, inr, ap, sym, ◌∙◌, subst, Global, Vec}
use Rattle.fair_routes.proofs.Common.{length-map, Side, if_err, weight_at, IsWeightRefusal, HaveLittleWeight, side_of}
use Rattle.fair_routes.proofs.Common.{sides_over, AreFilledByWeight}
use Rattle.fair_routes.proofs.Network.Allocation.{code_users}
use Rattle.fair_routes.proofs.Network.LinkSides.{users_are_flows}
use Rattle.fair_routes.proofs.Network.WeightedMaxMin.{max_min_by_weight}
use Rattle.fair_routes.proofs.Network.WeightedRates.{levels_inside, rates_by_weight, large_by_weight, one_by_weight}
use Rattle.fair_routes.proofs.Network.WeightedRates.{zero_by_weight}
use Rattle.fair_routes.proofs.routes.weighted.allocate_weighted_routes.Goals as goal

abbrev items : Vec ℕ Global → List ℕ
items v = v.items

pub check_sides-requires : goal.check_sides-requires
check_sides-requires c =
    let routes = map items c.args.routes.now in
    let caps = c.args.caps.now in
    let weights = c.args.weights.now in
    let of = c.in_ok-check_weights.ensures.checked in
    let many : length routes ≡ length weights = length-map c.args.routes.now items ∙ sym of.one_each in
    let among : All (λ (side : Side). All (λ user. user < length weights) side.users) (sides_over caps routes) =
    subst (λ n. All (λ (side : Side). All (λ user. user < n) side.users) (sides_over caps routes)) many
    (users_are_flows caps routes) in
    subst (λ ss. All (λ side. All (λ user. user < length weights) side.users.items) ss) (sym c.deref.ensures.value)
    (code_users side_of (length weights) (sides_over caps routes) c.in_ok-sides.sides.items c.in_ok-sides.ensures.sides among)

pub fill-requires-clause-users : goal.fill-requires-clause-users
fill-requires-clause-users c =
    let routes = map items c.args.routes.now in
    let caps = c.args.caps.now in
    let weights = c.args.weights.now in
    let of = c.in_ok-check_weights.ensures.checked in
    let many : length routes ≡ length weights = length-map c.args.routes.now items ∙ sym of.one_each in
    let among : All (λ (side : Side). All (λ user. user < length weights) side.users) (sides_over caps routes) =
    subst (λ n. All (λ (side : Side). All (λ user. user < n) side.users) (sides_over caps routes)) many
    (users_are_flows caps routes) in
    subst (λ ss. All (λ side. All (λ user. user < length weights) side.users.items) ss) (sym c.deref-2.ensures.value)
    (code_users side_of (length weights) (sides_over caps routes) c.in_ok-sides.sides.items c.in_ok-sides.ensures.sides among)

pub rates-requires-clause-inside : goal.rates-requires-clause-inside
rates-requires-clause-inside c = levels_inside _ _ c.in_ok-rising.rising c.in_ok-found.found c.in_ok-rising.ensures c.in_ok-found.ensures

pub returns-in_err-rates-clause-refused : goal.returns-in_err-rates-clause-refused
returns-in_err-rates-clause-refused c =
    let routes = map items c.args.routes.now in
    let caps = c.args.caps.now in
    let weights = c.args.weights.now in
    let of = c.in_ok-check_weights.ensures.checked in
    let many : length routes ≡ length weights = length-map c.args.routes.now items ∙ sym of.one_each in
    let among : All (λ (side : Side). All (λ user. user < length weights) side.users) (sides_over caps routes) =
    subst (λ n. All (λ (side : Side). All (λ user. user < n) side.users) (sides_over caps routes)) many
    (users_are_flows caps routes) in
    let are = ap (map side_of) c.deref-2.ensures.value ∙ c.in_ok-sides.ensures.sides in
    let filled : AreFilledByWeight (sides_over caps routes) weights c.in_ok-rising.rising =
    subst (λ ss. AreFilledByWeight ss weights c.in_ok-rising.rising) are c.in_ok-rising.ensures in
    if_err _ _ c.from_residual-in_err-rates.result c.from_residual-in_err-rates.ensures.1
    (λ e is. subst (IsWeightRefusal caps routes weights) (sym is) (elim c.in_err-rates.ensures.refused [
      | inl memory ↦ inl memory
      | inr large ↦ inr (
        large.0,
        c.in_ok-sides.ensures.listed,
        large_by_weight (sides_over caps routes) weights c.in_ok-rising.rising c.in_ok-found.found filled
            c.in_ok-found.ensures large.1,
      )
    ]))

pub returns-clause-fair : goal.returns-clause-fair
returns-clause-fair c =
    let routes = map items c.args.routes.now in
    let caps = c.args.caps.now in
    let weights = c.args.weights.now in
    let of = c.in_ok-check_weights.ensures.checked in
    let many : length routes ≡ length weights = length-map c.args.routes.now items ∙ sym of.one_each in
    let among : All (λ (side : Side). All (λ user. user < length weights) side.users) (sides_over caps routes) =
    subst (λ n. All (λ (side : Side). All (λ user. user < n) side.users) (sides_over caps routes)) many
    (users_are_flows caps routes) in
    let are = ap (map side_of) c.deref-2.ensures.value ∙ c.in_ok-sides.ensures.sides in
    let filled : AreFilledByWeight (sides_over caps routes) weights c.in_ok-rising.rising =
    subst (λ ss. AreFilledByWeight ss weights c.in_ok-rising.rising) are c.in_ok-rising.ensures in
    let positive : (u : ℕ) → u < length weights → 0 < weight_at weights u = λ u inside. of.positive u 0 inside in
    let rates = c.in_ok-rates.field-0.items in
    let fair =
    rates_by_weight (sides_over caps routes) weights c.in_ok-rising.rising c.in_ok-found.found filled
    c.in_ok-found.ensures rates c.in_ok-rates.ensures.rates in
    record {
      listed = c.in_ok-sides.ensures.listed;
      weights_of = record { one_each = sym many; positive = of.positive };
      little = subst (HaveLittleWeight weights) (ap (map side_of) c.deref.ensures.value ∙ c.in_ok-sides.ensures.sides)
          c.in_ok-check_sides.ensures.checked;
      fair = fair;
      only = one_by_weight (sides_over caps routes) weights positive among rates fair;
      max_min = max_min_by_weight (sides_over caps routes) weights rates of.positive among fair;
      zero = zero_by_weight (sides_over caps routes) weights positive among rates fair;
    }
