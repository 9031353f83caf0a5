use Rattle.fair_routes.proofs.Common.{◌≡◌, ℕ, List, length, map, inl, inr, subst, sym, arith, Global, Vec, common_steps}
use Rattle.fair_routes.proofs.Common.{length-map, AreFairRates, if_err, sides_over, HasDifferentRates}
use Rattle.fair_rates.specs.Sides.SideOf.{side_of}
use Rattle.fair_rates.proofs.Filling.Rates.{rates_are_fair, rates_are_different, large_rate}
use Rattle.fair_routes.specs.Network.Allocation.{IsRefusal}
use Rattle.fair_routes.proofs.Network.Allocation.{code_users, counted, too_large}
use Rattle.fair_routes.proofs.Network.LinkSides.{users_are_flows}
use Rattle.fair_routes.proofs.routes.allocate_routes_counted.Goals as goal

abbrev items : Vec ℕ Global → List ℕ
items v = v.items

pub fair_parts-requires : goal.fair_parts-requires
fair_parts-requires c =
    let routes = map items c.args.routes.now in
    let many : length routes ≡ length c.args.routes.now = length-map c.args.routes.now items in
    record {
      users =
          code_users side_of (length c.args.routes.now) (sides_over c.args.caps.now routes) c.in_ok-sides.sides.items
          c.in_ok-sides.ensures.sides (rw many at (users_are_flows c.args.caps.now routes));
    }

pub returns-in_err-rates-clause-refused : goal.returns-in_err-rates-clause-refused
returns-in_err-rates-clause-refused c =
    let caps = c.args.caps.now in
    let routes = map items c.args.routes.now in
    if_err _ _ c.from_residual-in_err-rates.result c.from_residual-in_err-rates.ensures.1
    (λ e is. subst (IsRefusal caps routes) (sym is) (elim c.in_err-rates.ensures.refused [
      | inl memory ↦ inl memory
      | inr large ↦ inr (
        large.0,
        too_large caps routes c.in_ok-sides.ensures.listed c.in_ok-sides.sides.items c.in_ok-sides.ensures.sides
            (large_rate _ _ _ c.in_ok-found.ensures large.1),
      )
    ]))

pub returns-clause-counted : goal.returns-clause-counted
returns-clause-counted c =
    let caps = c.args.caps.now in
    let routes = map items c.args.routes.now in
    let found = c.in_ok-found.found in
    let filled = c.in_ok-found.ensures in
    let rates = c.in_ok-rates.ensures.rates in
    let len : c.len.result ≡ length found.levels.items = grind (arith, common_steps, c.len.ensures) in
    let many : length routes ≡ length c.args.routes.now = length-map c.args.routes.now items in
    counted caps routes c.in_ok-sides.ensures.listed c.in_ok-sides.sides.items c.in_ok-rates.rates.items c.len.result
    c.in_ok-sides.ensures.sides
    (subst (λ (n : ℕ). AreFairRates (map side_of c.in_ok-sides.sides.items) n c.in_ok-rates.rates.items) (sym many)
    (rates_are_fair _ _ _ _ filled rates))
    (subst (HasDifferentRates c.in_ok-rates.rates.items) (sym len) (rates_are_different _ _ _ _ filled rates))
    (omega (arith, len, filled.few, length-map c.in_ok-sides.sides.items side_of))
