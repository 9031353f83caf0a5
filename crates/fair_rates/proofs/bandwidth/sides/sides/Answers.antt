use Rattle.fair_rates.proofs.Common.{arith, ap, length, length-map, ◌<◌}
use Rattle.fairness.proofs.Lists.AllPairs.{AllPairs-from_later}
use Rattle.fair_rates.proofs.Sides.Users.{users_of}
use Rattle.fair_rates.proofs.bandwidth.sides.sides.Goals as goal

pub returns-clause-sides : goal.returns-clause-sides
returns-clause-sides g c =
    let h = c.in_ok-register_all.ensures.registered in
    (h.0, h.1, h.2.registered.sides_are)

pub returns-clause-users_are_flows : goal.returns-clause-users_are_flows
returns-clause-users_are_flows g c k d within i e below =
    let h = c.in_ok-register_all.ensures.registered in
    let last =
    (users_of g.P.Ord.cmp g.met.P.Ord.total h.0 c.register_all.new.registry.sides.items h.2.registered.sides_are k d
    within).1
    i e below in
    omega (arith, last, ap length h.1.flows_are, length-map h.0 (λ a. a.flow))

pub returns-clause-users_rise : goal.returns-clause-users_rise
returns-clause-users_rise g c k d within =
    let h = c.in_ok-register_all.ensures.registered in
    AllPairs-from_later (λ a b. a < b) _
    (users_of g.P.Ord.cmp g.met.P.Ord.total h.0 c.register_all.new.registry.sides.items h.2.registered.sides_are k d
    within).0
