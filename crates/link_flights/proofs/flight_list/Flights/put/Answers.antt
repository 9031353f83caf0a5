use Rattle.link_flights.proofs.Common.{length, sym, ap, ◌∙◌, subst, arith, list_all, length-set, HaveRates}
use Rattle.link_flights.proofs.Flights.Flight.{all_with, is_past}
use Rattle.link_flights.proofs.Flights.Settled.{rates_put}
use Rattle.link_flights.proofs.flight_list.Flights.put.Goals as goal

pub invariant_of-self-in_default-clause-past : goal.invariant_of-self-in_default-clause-past
invariant_of-self-in_default-clause-past g c =
    let old = c.args.self.now in
    ap (list_all (is_past old.at)) c.in_default.ensures.items
    ∙ all_with (is_past old.at) old.list.items c.args.at c.args.flight old.past c.requires.past

pub invariant_of-self-in_default-clause-counted : goal.invariant_of-self-in_default-clause-counted
invariant_of-self-in_default-clause-counted g c =
    let old = c.args.self.now in
    omega (
      arith,
      old.counted,
      ap length c.in_default.ensures.items,
      length-set old.list.items c.args.at c.args.flight,
    )

pub invariant_of-self-in_default-clause-have_rates : goal.invariant_of-self-in_default-clause-have_rates
invariant_of-self-in_default-clause-have_rates g c =
    let old = c.args.self.now in
    subst (HaveRates old.settled) (sym c.in_default.ensures.items)
    (rates_put old.settled old.list.items c.args.at c.args.flight old.have_rates c.requires.still_rated)
