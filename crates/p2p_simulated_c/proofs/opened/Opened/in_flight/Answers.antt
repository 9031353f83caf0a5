use Rattle.p2p_simulated_c.proofs.Common.{inl, map, refl, ap, ◌∙◌, flight_of, written}
use Rattle.p2p_simulated_c.proofs.opened.Opened.in_flight.Goals as goal

pub returns-in-Ok : goal.returns-in-Ok
returns-in-Ok c =
    inl (
      refl,
      c.in-Ok.readings.items,
      c.in-Ok.ensures.read,
      c.len.ensures ∙ c.in-Ok.readings.ok.0,
      c.write_flights.ensures ∙ ap (λ rs. written (map flight_of rs) c.args.out.now) c.deref.ensures.value,
    )
