use Rattle.link_flights.proofs.Common.{sym, ap, ◌∙◌}
use Rattle.link_pairs.specs.declared.message.Message.{Message}
use Rattle.link_flights.proofs.flight.Flight.rerated.Goals as goal

pub invariant_of-result : goal.invariant_of-result
invariant_of-result g c = record {
  as_sent = c.args.self.now.as_sent
      ∙ ap (λ (m : Message g.row.P.Denot). m.should_deliver) (sym c.in_ok-clone.ensures.cases);
}
