use Rattle.link_flights.proofs.Common.{◌&&◌, sym, ◌∙◌, same_peer}
use Rattle.link_flights.proofs.Flights.Standing.{any_sent}
use Rattle.link_flights.proofs.flight_list.Flights.has.Goals as goal

pub returns : goal.returns
returns g c =
    let self = c.args.self.now in
    let origin = c.args.origin.now in
    let recipient = c.args.recipient.now in
    c.has.ensures
    ∙ sym
    (any_sent self.scale self.at self.list.items
    (λ m. same_peer g.P.Ord.cmp origin m.origin && same_peer g.P.Ord.cmp recipient m.recipient))
