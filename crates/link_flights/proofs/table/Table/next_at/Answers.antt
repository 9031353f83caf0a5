use Rattle.link_flights.proofs.Common.{suc, add-one, Origin, Recipient}
use Rattle.link_flights.proofs.Flights.Rows.{shared_from}
use Rattle.link_flights.proofs.table.Table.next_at.Goals as goal

pub returns-in-Origin : goal.returns-in-Origin
returns-in-Origin g c =
    let table = c.self.inside in
    rw (c.in-Origin.is, add-one)
    (shared_from table.given_up table.rows c.args.self.now c.self.view_is g.P.Ord.cmp g.met.P.Ord.total table.numbers
    c.self.invariant.now Origin c.args.at (suc c.args.at) c.next_sent.result c.requires c.next_sent.ensures.next
    c.next_sent.ensures.within)

pub returns-in-Recipient : goal.returns-in-Recipient
returns-in-Recipient g c =
    let table = c.self.inside in
    rw (c.in-Recipient.is, add-one)
    (shared_from table.given_up table.rows c.args.self.now c.self.view_is g.P.Ord.cmp g.met.P.Ord.total table.numbers
    c.self.invariant.now Recipient c.args.at (suc c.args.at) c.next_received.result c.requires c.next_received.ensures.next
    c.next_received.ensures.within)
