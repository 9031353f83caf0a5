use Rattle.link_flights.proofs.Common.{sym, ◌∙◌, Origin, Recipient}
use Rattle.link_flights.proofs.Flights.Rows.{first_shared, none_shared}
use Rattle.link_flights.proofs.Flights.Loose.{letter, next_has_end, number_of_letter}
use Rattle.link_flights.proofs.table.Table.first_of.Goals as goal

pub returns-in_err-number : goal.returns-in_err-number
returns-in_err-number g c =
    let table = c.self.inside in
    let p = c.args.peer.now in
    next_has_end g.P.Ord.cmp c.args.end p c.args.self.now.items 0 c.from_residual.result
    (rw c.from_residual.ensures
    (none_shared table.given_up table.rows c.args.self.now c.self.view_is g.P.Ord.cmp g.met.P.Ord.total table.numbers
    c.self.invariant.now c.args.end (letter p) c.if-self.false
    (number_of_letter g.P.Ord.cmp g.met.P.Ord.total table.numbers c.args.end p
    ∙ sym c.number.ensures ∙ c.in_err-number.was)))

pub returns-in-Origin : goal.returns-in-Origin
returns-in-Origin g c =
    let table = c.self.inside in
    rw c.in-Origin.is
    (next_has_end g.P.Ord.cmp Origin c.args.peer.now c.args.self.now.items 0 c.first_sent.result
    (first_shared table.given_up table.rows c.args.self.now c.self.view_is g.P.Ord.cmp g.met.P.Ord.total table.numbers
    c.self.invariant.now Origin (letter c.args.peer.now) c.in_ok-number.number c.first_sent.result c.if-self.false
    (sym c.number.ensures ∙ c.in_ok-number.was) c.first_sent.ensures.next c.first_sent.ensures.within))

pub returns-in-Recipient : goal.returns-in-Recipient
returns-in-Recipient g c =
    let table = c.self.inside in
    rw c.in-Recipient.is
    (next_has_end g.P.Ord.cmp Recipient c.args.peer.now c.args.self.now.items 0 c.first_received.result
    (first_shared table.given_up table.rows c.args.self.now c.self.view_is g.P.Ord.cmp g.met.P.Ord.total table.numbers
    c.self.invariant.now Recipient (letter c.args.peer.now) c.in_ok-number.number c.first_received.result c.if-self.false
    (sym c.number.ensures ∙ c.in_ok-number.was) c.first_received.ensures.next c.first_received.ensures.within))
