use Rattle.link_flights.proofs.Common.{sym, ◌∙◌, Origin, Recipient}
use Rattle.link_flights.proofs.Flights.Rows.{first_shared, none_shared}
use Rattle.link_flights.proofs.table.Table.first_at.Goals as goal

pub returns-in_err-number-in-Origin : goal.returns-in_err-number-in-Origin
returns-in_err-number-in-Origin g c =
    let table = c.self.inside in
    rw (c.in-Origin.is, c.from_residual.ensures)
    (none_shared table.given_up table.rows c.args.self.now c.self.view_is g.P.Ord.cmp g.met.P.Ord.total table.numbers
    c.self.invariant.now Origin c.args.message.now c.if-self.false
    (sym c.number.ensures ∙ c.in_err-number-in-Origin.was))

pub returns-in_err-number-in-Recipient : goal.returns-in_err-number-in-Recipient
returns-in_err-number-in-Recipient g c =
    let table = c.self.inside in
    rw (c.in-Recipient.is, c.from_residual-in_err-number-in-Recipient.ensures)
    (none_shared table.given_up table.rows c.args.self.now c.self.view_is g.P.Ord.cmp g.met.P.Ord.total table.numbers
    c.self.invariant.now Recipient c.args.message.now c.if-self.false
    (sym c.number-in-Recipient.ensures ∙ c.in_err-number-in-Recipient.was))

pub returns-in_ok-number-in-Origin : goal.returns-in_ok-number-in-Origin
returns-in_ok-number-in-Origin g c =
    let table = c.self.inside in
    rw c.in-Origin.is
    (first_shared table.given_up table.rows c.args.self.now c.self.view_is g.P.Ord.cmp g.met.P.Ord.total table.numbers
    c.self.invariant.now Origin c.args.message.now c.in_ok-number-in-Origin.field-0 c.first_sent.result c.if-self.false
    (sym c.number.ensures ∙ c.in_ok-number-in-Origin.was) c.first_sent.ensures.next c.first_sent.ensures.within)

pub returns-in_ok-number-in-Recipient : goal.returns-in_ok-number-in-Recipient
returns-in_ok-number-in-Recipient g c =
    let table = c.self.inside in
    rw c.in-Recipient.is
    (first_shared table.given_up table.rows c.args.self.now c.self.view_is g.P.Ord.cmp g.met.P.Ord.total table.numbers
    c.self.invariant.now Recipient c.args.message.now c.in_ok-number-in-Recipient.field-0 c.first_received.result
    c.if-self.false (sym c.number-in-Recipient.ensures ∙ c.in_ok-number-in-Recipient.was)
    c.first_received.ensures.next c.first_received.ensures.within)
