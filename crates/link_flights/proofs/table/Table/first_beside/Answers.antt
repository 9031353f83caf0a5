use Rattle.link_flights.proofs.Common.{subst, sym, ◌∙◌, same_Some, Origin, Recipient}
use Rattle.link_flights.proofs.Flights.Rows.{shared_from}
use Rattle.row_table.specs.Rows.{IsNext, is_sent_by, is_received_by}
use Rattle.link_flights.proofs.table.Table.first_beside.Goals as goal

pub returns-in-Origin : goal.returns-in-Origin
returns-in-Origin g c =
    let table = c.self.inside in
    let rows = table.rows.now in
    rw c.in-Origin.is
    (shared_from table.given_up table.rows c.args.self.now c.self.view_is g.P.Ord.cmp g.met.P.Ord.total table.numbers
    c.self.invariant.now Origin c.args.at 0 c.first_sent.result c.requires
    (λ row there. subst (λ r. IsNext (is_sent_by r.sender) rows 0 c.first_sent.result)
    (same_Some c.at-row.result.now row (sym c.at-row.ensures ∙ there)) c.first_sent.ensures.next)
    c.first_sent.ensures.within)

pub returns-in-Recipient : goal.returns-in-Recipient
returns-in-Recipient g c =
    let table = c.self.inside in
    let rows = table.rows.now in
    rw c.in-Recipient.is
    (shared_from table.given_up table.rows c.args.self.now c.self.view_is g.P.Ord.cmp g.met.P.Ord.total table.numbers
    c.self.invariant.now Recipient c.args.at 0 c.first_received.result c.requires
    (λ row there. subst (λ r. IsNext (is_received_by r.receiver) rows 0 c.first_received.result)
    (same_Some c.at-row.result.now row (sym c.at-row.ensures ∙ there)) c.first_received.ensures.next)
    c.first_received.ensures.within)
