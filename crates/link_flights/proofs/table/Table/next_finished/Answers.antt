use Rattle.link_flights.proofs.Common.{subst, is_due_by, has_come, IsNextPlace}
use Rattle.link_flights.proofs.Flights.Rows.{kept, next-items, due}
use Rattle.link_flights.proofs.table.Table.next_finished.Goals as goal

pub returns : goal.returns
returns g c =
    let table = c.self.inside in
    let rows = table.rows.now in
    subst (λ items. IsNextPlace (λ one. has_come c.args.now one.finish) items c.args.from c.next_due.result)
    (kept table.given_up table.rows c.args.self.now c.self.view_is c.if-self.false)
    (next-items (is_due_by c.args.now) (λ one. has_come c.args.now one.finish) rows
    (due g.P.Ord.cmp g.met.P.Ord.total table.numbers c.args.now rows c.self.invariant.now)
    c.args.from c.next_due.result c.next_due.ensures.next c.next_due.ensures.within)
