use Rattle.link_flights.proofs.Common.{sym, ap, ◌∙◌, list_any, is_due_by, has_come}
use Rattle.link_flights.proofs.Flights.Rows.{kept, any-items, due, come}
use Rattle.link_flights.proofs.table.Table.first_finish.Goals as goal

pub returns : goal.returns
returns g c t =
    let table = c.self.inside in
    let rows = table.rows.now in
    sym (come g.P.Ord.cmp g.met.P.Ord.total t c.least.result) ∙ c.least.ensures t
    ∙ any-items (is_due_by t) (λ one. has_come t one.finish) rows
    (due g.P.Ord.cmp g.met.P.Ord.total table.numbers t rows c.self.invariant.now)
    ∙ ap (list_any (λ one. has_come t one.finish))
    (kept table.given_up table.rows c.args.self.now c.self.view_is c.if-self.false)
