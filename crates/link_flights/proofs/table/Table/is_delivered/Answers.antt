use Rattle.link_flights.proofs.Common.{◌&&◌, ◌∙◌, Bool, sym, ap}
use Rattle.std.specs.Prelude.{not}
use Rattle.std.proofs.Common.{eqb}
use Rattle.link_flights.proofs.Flights.Rows.{row_delivered}
use Rattle.link_flights.proofs.table.Table.is_delivered.Goals as goal

pub returns-then-row : goal.returns-then-row
returns-then-row g c d =
    let table = c.self.inside in
    let row = c.at-row.result.now in
    ap (λ (b : Bool). b && not (eqb row.sender row.receiver)) (sym c.if-row.true)
    ∙ row_delivered table.given_up table.rows c.args.self.now c.self.view_is g.P.Ord.cmp g.met.P.Ord.total table.numbers
    c.self.invariant.now c.args.at c.requires row c.at-row.ensures d

pub returns-else-row : goal.returns-else-row
returns-else-row g c d =
    let table = c.self.inside in
    let row = c.at-row.result.now in
    c.if-row.false ∙ ap (λ (b : Bool). b && not (eqb row.sender row.receiver)) (sym c.if-row.false)
    ∙ row_delivered table.given_up table.rows c.args.self.now c.self.view_is g.P.Ord.cmp g.met.P.Ord.total table.numbers
    c.self.invariant.now c.args.at c.requires row c.at-row.ensures d
