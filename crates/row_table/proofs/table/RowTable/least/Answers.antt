use Rattle.row_table.proofs.Common.{◌≡◌, subst, Versions, is_due_by, list_any, has_come}
use Rattle.row_table.proofs.Nexts.{least_of_live}
use Rattle.row_table.proofs.table.RowTable.least.Goals as goal

pub returns : goal.returns
returns g c = λ time.
    let parts = c.self.inside.parts in
    subst (λ (v : Versions g.row.T.Denot). has_come time c.least.result ≡ list_any
    (is_due_by time) v.now) c.self.view_is
    (least_of_live parts.slots.items parts.index.moments c.self.invariant.0.found.moments c.least.result c.least.ensures time)
