use Rattle.row_table.proofs.Common.{length, ap, ◌∙◌, Versions, ◌==◌}
use Rattle.row_table.proofs.Slots.{len-filled}
use Rattle.row_table.proofs.table.RowTable.is_empty.Goals as goal

pub returns : goal.returns
returns g c =
    let parts = c.self.inside.parts in
    c.is_empty.ensures ∙ ap (λ len. len == 0) (len-filled parts.filled parts.slots.items c.self.invariant.0.filled
    ∙ ap (λ (v : Versions g.row.T.Denot). length v.now) c.self.view_is)
