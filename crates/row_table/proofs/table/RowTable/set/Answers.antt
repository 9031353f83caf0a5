use Rattle.row_table.proofs.Common.{slice_get, slice_set, sym, ap, ◌∙◌, Versions, with_item}
use Rattle.chains.proofs.Views.{done}
use Rattle.row_table.proofs.table.RowTable.set.Goals as goal

pub returns-clause-now : goal.returns-clause-now
returns-clause-now g c = λ row e.
    done c.set.result (sym c.is_err.ensures.value ∙ c.if-is_err.false)
    (c.set.ensures.rows row (ap (λ (v : Versions g.row.T.Denot). slice_get v.now c.args.at) c.self.view_is ∙ e))
    ∙ ap (λ (v : Versions g.row.T.Denot). slice_set v.now c.args.at
    (with_item c.args.item c.args.moment row)) c.self.view_is
