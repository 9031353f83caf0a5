use Rattle.std.proofs.Common.{◌∙◌, length, true, false, ap, arith, slice_get, slice_set}
use Rattle.std.proofs.lemmas.Option.{get_or_from_slice_get, slice_get_within}
use Rattle.undo_list.proofs.Journals.{restored_written}
use Rattle.undo_list.proofs.list.UndoList.write.Goals as goal

pub returns-clause-before : goal.returns-clause-before
returns-clause-before g c =
    let list = c.self.inside in
    let at = c.args.at in
    let clear = ap (λ v. slice_get v.saved at) c.self.view_is ∙ c.requires in
    let flagged = slice_get_within list.saved.items at false clear in
    let long = c.self.invariant.flags in
    restored_written list.mark (length list.items.items) list.items.items list.saved.items list.journal.items at c.args.item
    c.self.invariant (omega (arith, flagged, long)) (get_or_from_slice_get list.saved.items at false true clear)
    ∙ ap (λ v. slice_set v.before at c.args.item) c.self.view_is
