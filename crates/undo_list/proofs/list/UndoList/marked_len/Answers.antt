use Rattle.std.proofs.Common.{◌∙◌, length, ap, sym}
use Rattle.undo_list.proofs.Journals.{length_undone}
use Rattle.undo_list.proofs.list.UndoList.marked_len.Goals as goal

pub returns : goal.returns
returns g c =
    let list = c.self.inside in
    sym (length_undone list.mark list.items.items list.journal.items c.self.invariant.inside)
    ∙ ap (λ v. length v.before) c.self.view_is
