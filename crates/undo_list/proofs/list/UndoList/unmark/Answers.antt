use Rattle.std.proofs.Common.{◌≡◌, ◌-◌, length, replicate, true, ap, ◌∙◌, vec_len, arith}
use Rattle.undo_list.proofs.Journals.{journal_free}
use Rattle.undo_list.proofs.list.UndoList.unmark.Goals as goal

pub invariant_of-self : goal.invariant_of-self
invariant_of-self g c =
    let list = c.self.inside in
    let same : vec_len list.saved - 0 ≡ length list.items.items = omega (arith, c.self.invariant.flags) in
    journal_free c.clear.new.self.items (length list.items.items) c.set_from.new.saved.items c.clear.ensures.items
    (c.set_from.ensures ∙ ap (λ n. replicate n true) same)
