use Rattle.std.proofs.Common.{◌≡◌, ◌-◌, ◌<◌, ◌∙◌, length, vec_len, ap, sym, subst, take, arith}
use Rattle.std.proofs.lemmas.List.{take-take, length-take-le}
use Rattle.undo_list.specs.Journal.{restored, IsJournal}
use Rattle.undo_list.proofs.Journals.{journal_cut, length_undone}
use Rattle.undo_list.proofs.list.UndoList.pop.Given as given
use Rattle.undo_list.proofs.list.UndoList.pop.Goals as goal

module _ (g : given.Over) (c : goal.In-Some g) where
  after : c.self.inside.mark < length c.self.inside.items.items
  after =
      let list = c.self.inside in
      let long = length_undone list.mark list.items.items list.journal.items c.self.invariant.inside in
      let same = ap (λ v. length v.before) c.self.view_is in
      let all = ap (λ v. length v.items) c.self.view_is in
      let low = c.requires in
      omega (arith, long, same, all, low)

pub invariant_of-self : goal.invariant_of-self
invariant_of-self g c =
    let list = c.self.inside in
    let low = after g c in
    let flags = c.self.invariant.flags in
    let same : vec_len list.saved - 1 ≡ length list.items.items - 1 = omega (arith, flags) in
    let fewer : length c.pop-2.new.self.items ≡ length list.items.items - 1 =
    ap length c.pop-2.ensures.rest ∙ length-take-le (vec_len list.items - 1) list.items.items (omega arith) ∙ omega arith in
    subst (IsJournal list.journal.items list.mark c.pop.new.self.items) (sym fewer)
    (journal_cut list.journal.items list.mark (length list.items.items) (length list.items.items - 1) list.saved.items
    c.pop.new.self.items c.self.invariant (omega (arith, low)) (omega arith)
    (c.pop.ensures.rest ∙ ap (λ n. take n list.saved.items) same))

pub returns-clause-before : goal.returns-clause-before
returns-clause-before g c =
    let list = c.self.inside in
    let low = after g c in
    ap (λ l. restored (take list.mark l) list.journal.items) c.pop-2.ensures.rest
    ∙ ap (λ l. restored l list.journal.items) (take-take list.mark (vec_len list.items - 1) list.items.items (omega (arith, low)))
    ∙ ap (λ v. v.before) c.self.view_is
