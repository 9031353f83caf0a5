use Rattle.row_table.proofs.Common.{◌∙◌, List, Option, ap, filter, SlotVersions, emptied, Row, rules}
use Rattle.std.specs.Option.{is_some}
use Rattle.std.proofs.lemmas.Fn.{filter_same}
use Rattle.row_table.proofs.Leaving.{left_unsaved}
use Rattle.row_table.proofs.slot_list.Slots.commit_kept.Goals as goal

pub let_go-requires : goal.let_go-requires
let_go-requires g c = left_unsaved c.self.inside.list c.self.inside.left.items c.self.invariant

pub returns-clause-items : goal.returns-clause-items
returns-clause-items g c =
    ap (emptied c.commit_kept.new.self.items) c.let_go.ensures.left
    ∙ filter_same _ is_some _ (λ x b f' k. search rules) _ _ c.commit_kept.ensures.items
    ∙ ap (λ (items : List (Option (Row g.row.T.Denot))). filter is_some items) c.let_go.ensures.items
    ∙ ap (λ (v : SlotVersions g.row.T.Denot). filter is_some v.items) c.self.view_is
