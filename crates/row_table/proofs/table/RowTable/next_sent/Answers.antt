use Rattle.row_table.proofs.Common.{◌<◌, suc, length, slice_get, subst, ap, ◌∙◌, Versions, IsNext, Row}
use Rattle.row_table.proofs.Common.{IfSome, is_sent_by}
use Rattle.row_table.proofs.Slots.{slot_at}
use Rattle.row_table.proofs.Nexts.{from_behind, next_of_owner, next_place, place_within, stands_there, next_held}
use Rattle.row_table.proofs.table.RowTable.next_sent.Goals as goal

pub place-requires-clause-row : goal.place-requires-clause-row
place-requires-clause-row g c =
    let parts = c.self.inside.parts in
    next_held (λ (row : Row g.row.T.Denot). row.sender) parts.slots.items parts.index.sent.now.stands c.args.at
    c.slot_at-slot.result c.self.invariant.0.found.sent (slot_at parts.slots.items parts.filled.items c.args.at
    c.slot_at-slot.result c.self.invariant.0.filled c.slot_at-slot.ensures.slot) c.next.result c.next.ensures.stands

pub returns-clause-next : goal.returns-clause-next
returns-clause-next g c = λ row e.
    let parts = c.self.inside.parts in
    let slots = parts.slots.items in
    let at = c.args.at in
    let slot = c.slot_at-slot.result in
    let is = slot_at slots parts.filled.items at slot c.self.invariant.0.filled c.slot_at-slot.ensures.slot in
    let there = stands_there (λ (row : Row g.row.T.Denot). row.sender) slots parts.index.sent.now.stands at slot
    c.self.invariant.0.found.sent is row (ap (λ (v : Versions g.row.T.Denot). slice_get v.now at) c.self.view_is ∙ e) in
    subst (λ (v : Versions g.row.T.Denot). IsNext (is_sent_by row.sender) v.now (suc at) c.place.result) c.self.view_is
    (next_place slots (is_sent_by row.sender) parts.filled.items (suc at) (suc slot) c.next.result c.place.result
    c.self.invariant.0.filled (from_behind slots at slot is) c.place.ensures
    (next_of_owner (λ (row : Row g.row.T.Denot). row.sender) slots parts.index.sent.now.stands row.sender
    c.self.invariant.0.found.sent (suc slot) c.next.result (c.next.ensures.first row.sender there)))

pub returns-clause-within : goal.returns-clause-within
returns-clause-within g c =
    let parts = c.self.inside.parts in
    subst (λ (v : Versions g.row.T.Denot). IfSome c.place.result (λ at. at < length v.now)) c.self.view_is
    (place_within parts.slots.items parts.filled.items c.next.result c.place.result c.self.invariant.0.filled c.place.ensures)
