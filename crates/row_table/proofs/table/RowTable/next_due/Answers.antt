use Rattle.row_table.proofs.Common.{subst, Versions, IsNext, is_due_by}
use Rattle.row_table.proofs.Slots.{slot_at}
use Rattle.row_table.proofs.Nexts.{from_there, next_due_is, next_place, next_within}
use Rattle.row_table.proofs.table.RowTable.next_due.Goals as goal

pub returns-clause-next : goal.returns-clause-next
returns-clause-next g c =
    let parts = c.self.inside.parts in
    let slot = c.slot_at-slot.result in
    subst (λ (v : Versions g.row.T.Denot). IsNext (is_due_by c.args.time) v.now c.args.from c.place.result) c.self.view_is
    (next_place parts.slots.items (is_due_by c.args.time) parts.filled.items c.args.from slot c.next_due.result c.place.result
    c.self.invariant.0.filled (from_there parts.slots.items c.args.from slot
    (slot_at parts.slots.items parts.filled.items c.args.from slot c.self.invariant.0.filled c.slot_at-slot.ensures.slot)) c.place.ensures
    (next_due_is parts.slots.items parts.index.moments c.self.invariant.0.found.moments c.args.time slot c.next_due.result
    c.next_due.ensures.some c.next_due.ensures.none))

pub returns-clause-within : goal.returns-clause-within
returns-clause-within g c =
    next_within (is_due_by c.args.time) c.args.self.now.now c.args.from c.place.result (returns-clause-next g c)
