use Rattle.row_table.proofs.Common.{common_steps, arith, slice_get_read}
use Rattle.row_table.proofs.Slots.{len-filled, length-filled, slot_at, slot_holds}
use Rattle.row_table.proofs.parts.Parts.slot_at.Goals as goal

pub index-requires : goal.index-requires
index-requires g c =
    let len = len-filled c.args.self.now.filled c.args.self.now.slots.items c.requires.stands.filled in
    let within = c.requires.within in
    omega (arith, len, within)

pub returns-clause-slot : goal.returns-clause-slot
returns-clause-slot g c = grind (arith, common_steps, slice_get_read, length-filled)

pub returns-clause-row : goal.returns-clause-row
returns-clause-row g c =
    let slots = c.args.self.now.slots.items in
    slot_holds slots c.args.at c.index.result.now
    (slot_at slots c.args.self.now.filled.items c.args.at c.index.result.now c.requires.stands.filled
    (returns-clause-slot g c))
