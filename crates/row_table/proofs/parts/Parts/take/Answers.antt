use Rattle.row_table.proofs.Common.{common_steps, arith}
use Rattle.row_table.proofs.Slots.{slot_at, live_taken}
use Rattle.row_table.proofs.Finding.{stands_taken}
use Rattle.row_table.proofs.parts.Parts.take.Goals as goal

pub returns-clause-rows : goal.returns-clause-rows
returns-clause-rows g c = grind (arith, common_steps, live_taken, slot_at)

pub returns-clause-stands : goal.returns-clause-stands
returns-clause-stands g c =
    let slots = c.args.self.now.slots.items in
    let slot = c.slot_at-slot.result in
    stands_taken c.args.self.now _ c.args.at slot c.requires.stands
    (slot_at slots c.args.self.now.filled.items c.args.at slot c.requires.stands.filled c.slot_at-slot.ensures.slot)
    c.in_ok-take.ensures.items c.remove.ensures.items c.in_ok-take-2.ensures.sent c.in_ok-take-2.ensures.received
    c.in_ok-take-2.ensures.moments
