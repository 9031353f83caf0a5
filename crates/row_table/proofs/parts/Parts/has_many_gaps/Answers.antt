use Rattle.row_table.proofs.Common.{arith}
use Rattle.row_table.proofs.Slots.{len-filled, length-live}
use Rattle.row_table.proofs.parts.Parts.has_many_gaps.Goals as goal

pub overflow_sub-result : goal.overflow_sub-result
overflow_sub-result g c =
    let len = len-filled c.args.self.now.filled c.args.self.now.slots.items c.requires.filled in
    let less = length-live c.args.self.now.slots.items in
    let rows = c.len-rows.ensures in
    let all = c.len.ensures.items in
    omega (arith, len, less, rows, all)
