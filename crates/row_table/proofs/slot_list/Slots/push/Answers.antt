use Rattle.row_table.proofs.Common.{common_steps, arith}
use Rattle.row_table.proofs.Leaving.{emptied_append, left_pushed, left_within}
use Rattle.row_table.proofs.slot_list.Slots.push.Goals as goal

pub invariant_of-self-2 : goal.invariant_of-self-2
invariant_of-self-2 g c = grind (arith, common_steps, left_pushed)

pub returns-clause-items : goal.returns-clause-items
returns-clause-items g c = grind (arith, common_steps, emptied_append, left_within)
