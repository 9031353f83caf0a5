use Rattle.row_table.proofs.Common.{common_steps, arith}
use Rattle.row_table.proofs.Leaving.{emptied_within, emptied_set, left_changed}
use Rattle.row_table.proofs.slot_list.Slots.set.Goals as goal

pub set-requires : goal.set-requires
set-requires g c = grind (arith, common_steps, emptied_within)

pub invariant_of-self-2 : goal.invariant_of-self-2
invariant_of-self-2 g c = grind (arith, common_steps, left_changed)

pub returns-clause-items : goal.returns-clause-items
returns-clause-items g c = grind (arith, common_steps, emptied_set)
