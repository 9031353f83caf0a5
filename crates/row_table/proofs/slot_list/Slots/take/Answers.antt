use Rattle.row_table.proofs.Common.{common_steps, arith}
use Rattle.row_table.proofs.Leaving.{emptied_within, emptied_set, emptied_taken, left_changed, left_more}
use Rattle.row_table.proofs.slot_list.Slots.take.Goals as goal

pub is_saved-requires : goal.is_saved-requires
is_saved-requires g c = grind (arith, common_steps, emptied_within)

pub invariant_of-self-then-not-is_saved : goal.invariant_of-self-then-not-is_saved
invariant_of-self-then-not-is_saved g c = grind (arith, common_steps, left_more, emptied_within)

pub returns-then-not-is_saved-clause-items : goal.returns-then-not-is_saved-clause-items
returns-then-not-is_saved-clause-items g c = grind (arith, common_steps, emptied_taken)

pub set-requires : goal.set-requires
set-requires g c = grind (arith, common_steps, emptied_within)

pub invariant_of-self-2 : goal.invariant_of-self-2
invariant_of-self-2 g c = grind (arith, common_steps, left_changed)

pub returns-clause-items : goal.returns-clause-items
returns-clause-items g c = grind (arith, common_steps, emptied_set)
