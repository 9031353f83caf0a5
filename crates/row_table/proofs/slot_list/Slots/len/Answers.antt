use Rattle.row_table.proofs.Common.{common_steps, arith}
use Rattle.row_table.proofs.Leaving.{length_emptied}
use Rattle.row_table.proofs.slot_list.Slots.len.Goals as goal

pub returns-clause-items : goal.returns-clause-items
returns-clause-items g c = grind (arith, common_steps, length_emptied)
