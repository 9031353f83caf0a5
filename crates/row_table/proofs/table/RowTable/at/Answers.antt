use Rattle.row_table.proofs.Common.{common_steps, arith}
use Rattle.row_table.proofs.Slots.{slot_at, held_at}
use Rattle.row_table.proofs.table.RowTable.at.Goals as goal

pub returns : goal.returns
returns g c = grind (arith, common_steps, held_at, slot_at)
