use Rattle.row_table.proofs.Common.{common_steps, arith, get_or_from_slice_get}
use Rattle.row_table.proofs.Leaving.{length_emptied, held_behind}
use Rattle.row_table.proofs.slot_list.Slots.is_filled.Goals as goal

pub at-requires : goal.at-requires
at-requires g c = grind (arith, common_steps, length_emptied)

pub returns : goal.returns
returns g c = grind (arith, common_steps, get_or_from_slice_get, held_behind)
