use Rattle.row_table.proofs.Common.{common_steps, get_or_from_slice_get, arith}
use Rattle.row_table.proofs.Leaving.{emptied_within, held_still}
use Rattle.row_table.proofs.slot_list.Slots.at.Goals as goal

pub at-requires : goal.at-requires
at-requires g c = grind (arith, common_steps, emptied_within)

pub unreachable-requires : goal.unreachable-requires
unreachable-requires g c = grind (arith, common_steps, held_still, get_or_from_slice_get)

pub returns : goal.returns
returns g c = grind (arith, common_steps, held_still, get_or_from_slice_get)
