use Rattle.row_table.proofs.Common.{common_steps, arith}
use Rattle.std.proofs.lemmas.List.Elements.{All-pop}
use Rattle.row_table.proofs.Leaving.{emptied_more}
use Rattle.row_table.proofs.slot_list.let_go.Goals as goal

pub loop-slot-preserved : goal.loop-slot-preserved
loop-slot-preserved g c = grind (arith, common_steps, emptied_more, All-pop)
