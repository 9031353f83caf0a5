use Rattle.row_table.proofs.Leaving.{left_unsaved}
use Rattle.row_table.proofs.slot_list.Slots.commit.Goals as goal

pub let_go-requires : goal.let_go-requires
let_go-requires g c = left_unsaved c.self.inside.list c.self.inside.left.items c.self.invariant
