use Rattle.row_table.proofs.Common.{◌≡◌, Some, false, All, slice_get, emptied}
use Rattle.row_table.proofs.slot_list.let_go.Given as goal

abbrev pub invariant-loop-slot : goal.invariant-loop-slot
invariant-loop-slot g l = record {
  items : emptied l.list.items l.left.items ≡ emptied l.initial.list.items l.initial.left.items;
  unsaved : All (λ slot. slice_get l.list.saved slot ≡ Some false) l.left.items;
}

abbrev pub decreases-loop-slot : goal.decreases-loop-slot
decreases-loop-slot g l = goal.left-loop-slot g l
