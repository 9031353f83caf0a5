use Rattle.row_table.proofs.Common.{◌≡◌, ◌≤◌, take, vec_capacity, filled_from}
use Rattle.row_table.proofs.filled.refill.Given as goal

abbrev pub invariant-loop-slot : goal.invariant-loop-slot
invariant-loop-slot g l = record {
  filled : l.filled.items ≡ filled_from (take l.slot l.slots) 0;
  room : vec_capacity l.initial.filled ≤ vec_capacity l.filled;
}
