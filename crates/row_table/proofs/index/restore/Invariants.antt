use Rattle.row_table.proofs.Common.{◌≡◌, take, map, length, moment_of}
use Rattle.row_table.proofs.index.restore.Given as goal

abbrev pub invariant-loop-slot : goal.invariant-loop-slot
invariant-loop-slot g l = record {
  long : length l.moments ≡ length l.slots;
  restored : take l.slot l.moments ≡ map moment_of (take l.slot l.slots);
}
