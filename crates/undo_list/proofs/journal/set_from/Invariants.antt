use Rattle.std.proofs.Common.{◌≡◌, ◌-◌, ◌++◌, take, replicate, vec_len}
use Rattle.undo_list.proofs.journal.set_from.Given as goal

abbrev pub invariant-loop-at : goal.invariant-loop-at
invariant-loop-at l = record {
  long : vec_len l.saved ≡ vec_len l.initial.saved;
  clear : take l.at l.saved.items ≡ take l.from l.initial.saved.items ++ replicate (l.at - l.from) l.flag;
}
