use Rattle.chains.proofs.Common.{◌≡◌, length, take, replicate, no_end}
use Rattle.chains.proofs.tables.clear_ends.Given as goal

abbrev pub invariant-loop-owner : goal.invariant-loop-owner
invariant-loop-owner l = record {
  long : length l.ends.items ≡ length l.initial.ends.items;
  saved : l.ends.saved ≡ l.initial.ends.saved;
  none : take l.owner l.ends.items ≡ replicate l.owner no_end;
}
