use Rattle.chains.proofs.Common.{◌≡◌, now_of, rows_in, IsChained}
use Rattle.chains.proofs.Closing.{front}
use Rattle.chains.proofs.tables.Tables.relink_all.Given as goal

abbrev pub invariant-loop-row : goal.invariant-loop-row
invariant-loop-row l = record {
  links : l.self.links.saved ≡ l.initial.self.links.saved;
  ends : l.self.ends.saved ≡ l.initial.self.ends.saved;
  rows : rows_in (now_of l.self) ≡ rows_in (now_of l.initial.self);
  chained : IsChained (front l.row (now_of l.self));
}
