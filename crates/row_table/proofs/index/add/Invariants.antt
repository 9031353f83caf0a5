use Rattle.row_table.proofs.Common.{◌≡◌, ◌-◌, suc}
use Rattle.row_table.proofs.index.add.Given as goal

abbrev pub invariant-loop-chains : goal.invariant-loop-chains
invariant-loop-chains l = record {
  stands : l.chains.now.stands ≡ l.initial.chains.now.stands;
  before : l.chains.before ≡ l.initial.chains.before;
}

abbrev pub decreases-loop-chains : goal.decreases-loop-chains
decreases-loop-chains l = suc l.owner - l.chains.now.owners
