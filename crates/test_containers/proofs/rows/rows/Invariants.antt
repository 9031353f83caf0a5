use Rattle.std.proofs.Common.{◌≡◌, ◌<◌, ◌++◌, Some, IfSome, length}
use Rattle.chains.specs.Chains.{owner_of, rows_of, rows_on}
use Rattle.test_containers.proofs.rows.rows.Given as goal

abbrev pub invariant-loop-at : goal.invariant-loop-at
invariant-loop-at l = record {
  all : l.rows.items ++ rows_on l.chains.now l.owner l.at ≡ rows_of l.chains.now l.owner;
  stands : IfSome l.at (λ row. owner_of l.chains.now row ≡ Some l.owner);
  within : IfSome l.at (λ row. row < length l.chains.now.stands);
}

abbrev pub decreases-loop-at : goal.decreases-loop-at
decreases-loop-at l = length (rows_on l.chains.now l.owner l.at)
