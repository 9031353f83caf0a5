use Rattle.link_waiting.proofs.Common.{◌≡◌, ◌-◌, suc}
use Rattle.link_waiting.proofs.slots.link.Given as goal

abbrev pub invariant-loop-chains : goal.invariant-loop-chains
invariant-loop-chains l = record {
  stands : l.chains.now.stands ≡ l.initial.chains.now.stands;
  before : l.chains.before ≡ l.initial.chains.before;
}

abbrev pub decreases-loop-chains : goal.decreases-loop-chains
decreases-loop-chains l = suc l.pair - l.chains.now.owners
