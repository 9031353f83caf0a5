use Rattle.link_waiting.proofs.Common.{◌≡◌, take, length}
use Rattle.link_waiting.proofs.slots.restore.Given as goal

abbrev pub invariant-loop-pair : goal.invariant-loop-pair
invariant-loop-pair l = record {
  long : length l.moments ≡ length l.sinces;
  back : take l.pair l.moments ≡ take l.pair l.sinces;
}
