use Rattle.link_waiting.proofs.Common.{◌≡◌, ℕ, ◌≤◌, ◌-◌, suc, length, moment_at}
use Rattle.link_waiting.proofs.slots.make_room.Given as goal

abbrev pub invariant-loop-sinces : goal.invariant-loop-sinces
invariant-loop-sinces l = record {
  same : (at : ℕ) → moment_at l.sinces.items at ≡ moment_at l.initial.sinces.items at;
  moments : l.moments ≡ l.sinces.items;
  more : length l.initial.sinces.items ≤ length l.sinces.items;
  before : l.sinces.before ≡ l.initial.sinces.before;
}

abbrev pub decreases-loop-sinces : goal.decreases-loop-sinces
decreases-loop-sinces l = suc l.pair - length l.sinces.items
