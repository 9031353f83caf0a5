use Rattle.std.proofs.Common.{◌≡◌, ◌+◌, ◌-◌, length}
use Rattle.link_pairs.specs.Pairs.Room.{IsFilledUp}
use Rattle.link_pairs.proofs.room.fill_up_to.Given as goal

abbrev pub invariant-loop-item : goal.invariant-loop-item
invariant-loop-item g l = record {
  filled : IsFilledUp l.initial.items.items l.item l.place l.items.items;
  before : l.items.before ≡ l.initial.items.before;
}

abbrev pub decreases-loop-item : goal.decreases-loop-item
decreases-loop-item g l = (l.place + 1) - length l.items.items
