use Rattle.row_table.proofs.Common.{◌≡◌, ◌++◌, length, live, Stands, Marked, reverse}
use Rattle.row_table.proofs.parts.Parts.pop_new.Given as goal

abbrev pub invariant-loop-self : goal.invariant-loop-self
invariant-loop-self g l = record {
  rows : live l.self.slots.items ++ reverse l.rows.items ≡ live l.initial.self.slots.items ++ reverse l.initial.rows.items;
  before : l.self.slots.before ≡ l.initial.self.slots.before;
  stands : Stands l.self;
  marked : Marked l.self;
}

abbrev pub decreases-loop-self : goal.decreases-loop-self
decreases-loop-self g l = length l.self.slots.items
