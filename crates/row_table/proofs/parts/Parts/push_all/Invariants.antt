use Rattle.row_table.proofs.Common.{◌≡◌, ◌++◌, live, Stands, Marked, reverse}
use Rattle.row_table.proofs.parts.Parts.push_all.Given as goal

abbrev pub invariant-loop-row : goal.invariant-loop-row
invariant-loop-row g l = record {
  rows : live l.self.slots.items ++ reverse l.rows.items ≡ live l.initial.self.slots.items ++ reverse l.initial.rows.items;
  before : l.self.slots.before ≡ l.initial.self.slots.before;
  stands : Stands l.self;
  marked : Marked l.self;
}

abbrev pub decreases-loop-row : goal.decreases-loop-row
decreases-loop-row g l = goal.left-loop-row g l
