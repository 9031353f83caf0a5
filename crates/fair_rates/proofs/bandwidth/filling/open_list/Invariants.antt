use Rattle.fair_rates.proofs.Common.{◌≡◌, ◌+◌, ◌≤◌, ◌++◌, List, length, AreOpened}
use Rattle.fair_rates.specs.declared.bandwidth.sides.Side.{Side}
use Rattle.fair_rates.proofs.bandwidth.filling.open_list.Given as goal

abbrev pub invariant-loop-side : goal.invariant-loop-side
invariant-loop-side l = record {
  opened : (taken : List Side) × (l.fn.sides.items ≡ l.sides.items ++ taken) × AreOpened taken l.opens.items;
  count : length l.opens.items + length l.sides.items ≤ length l.fn.sides.items;
}

abbrev pub decreases-loop-side : goal.decreases-loop-side
decreases-loop-side l = length l.sides.items
