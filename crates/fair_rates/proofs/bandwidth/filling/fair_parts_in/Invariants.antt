use Rattle.fair_rates.proofs.Common.{◌≡◌, ◌+◌, ◌<◌, ◌≤◌, All, length, map, heap_items, heap_len, product, side_of, sum_by}
use Rattle.fair_rates.specs.Filling.States.{rises}
use Rattle.fair_rates.proofs.Filling.Steps.{IsCourse}
use Rattle.fair_rates.proofs.bandwidth.filling.fair_parts_in.Given as goal

abbrev pub invariant-loop-queue : goal.invariant-loop-queue
invariant-loop-queue l = record {
  course : IsCourse (map side_of l.fn.sides.items) (product l.found.growth.items) l.found.levels.items
      l.found.level_of.items (heap_items l.queue);
  grown : l.found.scale ≡ product l.found.growth.items;
  factors : All (λ factor. 0 < factor) l.found.growth.items;
  one_each : length l.found.level_of.items ≡ l.count;
  left : l.left ≡ sum_by rises l.found.level_of.items;
  few : length l.found.levels.items + heap_len l.queue ≤ length l.fn.sides.items;
}

abbrev pub decreases-loop-queue : goal.decreases-loop-queue
decreases-loop-queue l = heap_len l.queue
