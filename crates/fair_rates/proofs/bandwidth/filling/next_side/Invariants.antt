use Rattle.fair_rates.proofs.Common.{ℕ, ◌+◌, ◌≤◌, List, length, sum_by, heap_items, heap_len, Side, frozen_at, IsQueue}
use Rattle.fair_rates.proofs.Common.{IsShareQueue, AreAbove}
use Rattle.fair_rates.proofs.bandwidth.filling.next_side.Given as goal

abbrev pub invariant-loop-least : goal.invariant-loop-least
invariant-loop-least l = record {
  sound : IsShareQueue (length l.level_of) (frozen_at l.levels l.level_of) (heap_items l.queue);
  queue : (sides : List Side) (scale : ℕ)
      → IsQueue sides scale (frozen_at l.levels l.level_of) (heap_items l.initial.queue)
      → IsQueue sides scale (frozen_at l.levels l.level_of) (heap_items l.queue);
  no_lower : (parts : ℕ) → AreAbove parts (heap_items l.initial.queue) → AreAbove parts (heap_items l.queue);
  fewer : heap_len l.queue ≤ heap_len l.initial.queue;
}

abbrev pub decreases-loop-least : goal.decreases-loop-least
decreases-loop-least l = sum_by (λ open_side. 1 + length open_side.0.rising.items) (heap_items l.queue)
