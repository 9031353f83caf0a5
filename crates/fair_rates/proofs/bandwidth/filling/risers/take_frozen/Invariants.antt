use Rattle.fair_rates.proofs.Common.{◌≡◌, ℕ, ◌-◌, ◌<◌, ◌≤◌, None, length, get_or, frozen_at, HaveNoMore}
use Rattle.fair_rates.specs.Filling.States.{HaveBeenCounted}
use Rattle.fair_rates.proofs.bandwidth.filling.risers.take_frozen.Given as goal

abbrev pub invariant-loop-place : goal.invariant-loop-place
invariant-loop-place l = record {
  counted : HaveBeenCounted (length l.level_of) (frozen_at l.levels l.level_of) l.initial.slack l.initial.rising.items
      l.slack l.rising.items;
  no_more : HaveNoMore (frozen_at l.levels l.level_of) l.slack l.rising.items;
  some : 0 < length l.rising.items;
  passed : (k d : ℕ) → k < l.place → frozen_at l.levels l.level_of (get_or l.rising.items k d) ≡ None;
  within : l.place ≤ length l.rising.items;
}

abbrev pub decreases-loop-place : goal.decreases-loop-place
decreases-loop-place l = length l.rising.items - l.place
