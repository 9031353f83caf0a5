use Rattle.fair_routes.proofs.Common.{◌≡◌, ℕ, ◌*◌, ◌<◌, length, option_map, slice_index, at_level, frozen_in, weight_at}
use Rattle.fair_routes.proofs.Common.{level_at}
use Rattle.fair_routes.proofs.routes.weighted.rising.weigh.Given as goal

abbrev pub invariant-loop-flow : goal.invariant-loop-flow
invariant-loop-flow l = record {
  one_each : length l.level_of.items ≡ l.flow;
  levels_each : length l.levels.items ≡ l.flow;
  place : (k : ℕ) → k < l.flow → level_at l.level_of.items k ≡ option_map (λ _. k) (frozen_in l.part-items k);
  level : (k : ℕ) → k < l.flow
      → slice_index l.levels.items k ≡ at_level (frozen_in l.part-items) 0 k * weight_at l.weights k;
}
