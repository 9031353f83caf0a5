use Rattle.fair_routes.proofs.Common.{◌≡◌, ℕ, ◌<◌, All, length, map, count_by, is_none, product, side_of, IsFilledTo}
use Rattle.fair_routes.proofs.Common.{frozen_in, weighted}
use Rattle.fair_routes.proofs.routes.weighted.fill.Given as goal

abbrev pub invariant-loop-rising : goal.invariant-loop-rising
invariant-loop-rising l = record {
  some : 0 < l.rising.scale;
  grown : l.rising.scale ≡ product l.rising.growth.items;
  factors : All (λ factor. 0 < factor) l.rising.growth.items;
  one_each : length l.rising.parts.items ≡ length l.weights;
  course : (level : ℕ) × IsFilledTo (map (weighted l.weights) (map side_of l.sides)) l.rising.scale
      (frozen_in l.rising.parts.items) level;
}

abbrev pub decreases-loop-rising : goal.decreases-loop-rising
decreases-loop-rising l = count_by is_none l.rising.parts.items
