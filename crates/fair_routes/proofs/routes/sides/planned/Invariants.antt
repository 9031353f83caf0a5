use Rattle.fair_routes.proofs.Common.{◌≡◌, map, side_of}
use Rattle.fair_rates.specs.Sides.SideOf.{side_of as planner_side_of}
use Rattle.fair_routes.proofs.routes.sides.planned.Given as goal

abbrev pub invariant-loop-link : goal.invariant-loop-link
invariant-loop-link l = map planner_side_of l.sides.items ≡ map side_of l.yielded
