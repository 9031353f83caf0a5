use Rattle.fair_routes.proofs.Common.{map, take, side_of, HaveLittleWeight}
use Rattle.fair_routes.proofs.routes.weighted.check_sides.Given as goal

abbrev pub invariant-loop-side : goal.invariant-loop-side
invariant-loop-side l = HaveLittleWeight l.weights (map side_of (take l.side-index l.sides))
