use Rattle.fair_routes.proofs.Common.{◌<◌, All, take}
use Rattle.fair_routes.proofs.routes.weighted.check_weights.Given as goal

abbrev pub invariant-loop-flow : goal.invariant-loop-flow
invariant-loop-flow l = All (λ weight. 0 < weight) (take l.flow l.weights)
