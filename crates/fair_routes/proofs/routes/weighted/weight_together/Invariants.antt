use Rattle.fair_routes.proofs.Common.{◌≡◌, ◌<◌, ◌^◌, sum_by, take, weight_at}
use Rattle.fair_routes.proofs.routes.weighted.weight_together.Given as goal

abbrev pub invariant-loop-user : goal.invariant-loop-user
invariant-loop-user l = record {
  sum : l.together ≡ sum_by (weight_at l.weights) (take l.user-index l.users);
  fits : l.together < 2 ^ 64;
}
