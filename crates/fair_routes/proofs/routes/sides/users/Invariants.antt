use Rattle.fair_routes.proofs.Common.{map, take, AreListed, AreUsers}
use Rattle.fair_routes.proofs.routes.sides.users.Given as goal

abbrev pub invariant-loop-flow : goal.invariant-loop-flow
invariant-loop-flow l = record {
  are : AreUsers l.links (map (λ route. route.items) (take l.flow l.routes)) l.users.items;
  listed : AreListed l.links (map (λ route. route.items) (take l.flow l.routes));
}
