use Rattle.fair_routes.proofs.Common.{◌≡◌, [], map, replicate}
use Rattle.fair_routes.proofs.routes.sides.nobody.Given as goal

abbrev pub invariant-loop : goal.invariant-loop
invariant-loop l = map (λ flows. flows.items) l.users.items ≡ replicate l.counter []
