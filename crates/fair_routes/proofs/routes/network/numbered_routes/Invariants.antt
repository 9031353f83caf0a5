use Rattle.fair_routes.proofs.Common.{map, ℕ, AllZip, IsNumbered, deref}
use Rattle.std.proofs.Common.{Vec, Global}
use Rattle.fair_routes.proofs.routes.network.numbered_routes.Given as goal

-- the routes so far
abbrev pub invariant-loop-route : goal.invariant-loop-route
invariant-loop-route l =
    AllZip (IsNumbered l.links) (map (λ (route : Vec ℕ Global). route.items) (map deref l.yielded))
    (map (λ (route : Vec ℕ Global). route.items) l.numbered.items)
