-- A route so far.
use Rattle.fair_routes.proofs.Common.{take, IsNumbered}
use Rattle.fair_routes.proofs.routes.network.numbered_route.Given as goal

abbrev pub invariant-loop-link : goal.invariant-loop-link
invariant-loop-link l = IsNumbered l.links (take l.link-index l.route) l.numbered.items
