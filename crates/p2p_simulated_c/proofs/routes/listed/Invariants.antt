use Rattle.p2p_simulated_c.proofs.Common.{◌≡◌, take, lists, routes_of}
use Rattle.p2p_simulated_c.proofs.routes.listed.Given as goal

abbrev pub invariant-loop-hop : goal.invariant-loop-hop
invariant-loop-hop l = lists l.routes.items ≡ routes_of l.flows (take l.hop-index l.hops)
