use Rattle.p2p_simulated_c.proofs.Common.{◌<◌, All, take}
use Rattle.p2p_simulated_c.proofs.routes.stray.Given as goal

abbrev pub invariant-loop-hop : goal.invariant-loop-hop
invariant-loop-hop l = All (λ hop. hop.flow < l.flows) (take l.hop-index l.hops)
