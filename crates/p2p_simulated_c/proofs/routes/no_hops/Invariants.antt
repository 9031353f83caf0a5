use Rattle.p2p_simulated_c.proofs.Common.{◌≡◌, [], replicate, lists}
use Rattle.p2p_simulated_c.proofs.routes.no_hops.Given as goal

abbrev pub invariant-loop : goal.invariant-loop
invariant-loop l = lists l.routes.items ≡ replicate l.counter []
