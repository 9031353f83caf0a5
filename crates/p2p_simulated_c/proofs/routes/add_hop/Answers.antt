use Rattle.p2p_simulated_c.proofs.Common.{arith}
use Rattle.std.proofs.lemmas.Grind.{common_steps}
use Rattle.p2p_simulated_c.proofs.Hops.{hop_added}
use Rattle.p2p_simulated_c.proofs.routes.add_hop.Goals as goal

pub returns : goal.returns
returns c =
    hop_added c.args.routes.now c.args.hop.flow c.args.hop.link c.index-routes-hop.result c.push.new.self c.requires
    c.index-routes-hop.is (grind (arith, common_steps, c.in_ok-push.ensures.items, c.index-routes-hop.is))
