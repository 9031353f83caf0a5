use Rattle.fair_laws.proofs.Network.Peers.{linked_is_over_three_links}
use Rattle.fair_laws.proofs.routes.flows_between_peers_use_three_links.Goals as goal

pub returns : goal.returns
returns g c = linked_is_over_three_links g.P.Ord.cmp g.met.P.Ord.total
