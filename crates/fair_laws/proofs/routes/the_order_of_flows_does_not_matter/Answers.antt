use Rattle.fair_laws.proofs.Network.Reordered.{the_order_of_flows_does_not_matter}
use Rattle.fair_laws.proofs.routes.the_order_of_flows_does_not_matter.Goals as goal

pub returns : goal.returns
returns c = the_order_of_flows_does_not_matter
