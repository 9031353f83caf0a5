use Rattle.fair_laws.proofs.Network.WeightLaws.{the_order_of_flows_does_not_matter_by_weight}
use Rattle.fair_laws.proofs.weighted.the_order_of_flows_does_not_matter_by_weight.Goals as goal

pub returns : goal.returns
returns c = the_order_of_flows_does_not_matter_by_weight
