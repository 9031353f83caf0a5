use Rattle.fair_routes.proofs.Network.WeightedMaxMin.{max_min_by_weight}
use Rattle.fair_laws.proofs.weighted.rates_by_weight_are_max_min.Goals as goal

pub returns : goal.returns
returns c = max_min_by_weight
