use Rattle.fair_laws.proofs.Network.WeightLaws.{weights_of_one_change_nothing}
use Rattle.fair_laws.proofs.weighted.weights_of_one_change_nothing.Goals as goal

pub returns : goal.returns
returns c = weights_of_one_change_nothing
