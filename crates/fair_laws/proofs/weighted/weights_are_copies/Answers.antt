use Rattle.fair_laws.proofs.Network.Copied.{weights_are_copies}
use Rattle.fair_laws.proofs.weighted.weights_are_copies.Goals as goal

pub returns : goal.returns
returns c = weights_are_copies
