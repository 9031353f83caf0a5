use Rattle.fairness.proofs.Sides.CapSides.{sides_are_of_the_caps}
use Rattle.fair_laws.proofs.rates.sides_are_of_the_caps.Goals as goal

pub returns : goal.returns
returns g c = sides_are_of_the_caps g.P.Ord.cmp g.met.P.Ord.total
