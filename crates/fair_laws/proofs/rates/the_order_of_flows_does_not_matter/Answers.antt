use Rattle.fair_laws.proofs.Fairness.Order.{order_does_not_matter}
use Rattle.fair_laws.proofs.rates.the_order_of_flows_does_not_matter.Goals as goal

pub returns : goal.returns
returns g c = order_does_not_matter g.P.Ord.cmp g.met.P.Ord.total
