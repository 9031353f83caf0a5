use Rattle.fair_laws.proofs.Fairness.WithinCap.{keeps_to_its_cap}
use Rattle.fair_laws.proofs.rates.a_side_keeps_to_its_cap.Goals as goal

pub returns : goal.returns
returns g c = keeps_to_its_cap g.P.Ord.cmp g.met.P.Ord.total
