use Rattle.fair_laws.proofs.Fairness.ExistUnderCaps.{exist_under_caps}
use Rattle.fair_laws.proofs.rates.fair_amounts_exist_under_caps.Goals as goal

pub returns : goal.returns
returns g c = exist_under_caps g.P.Ord.cmp g.met.P.Ord.total
