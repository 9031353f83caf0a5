use Rattle.fairness.proofs.Fairness.MaxMin.{fair_is_max_min, fair_rates_are_max_min}
use Rattle.fair_laws.proofs.rates.fair_rates_are_max_min.Goals as goal

pub returns-clause-amounts : goal.returns-clause-amounts
returns-clause-amounts c = fair_is_max_min

pub returns-clause-rates : goal.returns-clause-rates
returns-clause-rates c = fair_rates_are_max_min
