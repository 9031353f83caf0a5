use Rattle.fairness.proofs.Fairness.ClosedSides.{fair_rates_are_zero_where_closed}
use Rattle.fair_laws.proofs.rates.fair_rates_are_zero_where_closed.Goals as goal

pub returns : goal.returns
returns c = fair_rates_are_zero_where_closed
