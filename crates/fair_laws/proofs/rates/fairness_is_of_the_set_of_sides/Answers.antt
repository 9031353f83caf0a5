use Rattle.fairness.proofs.Fairness.SameSides.{fairness_is_of_the_set}
use Rattle.fair_laws.proofs.rates.fairness_is_of_the_set_of_sides.Goals as goal

pub returns : goal.returns
returns c = fairness_is_of_the_set
