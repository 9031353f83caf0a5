use Rattle.fairness.proofs.Numbers.Draining.{spent_from_least}
use Rattle.fairness.proofs.bandwidth.time.nothing_is_left_from_the_least_time_on.Goals as goal

pub returns : goal.returns
returns c = spent_from_least
