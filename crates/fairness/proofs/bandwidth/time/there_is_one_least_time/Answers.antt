use Rattle.fairness.proofs.Numbers.LeastTime.{some_least}
use Rattle.fairness.proofs.bandwidth.time.there_is_one_least_time.Goals as goal

pub returns-clause-some : goal.returns-clause-some
returns-clause-some c = some_least
