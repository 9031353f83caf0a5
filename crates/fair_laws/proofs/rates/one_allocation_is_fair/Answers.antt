use Rattle.fairness.proofs.Fairness.OneAllocation.{one_allocation}
use Rattle.fair_laws.proofs.rates.one_allocation_is_fair.Goals as goal

pub returns : goal.returns
returns c = one_allocation
