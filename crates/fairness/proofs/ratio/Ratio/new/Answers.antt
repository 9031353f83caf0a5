use Rattle.fairness.proofs.Common.{arith}
use Rattle.fairness.proofs.Numbers.Fits.{worth_if_reduced}
use Rattle.fairness.proofs.ratio.Ratio.new.Goals as goal

pub returns-clause-value : goal.returns-clause-value
returns-clause-value c = worth_if_reduced _ _ (omega arith) c.lowest.ensures
