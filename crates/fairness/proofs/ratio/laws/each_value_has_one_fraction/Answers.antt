use Rattle.fairness.proofs.Numbers.Ratio.{one_ratio}
use Rattle.fairness.proofs.ratio.laws.each_value_has_one_fraction.Goals as goal

pub returns : goal.returns
returns c = one_ratio
