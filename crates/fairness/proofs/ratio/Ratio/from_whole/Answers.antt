use Rattle.fairness.proofs.Common.{arith, whole_IsReduced}
use Rattle.fairness.proofs.ratio.Ratio.from_whole.Goals as goal

pub invariant_of-result : goal.invariant_of-result
invariant_of-result c = record { positive = omega arith; reduced = whole_IsReduced c.args.n }
