use Rattle.fairness.proofs.Common.{◌+◌}
use Rattle.fairness.proofs.ratio.numbers.+order_by_parts.Given as goal

abbrev pub decreases-order_by_parts : goal.decreases-order_by_parts
decreases-order_by_parts l = l.b + l.d
