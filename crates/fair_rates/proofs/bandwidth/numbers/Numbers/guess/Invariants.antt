use Rattle.fair_rates.proofs.Common.{◌≤◌}
use Rattle.fair_rates.proofs.bandwidth.numbers.Numbers.guess.Given as goal

abbrev pub invariant-loop-shift : goal.invariant-loop-shift
invariant-loop-shift g l = l.shift ≤ 11

abbrev pub decreases-loop-shift : goal.decreases-loop-shift
decreases-loop-shift g l = l.shift
