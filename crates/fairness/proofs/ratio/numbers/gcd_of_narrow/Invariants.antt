use Rattle.fairness.proofs.Common.{◌≡◌, gcd}
use Rattle.fairness.proofs.ratio.numbers.gcd_of_narrow.Given as goal

abbrev pub invariant-loop-rest : goal.invariant-loop-rest
invariant-loop-rest l = gcd l.last l.rest ≡ gcd l.fn.a l.fn.b

abbrev pub decreases-loop-rest : goal.decreases-loop-rest
decreases-loop-rest l = l.rest
