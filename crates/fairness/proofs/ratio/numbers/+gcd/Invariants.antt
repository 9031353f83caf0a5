use Rattle.fairness.proofs.ratio.numbers.+gcd.Given as goal

abbrev pub decreases-gcd : goal.decreases-gcd
decreases-gcd l = l.b
