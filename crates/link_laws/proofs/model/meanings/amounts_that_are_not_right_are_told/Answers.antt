use Rattle.link_simulation.proofs.Common.{refl, arith, reduced, gcd_within}
use Rattle.link_laws.proofs.model.meanings.amounts_that_are_not_right_are_told.Goals as goal

pub returns-clause-half : goal.returns-clause-half
unfolding reduced gcd_within
returns-clause-half c = record { positive = omega arith; lowest = refl }

pub returns-clause-quarters : goal.returns-clause-quarters
unfolding reduced gcd_within
returns-clause-quarters c h = cc
