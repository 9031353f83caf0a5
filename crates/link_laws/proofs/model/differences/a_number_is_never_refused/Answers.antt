use Rattle.link_simulation.proofs.Common.{arith, reduced, gcd_within}
use Rattle.link_laws.proofs.model.differences.a_number_is_never_refused.Goals as goal

pub returns-clause-limit : goal.returns-clause-limit
unfolding reduced gcd_within
returns-clause-limit c = grind arith

pub returns-clause-limit_link : goal.returns-clause-limit_link
unfolding reduced gcd_within
returns-clause-limit_link c = grind arith

pub returns-clause-enqueue : goal.returns-clause-enqueue
unfolding reduced gcd_within
returns-clause-enqueue c = grind arith

pub returns-clause-advance : goal.returns-clause-advance
unfolding reduced gcd_within
returns-clause-advance c = grind arith
