use Rattle.link_simulation.proofs.Common.{nat_cmp, nat_cmp_total, reduced, gcd_within, rules}
use Rattle.link_laws.proofs.Examples.ComputedReplies.{evenly}
use Rattle.link_laws.proofs.Examples.ComputedDifferences.{never_agree}
use Rattle.link_laws.proofs.model.differences.a_fault_that_is_not_met_does_not_agree.Goals as goal

pub returns-clause-moment : goal.returns-clause-moment
unfolding reduced gcd_within
returns-clause-moment c = search (rules, never_agree, nat_cmp_total)

pub returns-clause-dropped : goal.returns-clause-dropped
unfolding reduced gcd_within
returns-clause-dropped c = search (never_agree nat_cmp nat_cmp_total (evenly 1_000_000_000) 20 0)

pub returns-clause-id : goal.returns-clause-id
unfolding reduced gcd_within
returns-clause-id c = search (never_agree nat_cmp nat_cmp_total (evenly 1_000_000_000) 20 0)

pub returns-clause-another : goal.returns-clause-another
unfolding reduced gcd_within
returns-clause-another c = search (never_agree nat_cmp nat_cmp_total (evenly 1_000_000_000) 20 0)
