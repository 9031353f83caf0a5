use Rattle.link_simulation.proofs.Common.{nat_cmp, nat_cmp_total, reduced, gcd_within}
use Rattle.link_laws.proofs.Examples.ComputedReplies.{evenly}
use Rattle.link_laws.proofs.Examples.ComputedDifferences.{never_agree}
use Rattle.link_laws.proofs.model.differences.a_fault_that_is_met_is_not_passed_over.Goals as goal

pub returns-clause-moment : goal.returns-clause-moment
unfolding reduced gcd_within
returns-clause-moment c = search (never_agree nat_cmp nat_cmp_total (evenly 1_000_000_000) 20 0)

pub returns-clause-id : goal.returns-clause-id
unfolding reduced gcd_within
returns-clause-id c = search (never_agree nat_cmp nat_cmp_total (evenly 1_000_000_000) 20 18_446_744_073_709_551_615)
