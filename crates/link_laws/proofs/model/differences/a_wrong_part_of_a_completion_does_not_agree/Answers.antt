use Rattle.link_simulation.proofs.Common.{nat_cmp, nat_cmp_total, reduced, gcd_within}
use Rattle.link_laws.proofs.Examples.ComputedReplies.{evenly}
use Rattle.link_laws.proofs.Examples.ComputedDifferences.{never_agree}
use Rattle.link_laws.proofs.model.differences.a_wrong_part_of_a_completion_does_not_agree.Goals as goal

pub returns-clause-origin : goal.returns-clause-origin
unfolding reduced gcd_within
returns-clause-origin c = search (never_agree nat_cmp nat_cmp_total (evenly 1_000_000_000) 20 0)

pub returns-clause-recipient : goal.returns-clause-recipient
unfolding reduced gcd_within
returns-clause-recipient c = search (never_agree nat_cmp nat_cmp_total (evenly 1_000_000_000) 20 0)

pub returns-clause-channel : goal.returns-clause-channel
unfolding reduced gcd_within
returns-clause-channel c = search (never_agree nat_cmp nat_cmp_total (evenly 1_000_000_000) 20 0)

pub returns-clause-bytes : goal.returns-clause-bytes
unfolding reduced gcd_within
returns-clause-bytes c = search (never_agree nat_cmp nat_cmp_total (evenly 1_000_000_000) 20 0)

pub returns-clause-done : goal.returns-clause-done
unfolding reduced gcd_within
returns-clause-done c = search (never_agree nat_cmp nat_cmp_total (evenly 1_000_000_000) 20 0)

pub returns-clause-dropped : goal.returns-clause-dropped
unfolding reduced gcd_within
returns-clause-dropped c = search (never_agree nat_cmp nat_cmp_total (evenly 1_000_000_000) 20 0)

pub returns-clause-gone : goal.returns-clause-gone
unfolding reduced gcd_within
returns-clause-gone c = search (never_agree nat_cmp nat_cmp_total (evenly 1_000_000_000) 20 0)

pub returns-clause-twice : goal.returns-clause-twice
unfolding reduced gcd_within
returns-clause-twice c = search (never_agree nat_cmp nat_cmp_total (evenly 1_000_000_000) 20 0)
