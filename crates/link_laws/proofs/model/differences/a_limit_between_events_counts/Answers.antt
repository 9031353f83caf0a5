use Rattle.link_simulation.proofs.Common.{nat_cmp, nat_cmp_total, reduced, gcd_within}
use Rattle.link_laws.proofs.Examples.ComputedReplies.{evenly_by_first}
use Rattle.link_laws.proofs.Examples.ComputedDifferences.{never_agree}
use Rattle.link_laws.proofs.model.differences.a_limit_between_events_counts.Goals as goal

pub returns : goal.returns
unfolding reduced gcd_within
returns c = search (never_agree nat_cmp nat_cmp_total evenly_by_first 20 0)
