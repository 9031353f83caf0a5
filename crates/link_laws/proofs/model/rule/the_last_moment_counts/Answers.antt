use Rattle.link_simulation.proofs.Common.{nat_cmp, nat_cmp_total, reduced, gcd_within}
use Rattle.link_laws.proofs.Examples.ComputedRule.{no_hint, obeyed_so, shared}
use Rattle.link_laws.proofs.model.rule.the_last_moment_counts.Goals as goal

pub returns : goal.returns
unfolding reduced gcd_within
returns c = search (obeyed_so nat_cmp nat_cmp_total (shared 1_000_000_000) no_hint 20)
