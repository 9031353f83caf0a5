use Rattle.link_simulation.proofs.Common.{nat_cmp, nat_cmp_total, reduced, gcd_within}
use Rattle.link_laws.proofs.Examples.ComputedRule.{agrees_by_rule, no_hint, shared}
use Rattle.link_laws.proofs.Examples.ComputedReplies.{held}
use Rattle.link_laws.proofs.model.rows.a_message_may_arrive_at_the_last_moment.Goals as goal

pub returns : goal.returns
unfolding reduced gcd_within
returns c = held (search (agrees_by_rule nat_cmp nat_cmp_total (shared 1_000_000_000) no_hint 20))
