use Rattle.link_simulation.proofs.Common.{nat_cmp, nat_cmp_total, reduced, gcd_within}
use Rattle.link_laws.proofs.Examples.ComputedReplies.{held, replied_so, evenly}
use Rattle.link_laws.proofs.model.rows.completions_come_in_order_of_start.Goals as goal

pub returns : goal.returns
unfolding reduced gcd_within
returns c = held (search (replied_so nat_cmp nat_cmp_total (evenly 1_000_000_000) 20))
