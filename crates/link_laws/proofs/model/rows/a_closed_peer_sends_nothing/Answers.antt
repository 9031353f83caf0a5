use Rattle.link_simulation.proofs.Common.{nat_cmp, nat_cmp_total, reduced, gcd_within}
use Rattle.link_laws.proofs.Examples.ComputedReplies.{held, replied_so, evenly_by_first}
use Rattle.link_laws.proofs.model.rows.a_closed_peer_sends_nothing.Goals as goal

pub returns : goal.returns
unfolding reduced gcd_within
returns c = held (search (replied_so nat_cmp nat_cmp_total (evenly_by_first) 20))
