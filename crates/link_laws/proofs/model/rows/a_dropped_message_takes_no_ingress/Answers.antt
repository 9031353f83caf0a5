use Rattle.link_simulation.proofs.Common.{ℕ, nat_cmp, nat_cmp_total, reduced, gcd_within, World}
use Rattle.link_laws.proofs.Examples.ComputedReplies.{Shares, held, replied_so}
use Rattle.link_laws.proofs.model.rows.a_dropped_message_takes_no_ingress.Goals as goal

-- each has a byte a nanosecond
abbrev one_each : World ℕ → Shares
one_each w = record { per = 1; parts = λ place. 1_000_000_000 }

pub returns : goal.returns
unfolding reduced gcd_within
returns c = held (search (replied_so nat_cmp nat_cmp_total one_each 20))
