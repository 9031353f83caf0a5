use Rattle.link_simulation.proofs.Common.{ℕ, nat_cmp, nat_cmp_total, reduced, gcd_within, World}
use Rattle.link_laws.proofs.Examples.ComputedReplies.{Shares, held, replied_so}
use Rattle.link_laws.proofs.model.rows.both_caps_of_a_limit_count.Goals as goal

-- each message has a cap of its own
abbrev one_each : World ℕ → Shares
one_each w = record { per = 1; parts = λ place. 1_000_000_000 }

pub returns : goal.returns
unfolding reduced gcd_within
returns c = held (search (replied_so nat_cmp nat_cmp_total one_each 20))
