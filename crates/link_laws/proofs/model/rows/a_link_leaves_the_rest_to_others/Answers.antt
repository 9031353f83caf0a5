use Rattle.link_simulation.proofs.Common.{ℕ, cond, ◌==◌, nat_cmp, nat_cmp_total, reduced, gcd_within, World}
use Rattle.link_laws.proofs.Examples.ComputedReplies.{Shares, held, replied_so}
use Rattle.link_laws.proofs.model.rows.a_link_leaves_the_rest_to_others.Goals as goal

-- the first message has what its link allows
abbrev one_and_nine : World ℕ → Shares
one_and_nine w = record { per = 1; parts = λ place. cond (place == 0) 1_000_000_000 9_000_000_000 }

pub returns : goal.returns
unfolding reduced gcd_within
returns c = held (search (replied_so nat_cmp nat_cmp_total one_and_nine 20))
