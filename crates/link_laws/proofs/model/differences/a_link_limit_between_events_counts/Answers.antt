use Rattle.link_simulation.proofs.Common.{Some, None, ℕ, nat_cmp, nat_cmp_total, reduced, gcd_within, World}
use Rattle.link_laws.proofs.Examples.ComputedReplies.{Shares}
use Rattle.link_laws.proofs.Examples.ComputedDifferences.{never_agree}
use Rattle.link_laws.proofs.model.differences.a_link_limit_between_events_counts.Goals as goal

-- the message has what its link allows
abbrev by_link : World ℕ → Shares
by_link w = record { per = 1; parts = λ place. elim (w.caps.link 1 2) [ None ↦ 1_000_000_000 | Some cap ↦ cap ] }

pub returns : goal.returns
unfolding reduced gcd_within
returns c = search (never_agree nat_cmp nat_cmp_total by_link 20 0)
