use Rattle.link_simulation.proofs.Common.{cond, length, ℕ, List, ◌==◌, nat_cmp, nat_cmp_total, reduced, gcd_within}
use Rattle.link_simulation.proofs.Common.{Message}
use Rattle.link_laws.proofs.Examples.ComputedRule.{agrees_by_rule, shared}
use Rattle.link_laws.proofs.Examples.ComputedReplies.{held}
use Rattle.link_laws.proofs.model.rows.moments_are_rounded_up.Goals as goal

-- the first byte alone would take a seventh of a second
abbrev first_moment : ℕ → List (Message ℕ) → ℕ
first_moment t ms = cond (t == 0) (cond (length ms == 1) 142_857_143 285_714_286) 428_571_429

pub returns : goal.returns
unfolding reduced gcd_within
returns c = held (search (agrees_by_rule nat_cmp nat_cmp_total (shared 7) first_moment 3))
