use Rattle.link_simulation.proofs.Common.{Some, None, refl, arith, nat_cmp, nat_cmp_total, reduced, gcd_within}
use Rattle.link_simulation.proofs.Common.{new_world, NextIs}
use Rattle.link_laws.proofs.Examples.ComputedReplies.{evenly, next_so}
use Rattle.link_laws.proofs.Examples.ComputedDifferences.{never_agree}
use Rattle.link_simulation.proofs.Simulation.OneNext.{next_is_one}
use Rattle.link_simulation.proofs.Simulation.Sound.{new_world_sound}
use Rattle.link_laws.proofs.model.differences.what_comes_later_counts.Goals as goal

-- in a new world no event comes
none_comes : NextIs nat_cmp (new_world 0) (Some 1) → ⊥
none_comes is =
    let clash = next_is_one nat_cmp nat_cmp_total (new_world 0) None (Some 1)
    (new_world_sound nat_cmp nat_cmp_total 0).positive
    (next_so nat_cmp nat_cmp_total (evenly 1_000_000_000) 0 (new_world 0) refl) is in
    cc

pub returns-clause-refused : goal.returns-clause-refused
returns-clause-refused c agrees = none_comes (agrees (omega arith)).1.0

pub returns-clause-done : goal.returns-clause-done
unfolding reduced gcd_within
returns-clause-done c = search (never_agree nat_cmp nat_cmp_total (evenly 1_000_000_000) 20 0)

pub returns-clause-next : goal.returns-clause-next
returns-clause-next c agrees = none_comes agrees.1.0
