use Rattle.link_simulation.proofs.Common.{[], ◌∷◌, refl, nat_cmp, nat_cmp_total, reduced, gcd_within, new_world}
use Rattle.link_simulation.proofs.Common.{call_enqueue, call_next}
use Rattle.link_laws.proofs.Examples.ComputedReplies.{answers_agree, evenly}
use Rattle.link_laws.proofs.model.rows.a_refused_call_counts_as_not_made.Goals as goal
use Rattle.link_laws.specs.Examples.Rows.{message}

pub returns : goal.returns
unfolding reduced gcd_within
returns c = λ turn. (
  tt,
  answers_agree nat_cmp nat_cmp_total (evenly 1_000_000_000) 20 (call_enqueue 0 (message 1 2 1 0) ∷ call_next ∷ [])
      (new_world 0) refl,
)
