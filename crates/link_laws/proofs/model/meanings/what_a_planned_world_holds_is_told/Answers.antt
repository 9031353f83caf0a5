use Rattle.link_simulation.proofs.Common.{refl, reduced, gcd_within}
use Rattle.link_laws.proofs.model.meanings.what_a_planned_world_holds_is_told.Goals as goal

pub returns-clause-drained : goal.returns-clause-drained
unfolding reduced gcd_within
returns-clause-drained c = refl
