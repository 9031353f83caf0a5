use Rattle.link_simulation.proofs.Common.{arith, refl}
use Rattle.link_laws.proofs.model.replies.calls_may_advance_first.Goals as goal

pub returns-clause-others : goal.returns-clause-others
returns-clause-others c = (refl, (refl, (omega arith, (omega arith, (refl, (refl, tt))))))

pub returns-clause-limits : goal.returns-clause-limits
returns-clause-limits c = (refl, (refl, (omega arith, (refl, tt))))
