use Rattle.link_simulation.proofs.Common.{refl}
use Rattle.link_laws.proofs.model.meanings.what_has_no_limit_is_gone_at_once.Goals as goal

pub returns-clause-drained : goal.returns-clause-drained
returns-clause-drained c n left = refl

pub returns-clause-left : goal.returns-clause-left
returns-clause-left c = refl
