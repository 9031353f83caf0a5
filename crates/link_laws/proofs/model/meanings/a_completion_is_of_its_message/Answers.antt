use Rattle.link_simulation.proofs.Common.{refl}
use Rattle.link_laws.proofs.model.meanings.a_completion_is_of_its_message.Goals as goal

pub returns : goal.returns
returns c = refl
