use Rattle.link_simulation.proofs.Common.{refl}
use Rattle.link_laws.proofs.model.meanings.all_that_an_origin_has_to_send_counts.Goals as goal

pub returns : goal.returns
returns c = refl
