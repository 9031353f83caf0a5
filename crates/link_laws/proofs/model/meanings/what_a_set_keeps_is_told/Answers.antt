use Rattle.link_simulation.proofs.Common.{◌≡◌, true, false, refl}
use Rattle.link_laws.proofs.model.meanings.what_a_set_keeps_is_told.Goals as goal

pub returns-clause-equal_peers : goal.returns-clause-equal_peers
returns-clause-equal_peers c h = let clash : true ≡ false = h 1 3 refl in cc
