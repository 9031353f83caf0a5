use Rattle.link_simulation.proofs.Common.{add-one}
use Rattle.link_simulation.proofs.Simulation.Stretch.{stretch}
use Rattle.link_laws.proofs.model.time.a_quiet_stretch_is_one_drain.Goals as goal

pub returns : goal.returns
returns g c = search (add-one, stretch)
