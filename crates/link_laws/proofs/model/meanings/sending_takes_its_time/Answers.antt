use Rattle.link_simulation.proofs.Laws.BytesStand.{sending_takes}
use Rattle.link_laws.proofs.model.meanings.sending_takes_its_time.Goals as goal

pub returns : goal.returns
returns g c = sending_takes g.P.Ord.cmp
