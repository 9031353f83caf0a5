use Rattle.link_simulation.proofs.Laws.BytesStand.{advance_keeps_to_caps}
use Rattle.link_laws.proofs.model.simulated.an_advance_keeps_to_caps.Goals as goal

pub returns : goal.returns
returns g c = advance_keeps_to_caps g.P.Ord.cmp g.met.P.Ord.total
