use Rattle.link_simulation.proofs.Rule.Settling.{settle_is_finish}
use Rattle.link_laws.proofs.model.instants.settling_is_a_queue.Goals as goal

pub returns : goal.returns
returns g c = settle_is_finish g.P.Ord.cmp g.met.P.Ord.total
