use Rattle.link_simulation.proofs.Rule.Obeys.{obeys_alike}
use Rattle.link_laws.proofs.model.events.calls_do_the_same.Goals as goal

pub returns : goal.returns
returns g c = obeys_alike g.P.Ord.cmp g.met.P.Ord.total
