use Rattle.link_simulation.proofs.Rule.Settling.{settles_alike}
use Rattle.link_laws.proofs.model.events.settling_is_finishing.Goals as goal

pub returns : goal.returns
returns g c = λ t p w course same event. settles_alike g.P.Ord.cmp g.met.P.Ord.total event w same
