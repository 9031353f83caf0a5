use Rattle.link_simulation.proofs.Rule.Limit.{new_stands}
use Rattle.link_laws.proofs.model.events.new_worlds_agree.Goals as goal

pub returns : goal.returns
returns g c = new_stands g.P.Ord.cmp g.met.P.Ord.total
