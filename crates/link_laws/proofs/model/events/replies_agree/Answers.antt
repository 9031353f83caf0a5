use Rattle.link_simulation.proofs.Rule.Agreeing.{obeyed_agree}
use Rattle.link_laws.proofs.model.events.replies_agree.Goals as goal

pub returns : goal.returns
returns g c = obeyed_agree g.P.Ord.cmp g.met.P.Ord.total
