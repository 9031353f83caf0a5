use Rattle.link_simulation.proofs.Laws.Replies.{sets_are_isolated}
use Rattle.link_laws.proofs.model.replies.replies_isolate_sets.Goals as goal

pub returns : goal.returns
returns g c = sets_are_isolated g.P.Ord.cmp g.met.P.Ord.total
