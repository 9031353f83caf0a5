use Rattle.link_simulation.proofs.Rule.RepliesInRange.{refuses_for_memory}
use Rattle.link_laws.proofs.model.replies.calls_in_the_range_are_answered.Goals as goal

pub returns : goal.returns
returns g c = refuses_for_memory g.P.Ord.cmp g.met.P.Ord.total
