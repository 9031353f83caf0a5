use Rattle.link_simulation.proofs.Laws.MadeCalls.{new_in_turn}
use Rattle.link_laws.proofs.model.replies.calls_are_in_turn_after_an_advance.Goals as goal

pub returns : goal.returns
returns g c = new_in_turn g.P.Ord.cmp g.met.P.Ord.total
