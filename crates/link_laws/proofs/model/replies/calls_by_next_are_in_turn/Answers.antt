use Rattle.link_simulation.proofs.Laws.TurnByNext.{new_by_next}
use Rattle.link_laws.proofs.model.replies.calls_by_next_are_in_turn.Goals as goal

pub returns : goal.returns
returns g c = new_by_next g.P.Ord.cmp g.met.P.Ord.total
