use Rattle.link_simulation.proofs.Laws.PairCompletions.{pair_in_order}
use Rattle.link_laws.proofs.model.runs.a_pair_keeps_its_order.Goals as goal

pub returns : goal.returns
returns g c = λ k id calls css answers. pair_in_order g.P.Ord.cmp g.met.P.Ord.total k id calls css answers
