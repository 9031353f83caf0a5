use Rattle.link_simulation.proofs.Laws.Replies.{pairs_complete_in_order}
use Rattle.link_laws.proofs.model.replies.replies_keep_pairs_in_order.Goals as goal

pub returns : goal.returns
returns g c = pairs_complete_in_order g.P.Ord.cmp g.met.P.Ord.total
