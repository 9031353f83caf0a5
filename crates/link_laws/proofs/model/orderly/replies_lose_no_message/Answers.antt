use Rattle.link_simulation.proofs.Laws.ConservedSoFar.{conserved_so_far}
use Rattle.link_laws.proofs.model.orderly.replies_lose_no_message.Goals as goal

pub returns : goal.returns
returns g c = conserved_so_far g.P.Ord.cmp g.met.P.Ord.total
