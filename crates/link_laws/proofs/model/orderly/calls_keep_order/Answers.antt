use Rattle.link_simulation.proofs.Laws.Orderly.{new_orderly, obeys_orderly}
use Rattle.link_laws.proofs.model.orderly.calls_keep_order.Goals as goal

pub returns-clause-new : goal.returns-clause-new
returns-clause-new g c = new_orderly g.P.Ord.cmp g.met.P.Ord.total

pub returns-clause-kept : goal.returns-clause-kept
returns-clause-kept g c = obeys_orderly g.P.Ord.cmp g.met.P.Ord.total
