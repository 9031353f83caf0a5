use Rattle.link_simulation.proofs.Laws.OrderlyAlike.{orderly_same, goes_orderly}
use Rattle.link_laws.proofs.model.orderly.the_same_worlds_are_in_order_alike.Goals as goal

pub returns-clause-same : goal.returns-clause-same
returns-clause-same g c = orderly_same g.P.Ord.cmp g.met.P.Ord.total

pub returns-clause-goes : goal.returns-clause-goes
returns-clause-goes g c = goes_orderly g.P.Ord.cmp g.met.P.Ord.total
