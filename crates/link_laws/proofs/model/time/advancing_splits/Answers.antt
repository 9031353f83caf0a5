use Rattle.link_simulation.proofs.Laws.AdvanceOnward.{advance_splits}
use Rattle.link_laws.proofs.model.time.advancing_splits.Goals as goal

pub returns : goal.returns
returns g c = advance_splits g.P.Ord.cmp g.met.P.Ord.total
