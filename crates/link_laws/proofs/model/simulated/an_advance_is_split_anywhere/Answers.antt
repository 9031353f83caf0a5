use Rattle.link_simulation.proofs.Laws.SplitAnywhere.{advance_split_anywhere}
use Rattle.link_laws.proofs.model.simulated.an_advance_is_split_anywhere.Goals as goal

pub returns : goal.returns
returns g c = advance_split_anywhere g.P.Ord.cmp g.met.P.Ord.total
