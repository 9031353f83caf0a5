use Rattle.link_simulation.proofs.Rule.NextEvent.{advance_runs}
use Rattle.link_laws.proofs.model.events.advancing_is_ticking.Goals as goal

pub returns : goal.returns
returns g c = advance_runs g.P.Ord.cmp g.met.P.Ord.total
