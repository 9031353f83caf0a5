use Rattle.link_simulation.proofs.Rule.Simulated.{refusals_simulated}
use Rattle.link_laws.proofs.model.simulated.refusals_are_simulated.Goals as goal

pub returns : goal.returns
returns g c = refusals_simulated g.P.Ord.cmp g.met.P.Ord.total
