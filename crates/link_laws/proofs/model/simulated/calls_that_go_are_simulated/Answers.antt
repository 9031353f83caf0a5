use Rattle.link_simulation.proofs.Rule.Simulated.{calls_simulated, call_keeps_range, next_in_simulation}
use Rattle.link_laws.proofs.model.simulated.calls_that_go_are_simulated.Goals as goal

pub returns-clause-calls : goal.returns-clause-calls
returns-clause-calls g c = calls_simulated g.P.Ord.cmp g.met.P.Ord.total

pub returns-clause-range : goal.returns-clause-range
returns-clause-range g c = call_keeps_range g.P.Ord.cmp g.met.P.Ord.total

pub returns-clause-next : goal.returns-clause-next
returns-clause-next g c = next_in_simulation g.P.Ord.cmp g.met.P.Ord.total
