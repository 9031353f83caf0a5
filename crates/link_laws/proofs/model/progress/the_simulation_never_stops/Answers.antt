use Rattle.link_simulation.proofs.Simulation.Continuing.{rates_exist, runs_on, next_on}
use Rattle.link_laws.proofs.model.progress.the_simulation_never_stops.Goals as goal

pub returns-clause-rates : goal.returns-clause-rates
returns-clause-rates g c = rates_exist g.P.Ord.cmp g.met.P.Ord.total

pub returns-clause-course : goal.returns-clause-course
returns-clause-course g c = runs_on g.P.Ord.cmp g.met.P.Ord.total

pub returns-clause-next : goal.returns-clause-next
returns-clause-next g c = next_on g.P.Ord.cmp g.met.P.Ord.total
