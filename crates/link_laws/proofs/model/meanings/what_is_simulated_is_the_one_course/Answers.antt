use Rattle.link_simulation.proofs.Rule.OneMeaning.{one_run, no_fault, one_split, one_next}
use Rattle.link_laws.proofs.model.meanings.what_is_simulated_is_the_one_course.Goals as goal

pub returns-clause-runs : goal.returns-clause-runs
returns-clause-runs g c = one_run g.P.Ord.cmp g.met.P.Ord.total

pub returns-clause-no_fault : goal.returns-clause-no_fault
returns-clause-no_fault g c = no_fault g.P.Ord.cmp g.met.P.Ord.total

pub returns-clause-split : goal.returns-clause-split
returns-clause-split g c = one_split g.P.Ord.cmp g.met.P.Ord.total

pub returns-clause-next : goal.returns-clause-next
returns-clause-next g c = one_next g.P.Ord.cmp g.met.P.Ord.total
