use Rattle.link_simulation.proofs.Simulation.Pass.{wake_is_one_pass, wake_is_pass}
use Rattle.link_laws.proofs.model.instants.waking_is_one_pass.Goals as goal

pub returns-clause-sorted : goal.returns-clause-sorted
returns-clause-sorted g c = λ t w none. wake_is_one_pass g.P.Ord.cmp g.met.P.Ord.total t w none

pub returns-clause-any_list : goal.returns-clause-any_list
returns-clause-any_list g c = λ t ms w none sorted same.
    wake_is_pass g.P.Ord.cmp g.met.P.Ord.total t ms w none sorted same
