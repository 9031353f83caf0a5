use Rattle.link_simulation.proofs.Common.{arith}
use Rattle.link_simulation.proofs.Simulation.QuietInstants.{instant_ends_quiet, instant_of_quiet, quiet_if_unchanged}
use Rattle.link_simulation.proofs.Simulation.Pass.{wake_ends_quiet}
use Rattle.link_simulation.proofs.Simulation.SettlingEnds.{settle_rests}
use Rattle.link_simulation.proofs.Simulation.OtherPairs.{any_from_find, ends_more}
use Rattle.link_laws.proofs.model.instants.instants_end_in_quiet.Goals as goal

pub returns-clause-settled : goal.returns-clause-settled
returns-clause-settled g c = grind (arith, ends_more, any_from_find, settle_rests)

pub returns-clause-woken : goal.returns-clause-woken
returns-clause-woken g c = λ t w none. wake_ends_quiet g.P.Ord.cmp g.met.P.Ord.total t w none

pub returns-clause-both : goal.returns-clause-both
returns-clause-both g c = λ w. instant_ends_quiet g.P.Ord.cmp g.met.P.Ord.total w

pub returns-clause-unchanged : goal.returns-clause-unchanged
returns-clause-unchanged g c = λ w.
    (instant_of_quiet g.P.Ord.cmp g.met.P.Ord.total w, quiet_if_unchanged g.P.Ord.cmp g.met.P.Ord.total w)
