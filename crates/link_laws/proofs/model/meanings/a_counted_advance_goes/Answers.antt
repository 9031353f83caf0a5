use Rattle.link_simulation.proofs.Common.{arith}
use Rattle.link_simulation.proofs.Rule.OneCourse.{advance_is_one}
use Rattle.link_laws.proofs.model.meanings.a_counted_advance_goes.Goals as goal

pub returns-clause-goes : goal.returns-clause-goes
returns-clause-goes g c p q now events cs h = grind arith

pub returns-clause-one : goal.returns-clause-one
returns-clause-one g c p q r now events other cs ds first second =
    (advance_is_one g.P.Ord.cmp g.met.P.Ord.total first.advances other _ second.advances).0
