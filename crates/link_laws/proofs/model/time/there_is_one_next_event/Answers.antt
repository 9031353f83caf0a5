use Rattle.link_simulation.proofs.Simulation.OneNext.{next_is_one}
use Rattle.link_simulation.proofs.Simulation.QuietInstants.{next_is_later}
use Rattle.link_laws.proofs.model.time.there_is_one_next_event.Goals as goal

pub returns-clause-one : goal.returns-clause-one
returns-clause-one g c = λ w a b sound x y. next_is_one g.P.Ord.cmp g.met.P.Ord.total w a b sound.positive x y

pub returns-clause-later : goal.returns-clause-later
returns-clause-later g c = λ w next is. next_is_later g.P.Ord.cmp g.met.P.Ord.total w next is
