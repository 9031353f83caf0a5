use Rattle.link_simulation.proofs.Simulation.AlikeMessages.{same_itself}
use Rattle.link_simulation.proofs.Simulation.OneWorld.{one_world}
use Rattle.link_simulation.proofs.Simulation.OneRun.{ticks_are_one}
use Rattle.link_laws.proofs.model.time.ticking_has_one_outcome.Goals as goal

pub returns-clause-drains : goal.returns-clause-drains
returns-clause-drains g c = λ w v u sound d e.
    one_world g.P.Ord.cmp (same_itself g.P.Ord.cmp g.met.P.Ord.total) w v u sound.positive d e

pub returns-clause-ticks : goal.returns-clause-ticks
returns-clause-ticks g c = λ n w a b sound t u.
    ticks_are_one g.P.Ord.cmp g.met.P.Ord.total t b (record { positive = sound.positive; one_each = sound.one_each }) u
