use Rattle.link_simulation.proofs.Common.{◌+◌, length, arith}
use Rattle.link_laws.proofs.Simulation.StepsEnough.{settle_enough}
use Rattle.link_simulation.proofs.Simulation.Pass.{wake_more_is_pass, wake_is_one_pass}
use Rattle.link_laws.proofs.model.instants.more_steps_change_nothing.Goals as goal

pub returns-clause-settle : goal.returns-clause-settle
returns-clause-settle g c = λ n t w h.
    settle_enough g.P.Ord.cmp g.met.P.Ord.total n (length w.sending + length w.waiting) t w h (omega arith)

pub returns-clause-wake : goal.returns-clause-wake
returns-clause-wake g c = grind (arith, wake_more_is_pass, wake_is_one_pass)
