use Rattle.link_replay.proofs.Common.{planned_of}
use Rattle.link_simulation.proofs.Rule.OneMeaning.{one_next}
use Rattle.link_replay.proofs.clauses.the_next_event_is_told.Goals as goal

pub returns-clause-planned : goal.returns-clause-planned
returns-clause-planned g c next is = is.planned

pub returns-clause-simulated : goal.returns-clause-simulated
returns-clause-simulated g c w next other is stands =
    one_next g.P.Ord.cmp g.met.P.Ord.total (planned_of c.args.state.now) w next other is.simulated stands
