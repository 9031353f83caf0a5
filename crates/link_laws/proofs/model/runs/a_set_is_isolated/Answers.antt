use Rattle.link_simulation.proofs.Laws.IsolatedCalls.{isolation}
use Rattle.link_laws.proofs.model.runs.a_set_is_isolated.Goals as goal

pub returns : goal.returns
returns g c = λ inside id calls css together apart in_time answered.
    isolation g.P.Ord.cmp g.met.P.Ord.total inside together id calls css answered apart in_time
