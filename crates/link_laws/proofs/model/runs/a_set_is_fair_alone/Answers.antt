use Rattle.link_simulation.proofs.Laws.IsolatedCalls.{fair_alone}
use Rattle.link_laws.proofs.model.runs.a_set_is_fair_alone.Goals as goal

pub returns : goal.returns
returns g c = λ inside caps ms per rates together whole fair.
    fair_alone g.P.Ord.cmp g.met.P.Ord.total inside together caps ms per rates whole fair
