use Rattle.link_simulation.proofs.Common.{refl, goes}
use Rattle.link_simulation.proofs.Laws.MostEvents.{new_is_planned, obeys_right, few_events}
use Rattle.link_laws.proofs.model.events.an_advance_has_few_events.Goals as goal

pub returns-clause-new : goal.returns-clause-new
returns-clause-new g c = new_is_planned g.P.Ord.cmp g.met.P.Ord.total

pub returns-clause-kept : goal.returns-clause-kept
returns-clause-kept g c = λ p q call cs planned obeys.
    obeys_right g.P.Ord.cmp g.met.P.Ord.total p call (goes cs q) planned obeys cs q refl

pub returns-clause-few : goal.returns-clause-few
returns-clause-few g c = λ p now n course planned advances. few_events g.P.Ord.cmp g.met.P.Ord.total advances planned
