use Rattle.link_simulation.proofs.Rule.NextEvent.{next_is_planned}
use Rattle.link_laws.proofs.model.events.next_is_planned.Goals as goal

pub returns-clause-quiet : goal.returns-clause-quiet
returns-clause-quiet g c = λ p w stands. stands.quiet

pub returns-clause-next : goal.returns-clause-next
returns-clause-next g c = next_is_planned g.P.Ord.cmp g.met.P.Ord.total
