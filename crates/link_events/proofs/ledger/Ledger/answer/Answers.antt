use Rattle.link_events.proofs.Common.{map, ended_of}
use Rattle.link_events.proofs.ledger.Ledger.answer.Goals as goal

pub returns-clause-answered : goal.returns-clause-answered
returns-clause-answered g c = record {
  completed = map ended_of c.obey.new.ended.items;
  obeys = c.in_ok-events.ensures.obeys;
  same = rw (← c.deref.ensures.value) c.in_ok-completions.ensures.same;
}
