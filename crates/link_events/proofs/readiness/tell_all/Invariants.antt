use Rattle.link_events.proofs.Common.{◌≡◌, take, [], of_pairs, AreAtRest, since_of, messages, since_of_first}
use Rattle.link_events.proofs.readiness.tell_all.Given as goal

abbrev pub invariant-loop-at : goal.invariant-loop-at
invariant-loop-at g l = record {
  same : l.waiting.messages ≡ l.initial.waiting.messages;
  before : l.waiting.before ≡ l.initial.waiting.before;
  rest : AreAtRest g.P.Ord.cmp (of_pairs g.P.Ord.cmp l.pairs.entries l.initial.waiting.messages [])
      (messages (take l.at l.done.items)) (since_of g.P.Ord.cmp l.initial.waiting.told) (since_of g.P.Ord.cmp l.waiting.told);
  first : l.first ≡ since_of_first g.P.Ord.cmp (of_pairs g.P.Ord.cmp l.pairs.entries l.initial.waiting.messages [])
      (messages (take l.at l.done.items));
}
