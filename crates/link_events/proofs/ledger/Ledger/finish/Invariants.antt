use Rattle.link_events.proofs.Common.{◌≡◌, ◌+◌, map, length, planned, before_of, messages, ended_of, Finishes}
use Rattle.link_events.proofs.Steps.SoFar.{SoFar}
use Rattle.link_events.proofs.Steps.MessageCounts.{in_system}
use Rattle.link_events.proofs.ledger.Ledger.finish.Given as goal

abbrev pub invariant-loop-message : goal.invariant-loop-message
invariant-loop-message g l = record {
  so : SoFar (Finishes g.P.Ord.cmp l.now (messages l.initial.queue.items) (planned g.P.Ord.cmp l.initial.self))
      (Finishes g.P.Ord.cmp l.now (messages l.queue.items) (planned g.P.Ord.cmp l.self))
      (map ended_of l.initial.ended.items) (map ended_of l.ended.items);
  before : before_of l.self ≡ before_of l.initial.self;
}

abbrev pub decreases-loop-message : goal.decreases-loop-message
decreases-loop-message g l = length (messages l.queue.items) + in_system (planned g.P.Ord.cmp l.self)
