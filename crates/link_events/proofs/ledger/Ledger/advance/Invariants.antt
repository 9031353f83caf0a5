use Rattle.link_events.proofs.Common.{◌≡◌, ◌+◌, ◌≤◌, map, planned, before_of, ended_of}
use Rattle.link_events.proofs.Steps.Advancing.{AdvancesSo}
use Rattle.link_events.proofs.Steps.FewerEvents.{events_left}
use Rattle.link_events.proofs.ledger.Ledger.advance.Given as goal

abbrev pub invariant-loop-event : goal.invariant-loop-event
invariant-loop-event g l = record {
  so : AdvancesSo g.P.Ord.cmp l.now (planned g.P.Ord.cmp l.initial.self) (planned g.P.Ord.cmp l.self)
      (map ended_of l.ended.items) l.events;
  few : l.events + events_left g.P.Ord.cmp (planned g.P.Ord.cmp l.self)
      ≤ events_left g.P.Ord.cmp (planned g.P.Ord.cmp l.initial.self);
  before : before_of l.self ≡ before_of l.initial.self;
}

abbrev pub decreases-loop-event : goal.decreases-loop-event
decreases-loop-event g l = events_left g.P.Ord.cmp (planned g.P.Ord.cmp l.self)
