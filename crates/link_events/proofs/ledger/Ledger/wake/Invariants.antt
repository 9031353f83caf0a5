use Rattle.link_events.proofs.Common.{◌≡◌, map, planned, before_of, Wakes, ended_of}
use Rattle.link_events.proofs.Steps.Finishing.{WakesAt}
use Rattle.link_events.proofs.ledger.Ledger.wake.Given as goal

abbrev pub invariant-loop-pair : goal.invariant-loop-pair
invariant-loop-pair g l = record {
  at : WakesAt g.P.Ord.cmp l.now (Wakes g.P.Ord.cmp l.now (planned g.P.Ord.cmp l.initial.self))
      (map ended_of l.initial.ended.items) l.pair-items l.pair-index (planned g.P.Ord.cmp l.self)
      (map ended_of l.ended.items);
  before : before_of l.self ≡ before_of l.initial.self;
}
