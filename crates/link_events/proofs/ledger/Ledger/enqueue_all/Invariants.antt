use Rattle.link_events.proofs.Common.{◌≡◌, map, into_iter_items, ended_of, outgoing_by, planned, before_of}
use Rattle.link_events.proofs.Steps.Standing.{StandsSo}
use Rattle.link_events.proofs.ledger.Ledger.enqueue_all.Given as goal

abbrev pub invariant-loop-message : goal.invariant-loop-message
invariant-loop-message g l = record {
  so : StandsSo g.P.Ord.cmp g.met.P.Ord.total l.now (map (outgoing_by g.M.Payload.bytes) l.fn.messages.items)
      (planned g.P.Ord.cmp l.initial.self) (map (outgoing_by g.M.Payload.bytes) (into_iter_items l.message-iterator))
      (planned g.P.Ord.cmp l.self) l.standing (map ended_of l.ended.items);
  before : before_of l.self ≡ before_of l.initial.self;
}
