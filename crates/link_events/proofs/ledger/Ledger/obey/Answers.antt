use Rattle.link_events.proofs.Common.{map, goes, ended_of, outgoing_by, planned}
use Rattle.link_simulation.specs.Simulation.Calls.{call_limit, call_limit_link, call_enqueue, call_enqueue_all}
use Rattle.link_simulation.specs.Rule.Refusals.{MayBeRefused}
use Rattle.link_events.specs.Steps.Answered.{ObeysIn}
use Rattle.link_events.proofs.Steps.Answered.{uncounted_ok, uncounted_err}
use Rattle.link_events.proofs.ledger.Ledger.obey.Goals as goal

pub returns-in-Limit-clause-obeys : goal.returns-in-Limit-clause-obeys
returns-in-Limit-clause-obeys g c =
    rw c.in-Limit.is
    (uncounted_ok c.limit.result c.uncounted.result c.uncounted.ensures
    (λ events. ObeysIn g.P.Ord.cmp (planned g.P.Ord.cmp c.args.self.now)
    (call_limit c.args.now c.in-Limit.peer.now c.in-Limit.egress c.in-Limit.ingress) events
    (goes (map ended_of c.limit.new.ended.items) (planned g.P.Ord.cmp c.limit.new.self)))
    c.limit.ensures.rebalances)

pub returns-in-Limit-clause-refused : goal.returns-in-Limit-clause-refused
returns-in-Limit-clause-refused g c =
    rw c.in-Limit.is
    (uncounted_err c.limit.result c.uncounted.result c.uncounted.ensures
    (MayBeRefused g.P.Ord.cmp (planned g.P.Ord.cmp c.args.self.now)
    (call_limit c.args.now c.in-Limit.peer.now c.in-Limit.egress c.in-Limit.ingress))
    c.limit.ensures.refused)

pub returns-in-LimitLink-clause-obeys : goal.returns-in-LimitLink-clause-obeys
returns-in-LimitLink-clause-obeys g c =
    rw c.in-LimitLink.is
    (uncounted_ok c.limit_link.result c.uncounted-in-LimitLink.result c.uncounted-in-LimitLink.ensures
    (λ events. ObeysIn g.P.Ord.cmp (planned g.P.Ord.cmp c.args.self.now)
    (call_limit_link c.args.now c.in-LimitLink.origin.now c.in-LimitLink.recipient.now c.in-LimitLink.cap) events
    (goes (map ended_of c.limit_link.new.ended.items) (planned g.P.Ord.cmp c.limit_link.new.self)))
    c.limit_link.ensures.rebalances)

pub returns-in-LimitLink-clause-refused : goal.returns-in-LimitLink-clause-refused
returns-in-LimitLink-clause-refused g c =
    rw c.in-LimitLink.is
    (uncounted_err c.limit_link.result c.uncounted-in-LimitLink.result c.uncounted-in-LimitLink.ensures
    (MayBeRefused g.P.Ord.cmp (planned g.P.Ord.cmp c.args.self.now)
    (call_limit_link c.args.now c.in-LimitLink.origin.now c.in-LimitLink.recipient.now c.in-LimitLink.cap))
    c.limit_link.ensures.refused)

pub returns-in-Enqueue-clause-obeys : goal.returns-in-Enqueue-clause-obeys
returns-in-Enqueue-clause-obeys g c =
    rw c.in-Enqueue.is
    (uncounted_ok c.send.result c.uncounted-in-Enqueue.result c.uncounted-in-Enqueue.ensures
    (λ events. ObeysIn g.P.Ord.cmp (planned g.P.Ord.cmp c.args.self.now)
    (call_enqueue c.args.now (outgoing_by g.M.Payload.bytes c.in-Enqueue.message)) events
    (goes (map ended_of c.send.new.ended.items) (planned g.P.Ord.cmp c.send.new.self)))
    c.send.ensures.enqueues)

pub returns-in-Enqueue-clause-refused : goal.returns-in-Enqueue-clause-refused
returns-in-Enqueue-clause-refused g c =
    rw c.in-Enqueue.is
    (uncounted_err c.send.result c.uncounted-in-Enqueue.result c.uncounted-in-Enqueue.ensures
    (MayBeRefused g.P.Ord.cmp (planned g.P.Ord.cmp c.args.self.now)
    (call_enqueue c.args.now (outgoing_by g.M.Payload.bytes c.in-Enqueue.message)))
    c.send.ensures.refused)

pub returns-in-EnqueueAll-clause-obeys : goal.returns-in-EnqueueAll-clause-obeys
returns-in-EnqueueAll-clause-obeys g c =
    rw c.in-EnqueueAll.is
    (uncounted_ok c.enqueue_all.result c.uncounted-in-EnqueueAll.result c.uncounted-in-EnqueueAll.ensures
    (λ events. ObeysIn g.P.Ord.cmp (planned g.P.Ord.cmp c.args.self.now)
    (call_enqueue_all c.args.now (map (outgoing_by g.M.Payload.bytes) c.in-EnqueueAll.messages.items)) events
    (goes (map ended_of c.enqueue_all.new.ended.items) (planned g.P.Ord.cmp c.enqueue_all.new.self)))
    c.enqueue_all.ensures.enqueues)

pub returns-in-EnqueueAll-clause-refused : goal.returns-in-EnqueueAll-clause-refused
returns-in-EnqueueAll-clause-refused g c =
    rw c.in-EnqueueAll.is
    (uncounted_err c.enqueue_all.result c.uncounted-in-EnqueueAll.result c.uncounted-in-EnqueueAll.ensures
    (MayBeRefused g.P.Ord.cmp (planned g.P.Ord.cmp c.args.self.now)
    (call_enqueue_all c.args.now (map (outgoing_by g.M.Payload.bytes) c.in-EnqueueAll.messages.items)))
    c.enqueue_all.ensures.refused)
