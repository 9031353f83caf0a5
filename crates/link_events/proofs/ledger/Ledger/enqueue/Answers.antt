use Rattle.link_events.proofs.Common.{[], ◌∷◌, err_from_is_err_and, message_of, messages}
use Rattle.link_events.proofs.Common.{planned}
use Rattle.link_events.proofs.Steps.Settling.{if_ok, if_err, at_once_refused, enqueues_at_once, enqueue_launch_refused}
use Rattle.link_events.proofs.Steps.Settling.{enqueue_finish_refused, enqueues_launched}
use Rattle.link_events.proofs.ledger.Ledger.enqueue.Goals as goal

pub returns-then-not-self-clause-refused : goal.returns-then-not-self-clause-refused
returns-then-not-self-clause-refused g c =
    if_err c.complete_at_once.result (at_once_refused g.P.Ord.cmp c.args.now (message_of c.args.message)
    (planned g.P.Ord.cmp c.args.self.now) c.if-not-self.true) c.complete_at_once.ensures.refused

pub returns-then-not-self-clause-enqueues : goal.returns-then-not-self-clause-enqueues
returns-then-not-self-clause-enqueues g c =
    if_ok c.complete_at_once.result (λ done h. (
      h.0 ∷ [],
      h.1,
      enqueues_at_once g.P.Ord.cmp c.args.now
          (message_of c.args.message) (planned g.P.Ord.cmp c.args.self.now) (planned g.P.Ord.cmp c.complete_at_once.new.self)
          h.0 c.if-not-self.true h.2,
    )) c.complete_at_once.ensures.completes

-- under limits

pub launch_sent-requires : goal.launch_sent-requires
launch_sent-requires g c = c.requires c.if-not-self.false

pub returns-in_err-queue-clause-refused : goal.returns-in_err-queue-clause-refused
returns-in_err-queue-clause-refused g c =
    let p = err_from_is_err_and c.from_residual.result c.from_residual.ensures.1 in
    rw (p.1, p.2)
    (enqueue_launch_refused g.P.Ord.cmp c.args.now (message_of c.args.message) (planned g.P.Ord.cmp c.args.self.now)
    c.if-not-self.false _ c.in_err-queue.ensures.refused)

pub returns-clause-refused : goal.returns-clause-refused
returns-clause-refused g c =
    if_err c.finish.result (enqueue_finish_refused g.P.Ord.cmp c.args.now (message_of c.args.message)
    (planned g.P.Ord.cmp c.args.self.now) c.if-not-self.false (planned g.P.Ord.cmp c.launch_sent.new.self)
    (messages c.in_ok-queue.queue.items) c.in_ok-queue.ensures.launches) c.finish.ensures.refused

pub returns-clause-enqueues : goal.returns-clause-enqueues
returns-clause-enqueues g c =
    if_ok c.finish.result (λ done h. (
      h.0,
      h.1,
      enqueues_launched g.P.Ord.cmp c.args.now (message_of c.args.message)
          (planned g.P.Ord.cmp c.args.self.now) c.if-not-self.false (planned g.P.Ord.cmp c.launch_sent.new.self)
          (messages c.in_ok-queue.queue.items) c.in_ok-queue.ensures.launches (planned g.P.Ord.cmp c.finish.new.self) h.0
          h.2,
    )) c.finish.ensures.finishes
