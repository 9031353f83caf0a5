use Rattle.link_events.proofs.Common.{sym, subst, err_from_is_err_and, IsRefusedFor, meets}
use Rattle.link_events.proofs.Common.{Enqueues, IsStanding, planned, in_units, message_of}
use Rattle.link_events.proofs.Steps.Standing.{goes_otherwise, read_lowest}
use Rattle.link_events.proofs.ledger.Ledger.enqueue_caught_up.Goals as goal

pub starts_at_once-starts-requires : goal.starts_at_once-starts-requires
starts_at_once-starts-requires g c =
    c.in_ok-catch_up.ensures.idle c.args.message.origin c.args.message.recipient c.requires

pub enqueue-requires : goal.enqueue-requires
enqueue-requires g c = c.in_ok-catch_up.ensures.idle c.args.message.origin c.args.message.recipient c.requires

pub returns-in_err-enqueue-clause-refused : goal.returns-in_err-enqueue-clause-refused
returns-in_err-enqueue-clause-refused g c =
    let p = err_from_is_err_and c.from_residual-in_err-enqueue.result c.from_residual-in_err-enqueue.ensures.1 in
    rw (p.1, p.2)
    (λ w h. subst
    (λ q. IsRefusedFor (λ fault. Enqueues g.P.Ord.cmp c.args.now (message_of c.args.message) q (meets fault))
    c.in_err-enqueue.field-0.0)
    (sym (c.in_ok-catch_up.ensures.caught_up w h)) c.in_err-enqueue.ensures.refused)

pub returns-clause-enqueues : goal.returns-clause-enqueues
returns-clause-enqueues g c =
    λ w h.
    let sent = c.in_ok-enqueue.ensures.enqueues in
    let go =
    goes_otherwise g.P.Ord.cmp g.met.P.Ord.total c.args.now (message_of c.args.message) c.args.standing
    c.starts_at_once-starts.result (planned g.P.Ord.cmp c.args.self.now) (planned g.P.Ord.cmp c.catch_up.new.self)
    (planned g.P.Ord.cmp c.enqueue.new.self) w sent.0 h
    (c.in_ok-catch_up.ensures.caught_up w h) c.starts_at_once-starts.ensures sent.2
    (read_lowest c.enqueue.new.self.flights.scale (in_units c.enqueue.new.self.flights)
    c.enqueue.new.self.flights.scaled) in (
      sent.0,
      planned g.P.Ord.cmp c.enqueue.new.self,
      sent.1,
      go.0,
      subst
          (λ s. IsStanding g.P.Ord.cmp c.args.now s (planned g.P.Ord.cmp c.enqueue.new.self)
          (planned g.P.Ord.cmp c.enqueue.new.self)) (sym c.after.ensures) go.1,
    )
