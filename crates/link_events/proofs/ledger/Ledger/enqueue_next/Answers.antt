use Rattle.link_events.proofs.Common.{Bool, ◌&&◌, [], map, sym, ap, ◌∙◌, refl, append-nil, first_of_both}
use Rattle.link_events.proofs.Common.{second_of_both, is_sending, planned, in_units, message_of, ended_of, idle_if_may}
use Rattle.link_events.proofs.Steps.Standing.{goes_waiting, goes_starting, read_positive, starts_so}
use Rattle.link_events.proofs.ledger.Ledger.enqueue_next.Goals as goal

pub returns-then-has_to_wait-clause-enqueues : goal.returns-then-has_to_wait-clause-enqueues
returns-then-has_to_wait-clause-enqueues g c =
    λ w h.
    let go =
    goes_waiting g.P.Ord.cmp g.met.P.Ord.total c.args.now (message_of c.args.message) c.args.standing
    (planned g.P.Ord.cmp c.args.self.now) (planned g.P.Ord.cmp c.wait.new.self) w
    (first_of_both c.args.self.now.limited _ (sym c.if-has_to_wait.ensures))
    (second_of_both c.args.self.now.limited _ (sym c.if-has_to_wait.ensures))
    c.in_ok-wait.ensures.waits c.in_ok-wait.ensures.enqueues h in
    ([], go.0, sym (append-nil (map ended_of c.args.ended.now.items)), go.1, go.2)

pub only_starts-requires : goal.only_starts-requires
only_starts-requires g c limited =
    sym
    (ap
    (λ (b : Bool). b
    && is_sending g.P.Ord.cmp (planned g.P.Ord.cmp c.args.self.now) c.args.message.origin c.args.message.recipient)
    limited)
    ∙ sym c.if-has_to_wait.ensures

pub enqueue_caught_up-requires : goal.enqueue_caught_up-requires
enqueue_caught_up-requires g c limited =
    sym
    (ap
    (λ (b : Bool). b
    && is_sending g.P.Ord.cmp (planned g.P.Ord.cmp c.args.self.now) c.args.message.origin c.args.message.recipient)
    limited)
    ∙ sym c.if-has_to_wait.ensures

pub start-requires-clause-alone : goal.start-requires-clause-alone
start-requires-clause-alone g c =
    (starts_so g.P.Ord.cmp g.met.P.Ord.total c.args.now (planned g.P.Ord.cmp c.args.self.now)
    (message_of c.args.message) (c.if-only_starts.ensures refl).starts).alone

pub start-requires-clause-idle : goal.start-requires-clause-idle
start-requires-clause-idle g c =
    idle_if_may g.P.Ord.cmp g.met.P.Ord.total c.args.now (planned g.P.Ord.cmp c.args.self.now)
    (message_of c.args.message)
    (starts_so g.P.Ord.cmp g.met.P.Ord.total c.args.now (planned g.P.Ord.cmp c.args.self.now)
    (message_of c.args.message) (c.if-only_starts.ensures refl).starts).may

pub returns-then-only_starts-clause-enqueues : goal.returns-then-only_starts-clause-enqueues
returns-then-only_starts-clause-enqueues g c =
    λ w h.
    let go =
    goes_starting g.P.Ord.cmp g.met.P.Ord.total c.args.now (message_of c.args.message) c.args.standing
    (planned g.P.Ord.cmp c.args.self.now) (planned g.P.Ord.cmp c.start.new.self)
    (planned g.P.Ord.cmp c.plan_start.new.self) w (sym c.if-is_accounted.ensures) (c.if-only_starts.ensures refl)
    c.in_ok-start.ensures.started c.plan_start.ensures.plans
    (read_positive c.args.self.now.flights.scale (in_units c.args.self.now.flights) c.args.self.now.flights.scaled) h in
    ([], go.0, sym (append-nil (map ended_of c.args.ended.now.items)), go.1, go.2)
