use Rattle.link_events.proofs.Common.{◌≡◌, [], ◌∷◌, map, sym, ap, ◌∙◌, err_from_is_err_and, Completed, completion_of}
use Rattle.link_events.proofs.Common.{message_of, ended_of, planned, map-append}
use Rattle.link_events.proofs.Steps.Settling.{completes_so, too_late_refused}
use Rattle.link_events.proofs.ledger.Ledger.complete_at_once.Goals as goal

pub returns-in_err-arrival-clause-refused : goal.returns-in_err-arrival-clause-refused
returns-in_err-arrival-clause-refused g c =
    let p = err_from_is_err_and c.from_residual.result c.from_residual.ensures.1 in
    rw (p.1, p.2)
    (too_late_refused g.P.Ord.cmp c.args.now (planned g.P.Ord.cmp c.args.self.now) (message_of c.args.message) _
    c.in_err-arrival.ensures.refused.1 c.in_err-arrival.ensures.refused.0)

pub returns-clause-completes : goal.returns-clause-completes
returns-clause-completes g c =
    let done : Completed g.row.P.Denot =
    completion_of (message_of c.in_ok-message.message.value) c.args.now c.then_some-deliver_at.result in
    let same : done ≡ completion_of (message_of c.args.message) c.args.now c.then_some-deliver_at.result =
    ap (λ m. completion_of (message_of m) c.args.now c.then_some-deliver_at.result) c.in_ok-message.ensures.ok in (
      done,
      ap (map ended_of) c.in_ok-push.ensures.items
          ∙ map-append ended_of c.args.ended.now.items
          (record { message = c.in_ok-message.message; done_at = c.args.now; deliver_at = c.then_some-deliver_at.result } ∷ []),
      completes_so g.P.Ord.cmp c.args.now (planned g.P.Ord.cmp c.args.self.now) (planned g.P.Ord.cmp c.raise.new.self)
          (message_of c.args.message) c.in_ok-arrival.arrival done c.in_ok-arrival.ensures.in_time
          c.in_ok-arrival.ensures.moment
          (same ∙ ap (completion_of (message_of c.args.message) c.args.now) c.then_some-deliver_at.ensures)
          c.in_ok-raise.ensures.raised,
    )

pub raise-requires : goal.raise-requires
raise-requires g c = sym c.has-is_busy.ensures
