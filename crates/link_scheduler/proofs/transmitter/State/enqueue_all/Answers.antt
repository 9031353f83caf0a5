use Rattle.link_scheduler.proofs.Common.{◌≡◌, ◌≢◌, [], map, length, refl, ap, ◌∙◌, rules, arith, sym, length-map}
use Rattle.link_scheduler.proofs.Common.{planned, completed_by, same_itself, call_enqueue_all}
use Rattle.std.proofs.lemmas.List.{nil_from_length}
use Rattle.std.proofs.lemmas.Result.{err_from_is_err_and}
use Rattle.link_events.specs.Steps.Outgoing.{outgoing_by}
use Rattle.link_scheduler.proofs.Calls.Answered.{made_after}
use Rattle.link_scheduler.proofs.Calls.OneByOne.{each_promised, some_refused, none_answered}
use Rattle.link_scheduler.proofs.transmitter.State.enqueue_all.Goals as goal

pub returns-clause-made : goal.returns-clause-made
returns-clause-made g c =
    let h = c.in_ok-make.ensures.answered in
    let old = c.args.self.now in
    each_promised g.P.Ord.cmp g.met.P.Ord.total c.args.now c.ranges.now.fits h.obeys
    (same_itself g.P.Ord.cmp g.met.P.Ord.total (planned g.P.Ord.cmp old.ledger) old.caps old.arrivals) old.orderly
    (map (completed_by g.M.Payload.bytes) c.in_ok-make.field-0.0.items) h.same

pub returns-in_err-make-clause-refused : goal.returns-in_err-make-clause-refused
returns-in_err-make-clause-refused g c =
    let p = err_from_is_err_and c.from_residual.result c.from_residual.ensures.1 in
    let old = c.args.self.now in
    let some : length c.args.messages.items ≢ 0 = search rules in
    rw (p.1, p.2)
    (some_refused g.P.Ord.cmp g.met.P.Ord.total c.args.now c.ranges.now.fits
    (map (outgoing_by g.M.Payload.bytes) c.args.messages.items) (planned g.P.Ord.cmp old.ledger) _
    (λ e. some (sym (length-map c.args.messages.items (outgoing_by g.M.Payload.bytes)) ∙ e))
    c.in_err-make.ensures.refused.by_rule
    (same_itself g.P.Ord.cmp g.met.P.Ord.total (planned g.P.Ord.cmp old.ledger) old.caps old.arrivals) old.orderly)

-- where there is none

pub returns-then-is_empty-clause-as_one : goal.returns-then-is_empty-clause-as_one
returns-then-is_empty-clause-as_one g c =
    let old = c.args.self.now in
    let none : length c.args.messages.items ≡ 0 = first_of (search rules, omega arith, cc) in
    let ms = map (outgoing_by g.M.Payload.bytes) c.args.messages.items in
    rw (ap (map (completed_by g.M.Payload.bytes)) c.new.ensures.items)
    (made_after g.P.Ord.cmp g.met.P.Ord.total (planned g.P.Ord.cmp old.ledger) (call_enqueue_all c.args.now ms) 0 []
    (planned g.P.Ord.cmp old.ledger)
    (none_answered g.P.Ord.cmp c.args.now (planned g.P.Ord.cmp old.ledger) ms
    (ap (map (outgoing_by g.M.Payload.bytes)) (nil_from_length c.args.messages.items none))) c.args.now refl c.ranges.now.fits old.orderly old.caps
    old.arrivals)
