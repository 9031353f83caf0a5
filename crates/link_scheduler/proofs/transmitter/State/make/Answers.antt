use Rattle.link_scheduler.proofs.Common.{◌<◌, ◌^◌, map, rules, arith, planned, completed_by, looked_up}
use Rattle.link_scheduler.proofs.Common.{arrivals_looked_up, if_ok}
use Rattle.link_events.specs.Steps.Changes.{call_at}
use Rattle.link_events.proofs.Steps.Changes.{moment_at}
use Rattle.link_scheduler.proofs.Calls.Answered.{made_after}
use Rattle.link_scheduler.proofs.Calls.Concluded.{can_be_put_back, concluded, same_state}
use Rattle.link_scheduler.proofs.Calls.Concluded.{on_err_map}
use Rattle.link_events.proofs.Steps.Settling.{if_err}
use Rattle.link_scheduler.proofs.Calls.Promises.{cause_of}
use Rattle.link_scheduler.proofs.transmitter.State.make.Goals as goal

pub conclude-requires : goal.conclude-requires
conclude-requires g c =
    can_be_put_back c.args.self.now.ledger c.answer-answer.new.self c.in_ok-kept.kept c.in_ok-kept.ensures.kept
    c.answer-answer.ensures.before

pub invariant_of-self : goal.invariant_of-self
invariant_of-self g c =
    let new = c.conclude.new.self in
    let so =
    concluded g.met.P.Ord.total c.args.self.now.ledger c.answer-answer.new.self new c.in_ok-kept.kept
    c.in_ok-kept.ensures.kept c.answer-answer.ensures.before (call_at g.M.Payload.bytes c.args.now.now c.args.change)
    (λ answer. answer.1) (λ answer. map (completed_by g.M.Payload.bytes) answer.0.items) c.answer-answer.result
    c.answer-answer.ensures.answered c.conclude.ensures.made c.conclude.ensures.unchanged c.args.self.now.right
    c.args.self.now.orderly in
    record {
      caps = looked_up g.P.Ord.cmp g.met.P.Ord.total new.peers.entries new.pairs.entries;
      arrivals = arrivals_looked_up g.P.Ord.cmp g.met.P.Ord.total new.pairs.entries;
      right = so.right;
      orderly = so.orderly;
      marked = c.conclude.ensures.marked;
    }

pub returns-clause-answered : goal.returns-clause-answered
returns-clause-answered g c =
    let so =
    concluded g.met.P.Ord.total c.args.self.now.ledger c.answer-answer.new.self c.conclude.new.self c.in_ok-kept.kept
    c.in_ok-kept.ensures.kept c.answer-answer.ensures.before (call_at g.M.Payload.bytes c.args.now.now c.args.change)
    (λ answer. answer.1) (λ answer. map (completed_by g.M.Payload.bytes) answer.0.items) c.answer-answer.result
    c.answer-answer.ensures.answered c.conclude.ensures.made c.conclude.ensures.unchanged c.args.self.now.right
    c.args.self.now.orderly in
    rw c.conclude.ensures.answer so.answered

pub returns-clause-made : goal.returns-clause-made
returns-clause-made g c =
    let new = c.conclude.new.self in
    let fits : c.args.now.now < 2 ^ 64 = first_of (search rules, omega arith) in
    if_ok c.conclude.result
    (λ answer h.
    made_after g.P.Ord.cmp g.met.P.Ord.total (planned g.P.Ord.cmp c.args.self.now.ledger)
    (call_at g.M.Payload.bytes c.args.now.now c.args.change) answer.1
    (map (completed_by g.M.Payload.bytes) answer.0.items) (planned g.P.Ord.cmp new)
    h c.args.now.now (moment_at g.M.Payload.bytes c.args.now.now c.args.change) fits
    c.args.self.now.orderly (looked_up g.P.Ord.cmp g.met.P.Ord.total new.peers.entries new.pairs.entries)
    (arrivals_looked_up g.P.Ord.cmp g.met.P.Ord.total new.pairs.entries))
    (returns-clause-answered g c)

pub returns-clause-refused : goal.returns-clause-refused
returns-clause-refused g c =
    let fits : c.args.now.now < 2 ^ 64 = first_of (search rules, omega arith) in
    rw c.conclude.ensures.answer
    (if_err c.answer-answer.result
    (λ why may.
    cause_of g.P.Ord.cmp g.met.P.Ord.total (planned g.P.Ord.cmp c.args.self.now.ledger)
    (call_at g.M.Payload.bytes c.args.now.now c.args.change) c.args.now.now why
    (moment_at g.M.Payload.bytes c.args.now.now c.args.change) fits may)
    c.answer-answer.ensures.refused)

pub returns-clause-unchanged : goal.returns-clause-unchanged
returns-clause-unchanged g c =
    let so =
    concluded g.met.P.Ord.total c.args.self.now.ledger c.answer-answer.new.self c.conclude.new.self c.in_ok-kept.kept
    c.in_ok-kept.ensures.kept c.answer-answer.ensures.before (call_at g.M.Payload.bytes c.args.now.now c.args.change)
    (λ answer. answer.1) (λ answer. map (completed_by g.M.Payload.bytes) answer.0.items) c.answer-answer.result
    c.answer-answer.ensures.answered c.conclude.ensures.made c.conclude.ensures.unchanged c.args.self.now.right
    c.args.self.now.orderly in
    rw c.conclude.ensures.answer
    (on_err_map c.answer-answer.result (same_state g.row.P.coded c.args.self.now _) so.back)
