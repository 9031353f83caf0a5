use Rattle.link_events.proofs.Common.{map, append-nil, List, [], Option, refl, sym, subst, ◌∙◌, AllZip, err_from_is_err_and}
use Rattle.link_events.proofs.Common.{PeerPair, NamesPairOf, Message, goes, meets, Planned, next_of, Launches, Finishes}
use Rattle.link_events.proofs.Common.{WakesEach, all_started, no_start, no_finish, starts_one, IsRefusedFor, planned}
use Rattle.link_events.proofs.Common.{messages, ended_of}
use Rattle.link_waiting.specs.Idle.Starting.{ready_messages}
use Rattle.link_events.proofs.Steps.Advancing.{none_wake}
use Rattle.link_events.proofs.Steps.Finishing.{next_at, none_at}
use Rattle.link_events.proofs.Steps.SoFar.{none_so_far, step_so_far, all_so_far, refused_so_far}
use Rattle.link_events.proofs.Steps.Settling.{of_message}
use Rattle.link_events.proofs.ledger.Ledger.wake.Goals as goal

pub loop-pair-init : goal.loop-pair-init
loop-pair-init g c = record {
  at = record {
    rest = ready_messages g.P.Ord.cmp c.args.now (planned g.P.Ord.cmp c.args.self.now);
    are_keys =
        subst
        (λ (keys : List (PeerPair g.row.P.Denot)). AllZip (NamesPairOf g.P.Ord.cmp) keys
        (ready_messages g.P.Ord.cmp c.args.now (planned g.P.Ord.cmp c.args.self.now)))
        (sym c.deref-pair-items.ensures.value) c.in_ok-ready.ensures.ready;
    so = none_so_far _ (map ended_of c.args.ended.now.items);
  };
  before = refl;
}

pub returns-in_err-queue-clause-refused : goal.returns-in_err-queue-clause-refused
returns-in_err-queue-clause-refused g c =
    let p = err_from_is_err_and c.from_residual-in_err-queue.result c.from_residual-in_err-queue.ensures.1 in
    let here = planned g.P.Ord.cmp c.loop-pair.self in
    let n = next_at g.P.Ord.cmp c.loop-pair.invariant.at c.pair-item.result c.loop-pair-test.true c.pair-item.is in
    rw (p.1, p.2)
    (refused_so_far n.so (λ fault. Launches g.P.Ord.cmp c.args.now here (next_of g.P.Ord.cmp here n.message) (meets fault))
    (λ fault h. no_start h) _
    (of_message g.P.Ord.cmp g.met.P.Ord.total (λ (q : Planned g.row.P.Denot)
    (first : Option (Message g.row.P.Denot)). IsRefusedFor
    (λ fault. Launches g.P.Ord.cmp c.args.now q first (meets fault)) c.in_err-queue.field-0.0)
    here here c.pair-item.result n.message refl n.is_key c.in_err-queue.ensures.refused))

pub returns-in_err-finish-clause-refused : goal.returns-in_err-finish-clause-refused
returns-in_err-finish-clause-refused g c =
    let p = err_from_is_err_and c.from_residual-in_err-finish.result c.from_residual-in_err-finish.ensures.1 in
    let here = planned g.P.Ord.cmp c.loop-pair.self in
    let n = next_at g.P.Ord.cmp c.loop-pair.invariant.at c.pair-item.result c.loop-pair-test.true c.pair-item.is in
    rw (p.1, p.2)
    (refused_so_far n.so (λ fault. Finishes g.P.Ord.cmp c.args.now (messages c.in_ok-queue.queue.items)
    (planned g.P.Ord.cmp c.launch.new.self) (meets fault))
    (λ fault. no_finish
    (of_message g.P.Ord.cmp g.met.P.Ord.total
    (λ (q : Planned g.row.P.Denot) (first : Option (Message g.row.P.Denot)). Launches g.P.Ord.cmp c.args.now q first
    (goes (messages c.in_ok-queue.queue.items) (planned g.P.Ord.cmp c.launch.new.self)))
    here here c.pair-item.result n.message refl n.is_key c.in_ok-queue.ensures.launches)) _
    c.in_err-finish.ensures.refused)

pub loop-pair-preserved : goal.loop-pair-preserved
loop-pair-preserved g c =
    let here = planned g.P.Ord.cmp c.loop-pair.self in
    let n = next_at g.P.Ord.cmp c.loop-pair.invariant.at c.pair-item.result c.loop-pair-test.true c.pair-item.is in
    let h = c.in_ok-finish.ensures.finishes in
    record {
      before = c.finish.ensures.before ∙ c.launch.ensures.before ∙ c.loop-pair.invariant.before;
      at = record {
        rest = n.rest;
        are_keys = n.are_keys;
        so =
            step_so_far n.so (WakesEach g.P.Ord.cmp c.args.now n.rest (planned g.P.Ord.cmp c.finish.new.self)) h.0
            (map ended_of c.finish.new.ended.items) h.1
            (λ course more. starts_one
            (of_message g.P.Ord.cmp g.met.P.Ord.total
            (λ (q : Planned g.row.P.Denot) (first : Option (Message g.row.P.Denot)). Launches g.P.Ord.cmp c.args.now q
            first (goes (messages c.in_ok-queue.queue.items) (planned g.P.Ord.cmp c.launch.new.self)))
            here here c.pair-item.result n.message refl n.is_key c.in_ok-queue.ensures.launches) h.2 more);
      };
    }

pub returns-clause-wakes : goal.returns-clause-wakes
returns-clause-wakes g c =
    let at = c.loop-pair.invariant.at in
    let new = planned g.P.Ord.cmp c.plan_start-2.new.self in (
      at.so.done,
      at.so.out,
      all_so_far at.so new
          (subst (λ (ms : List (Message g.row.P.Denot)). WakesEach g.P.Ord.cmp c.args.now ms
          (planned g.P.Ord.cmp c.loop-pair.self) (goes [] new))
          (sym (none_at g.P.Ord.cmp at c.loop-pair-test.false)) (all_started c.plan_start-2.ensures.plans)),
    )

pub returns-then-not-is_ready-clause-wakes : goal.returns-then-not-is_ready-clause-wakes
returns-then-not-is_ready-clause-wakes g c = (
  [],
  sym (append-nil (map ended_of c.args.ended.now.items)),
  none_wake g.P.Ord.cmp g.met.P.Ord.total c.args.now (planned g.P.Ord.cmp c.args.self.now)
      (planned g.P.Ord.cmp c.plan_start.new.self)
      (λ some. let ready = c.is_ready.ensures.ready.1 some in let none = c.if-not-is_ready.true in cc) c.plan_start.ensures.plans,
)
