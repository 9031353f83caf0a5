use Rattle.link_events.proofs.Common.{◌≡◌, List, [], ◌∷◌, map, sym, ap, ◌∙◌, subst, rules, length, refl}
use Rattle.link_events.proofs.Common.{err_from_is_err_and, into_iter_items, Message, message_of, ended_of, outgoing_by}
use Rattle.link_events.proofs.Common.{planned}
use Rattle.std.proofs.lemmas.Iterator.Adapters.{YieldsList-from_vec}
use Rattle.std.proofs.lemmas.Iterator.Consumers.{YieldsList-end}
use Rattle.std.specs.Vec.{vec_len}
use Rattle.link_events.proofs.Steps.Batch.{given_so_far, none_behind}
use Rattle.link_events.proofs.Steps.Settling.{if_ok}
use Rattle.link_events.proofs.Steps.Standing.{StandsSo, stands_start, stands_step, stands_refused, stands_end}
use Rattle.link_events.proofs.ledger.Ledger.enqueue_all.Goals as goal

pub loop-message-init : goal.loop-message-init
loop-message-init g c = record {
  before = refl;
  so = rw (c.into_iter-message-iterator.ensures.into_iter_gives.0, c.requires)
      (stands_start g.P.Ord.cmp g.met.P.Ord.total c.args.now (map (outgoing_by g.M.Payload.bytes) c.args.messages.items)
      (planned g.P.Ord.cmp c.args.self.now));
}

pub returns-in_err-standing-clause-refused : goal.returns-in_err-standing-clause-refused
returns-in_err-standing-clause-refused g c =
    let p = err_from_is_err_and c.from_residual.result c.from_residual.ensures.1 in
    let so = subst (λ (ms : List (Message g.row.P.Denot)). StandsSo g.P.Ord.cmp g.met.P.Ord.total c.args.now
    (map (outgoing_by g.M.Payload.bytes) c.args.messages.items) (planned g.P.Ord.cmp c.args.self.now) ms
    (planned g.P.Ord.cmp c.loop-message.self) c.loop-message.standing (map ended_of c.loop-message.ended.items))
    (ap (map (outgoing_by g.M.Payload.bytes)) c.in-Some.ensures.steps.0
    ∙ ap (λ (m : Message g.row.P.Denot). m ∷ map (outgoing_by g.M.Payload.bytes) (into_iter_items c.next.new.self))
    (sym c.into_message.ensures)) c.loop-message.invariant.so in
    rw (p.1, p.2)
    (stands_refused g.P.Ord.cmp g.met.P.Ord.total c.args.now (map (outgoing_by g.M.Payload.bytes) c.args.messages.items)
    (planned g.P.Ord.cmp c.args.self.now) (message_of c.into_message.result)
    (map (outgoing_by g.M.Payload.bytes) (into_iter_items c.next.new.self)) (planned g.P.Ord.cmp c.loop-message.self) c.loop-message.standing
    (map ended_of c.loop-message.ended.items) _ so c.in_err-standing.ensures.refused)

pub loop-message-preserved : goal.loop-message-preserved
loop-message-preserved g c =
    let so = subst (λ (ms : List (Message g.row.P.Denot)). StandsSo g.P.Ord.cmp g.met.P.Ord.total c.args.now
    (map (outgoing_by g.M.Payload.bytes) c.args.messages.items) (planned g.P.Ord.cmp c.args.self.now) ms
    (planned g.P.Ord.cmp c.loop-message.self) c.loop-message.standing (map ended_of c.loop-message.ended.items))
    (ap (map (outgoing_by g.M.Payload.bytes)) c.in-Some.ensures.steps.0
    ∙ ap (λ (m : Message g.row.P.Denot). m ∷ map (outgoing_by g.M.Payload.bytes) (into_iter_items c.next.new.self))
    (sym c.into_message.ensures)) c.loop-message.invariant.so in
    record {
      before = c.enqueue_next.ensures.before ∙ c.loop-message.invariant.before;
      so = stands_step g.P.Ord.cmp g.met.P.Ord.total c.args.now (map (outgoing_by g.M.Payload.bytes) c.args.messages.items)
          (planned g.P.Ord.cmp c.args.self.now) (message_of c.into_message.result)
          (map (outgoing_by g.M.Payload.bytes) (into_iter_items c.next.new.self)) (planned g.P.Ord.cmp c.loop-message.self)
          (planned g.P.Ord.cmp c.enqueue_next.new.self) c.loop-message.standing c.in_ok-standing.standing
          (map ended_of c.loop-message.ended.items) (map ended_of c.enqueue_next.new.ended.items) so
          c.in_ok-standing.ensures.enqueues;
    }

pub returns-clause-enqueues : goal.returns-clause-enqueues
returns-clause-enqueues g c =
    let long : vec_len c.args.messages ≡ length c.args.messages.items = search rules in
    let end =
    YieldsList-end (YieldsList-from_vec c.args.messages.items c.into_iter-message-iterator.ensures.into_iter_gives.0
    (c.into_iter-message-iterator.ensures.into_iter_gives.1 ∙ long)) c.loop-message.yielded
    c.loop-message.message-iterator c.loop-message.yielded_by c.next.result c.next.new.self c.in-None.is
    c.next.ensures.steps in
    let none : into_iter_items c.loop-message.message-iterator ≡ [] =
    none_behind c.args.messages.items c.loop-message.yielded (into_iter_items c.loop-message.message-iterator)
    (sym c.into_iter-message-iterator.ensures.into_iter_gives.0
    ∙ given_so_far c.into_iter-message-iterator.result c.loop-message.yielded c.loop-message.message-iterator
    c.loop-message.yielded_by) (sym end.1) in
    if_ok c.catch_up.result (λ done is. stands_end g.P.Ord.cmp g.met.P.Ord.total c.args.now (map (outgoing_by g.M.Payload.bytes) c.args.messages.items)
    (planned g.P.Ord.cmp c.args.self.now) (map (outgoing_by g.M.Payload.bytes) (into_iter_items c.loop-message.message-iterator))
    (planned g.P.Ord.cmp c.loop-message.self) (planned g.P.Ord.cmp c.catch_up.new.self) c.loop-message.standing
    (map ended_of c.loop-message.ended.items) c.loop-message.invariant.so (ap (map (outgoing_by g.M.Payload.bytes)) none)
    is) c.catch_up.ensures.caught_up
