use Rattle.link_replay.proofs.Common.{◌≡◌, ◌≤◌, ◌<◌, ◌+◌, ◌++◌, ◌∷◌, [], map, ap, sym, ◌∙◌, subst, vec_capacity}
use Rattle.link_replay.proofs.Common.{vec_len, length-map, map-append, new_planned, planned_of, call_of, reply_of}
use Rattle.std.proofs.Common.{if◌then◌else◌}
use Rattle.std.specs.Result.{is_ok}
use Rattle.std.proofs.lemmas.List.{get_or-map}
use Rattle.link_replay.proofs.Calls.Replay.{begins, has_room, goes_on, ends, one_for_each}
use Rattle.link_simulation.proofs.Rule.Agreeing.{obeyed_agree}
use Rattle.link_simulation.proofs.Laws.ConservedSoFar.{conserved_so_far}
use Rattle.link_simulation.proofs.Rule.RepliesInRange.{refuses_for_memory}
use Rattle.link_simulation.proofs.Laws.Replies.{pairs_complete_in_order, sets_are_isolated}
use Rattle.link_replay.proofs.replay.replay.Goals as goal

pub loop-call-init : goal.loop-call-init
loop-call-init g c =
    begins g.P.Ord.cmp g.met.P.Ord.total (new_planned 0) (planned_of c.new-state.result)
    (map call_of c.args.calls.now) (map reply_of c.in_ok-replies.replies.items) (vec_len c.in_ok-replies.replies)
    (vec_capacity c.in_ok-replies.replies)
    (ap (map reply_of) c.in_ok-replies.ensures.items) c.in_ok-replies.ensures.len
    (subst (λ n. n ≤ vec_capacity c.in_ok-replies.replies)
    (sym (length-map c.args.calls.now call_of)) c.in_ok-replies.ensures.capacity) c.new-state.ensures.new.planned

pub unwrap-requires : goal.unwrap-requires
unwrap-requires g c =
    c.push.ensures.succeeds (has_room g.P.Ord.cmp g.met.P.Ord.total (new_planned 0)
    (map call_of c.args.calls.now) c.loop-call.call-index (map reply_of c.loop-call.replies.items)
    (vec_len c.loop-call.replies) (vec_capacity c.loop-call.replies) (planned_of c.loop-call.state)
    c.loop-call.invariant
    (subst (λ n. c.loop-call.call-index < n) (sym (length-map c.args.calls.now call_of)) c.loop-call-test.true))

pub loop-call-preserved : goal.loop-call-preserved
loop-call-preserved g c =
    rw (
      subst (λ r. c.push.new.self.items ≡ (if is_ok r then c.loop-call.replies.items
          ++ c.answer.result ∷ [] else c.loop-call.replies.items)) c.unwrap.ensures c.push.ensures.items,
      subst (λ r. vec_len c.push.new.self
          ≡ (if is_ok r then vec_len c.loop-call.replies + 1 else vec_len c.loop-call.replies)) c.unwrap.ensures
          c.push.ensures.len,
      map-append reply_of c.loop-call.replies.items (c.answer.result ∷ []),
    )
    (goes_on g.P.Ord.cmp g.met.P.Ord.total (new_planned 0) (map call_of c.args.calls.now) c.loop-call.call-index
    (map reply_of c.loop-call.replies.items) (vec_len c.loop-call.replies) (vec_capacity c.loop-call.replies)
    (vec_capacity c.push.new.self)
    (planned_of c.loop-call.state) (planned_of c.answer.new.state)
    (call_of c.call-item.result) (reply_of c.answer.result) c.loop-call.invariant
    (subst (λ n. c.loop-call.call-index < n) (sym (length-map c.args.calls.now call_of)) c.loop-call-test.true)
    (ap call_of c.call-item.is ∙ sym (get_or-map call_of c.args.calls.now c.loop-call.call-index c.call-item.result
    (call_of c.call-item.result) c.loop-call-test.true)) c.push.ensures.capacity c.answer.ensures.in_time
    c.answer.ensures.reply)

pub returns-clause-obeyed : goal.returns-clause-obeyed
returns-clause-obeyed g c =
    (ends g.P.Ord.cmp g.met.P.Ord.total (new_planned 0) (map call_of c.args.calls.now) c.loop-call.call-index
    (map reply_of c.loop-call.replies.items) (vec_len c.loop-call.replies) (vec_capacity c.loop-call.replies)
    (planned_of c.loop-call.state) c.loop-call.invariant
    (subst (λ n. n ≤ c.loop-call.call-index) (sym (length-map c.args.calls.now call_of)) c.loop-call-test.false)).0

pub returns-clause-agrees : goal.returns-clause-agrees
returns-clause-agrees g c =
    let replied =
    ends g.P.Ord.cmp g.met.P.Ord.total (new_planned 0) (map call_of c.args.calls.now) c.loop-call.call-index
    (map reply_of c.loop-call.replies.items) (vec_len c.loop-call.replies) (vec_capacity c.loop-call.replies)
    (planned_of c.loop-call.state) c.loop-call.invariant
    (subst (λ n. n ≤ c.loop-call.call-index) (sym (length-map c.args.calls.now call_of)) c.loop-call-test.false) in
    obeyed_agree g.P.Ord.cmp g.met.P.Ord.total (map call_of c.args.calls.now) (map reply_of c.loop-call.replies.items)
    replied.1 replied.0

pub returns-clause-one_each : goal.returns-clause-one_each
returns-clause-one_each g c =
    sym (length-map c.loop-call.replies.items reply_of)
    ∙ one_for_each g.P.Ord.cmp g.met.P.Ord.total (new_planned 0) (map call_of c.args.calls.now)
    (map reply_of c.loop-call.replies.items) (returns-clause-obeyed g c) ∙ length-map c.args.calls.now call_of

pub returns-clause-in_range : goal.returns-clause-in_range
returns-clause-in_range g c =
    refuses_for_memory g.P.Ord.cmp g.met.P.Ord.total (map call_of c.args.calls.now)
    (map reply_of c.loop-call.replies.items) (returns-clause-obeyed g c)

pub returns-clause-conserved : goal.returns-clause-conserved
returns-clause-conserved g c =
    conserved_so_far g.P.Ord.cmp g.met.P.Ord.total 0 (map call_of c.args.calls.now)
    (map reply_of c.loop-call.replies.items) (returns-clause-obeyed g c)

pub returns-clause-order : goal.returns-clause-order
returns-clause-order g c =
    pairs_complete_in_order g.P.Ord.cmp g.met.P.Ord.total (map call_of c.args.calls.now)
    (map reply_of c.loop-call.replies.items) (returns-clause-agrees g c)

pub returns-clause-isolation : goal.returns-clause-isolation
returns-clause-isolation g c =
    let replied =
    ends g.P.Ord.cmp g.met.P.Ord.total (new_planned 0) (map call_of c.args.calls.now) c.loop-call.call-index
    (map reply_of c.loop-call.replies.items) (vec_len c.loop-call.replies) (vec_capacity c.loop-call.replies)
    (planned_of c.loop-call.state) c.loop-call.invariant
    (subst (λ n. n ≤ c.loop-call.call-index) (sym (length-map c.args.calls.now call_of)) c.loop-call-test.false) in
    sets_are_isolated g.P.Ord.cmp g.met.P.Ord.total (map call_of c.args.calls.now)
    (map reply_of c.loop-call.replies.items) replied.1 (returns-clause-agrees g c)
