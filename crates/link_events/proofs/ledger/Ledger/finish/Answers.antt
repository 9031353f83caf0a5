use Rattle.link_events.proofs.Common.{◌≡◌, ◌+◌, List, [], ◌∷◌, ◌++◌, map, length, refl, sym, ap, ◌∙◌, subst, arith}
use Rattle.link_events.proofs.Common.{length-append, rules, err_from_is_err_and, Message, same_pair, message_of}
use Rattle.link_events.proofs.Common.{ended_of, messages, planned, Finishes, all_completed, completes, completed, goes}
use Rattle.link_events.proofs.Common.{meets, preceded, map-append, length-map}
use Rattle.link_events.proofs.Steps.SoFar.{none_so_far, step_so_far, all_so_far, refused_so_far}
use Rattle.link_events.proofs.Steps.MessageCounts.{in_system, launch_keeps}
use Rattle.link_events.proofs.ledger.Ledger.finish.Goals as goal

pub loop-message-init : goal.loop-message-init
loop-message-init g c = record { so = none_so_far _ (map ended_of c.args.ended.now.items); before = refl }

pub returns-in_err-more-clause-refused : goal.returns-in_err-more-clause-refused
returns-in_err-more-clause-refused g c =
    let p = err_from_is_err_and c.from_residual.result c.from_residual.ensures.1 in
    let cmp = g.P.Ord.cmp in
    let here = planned cmp c.loop-message.self in
    let first : messages c.loop-message.queue.items
    ≡ message_of c.in-Some.message.value ∷ messages c.pop_front.new.self.items = ap messages c.in-Some.ensures.items in
    rw (p.1, p.2)
    (refused_so_far c.loop-message.invariant.so
    (λ fault. Finishes cmp c.args.now (message_of c.in-Some.message.value ∷ messages c.pop_front.new.self.items) here
    (meets fault))
    (λ fault. subst (λ (ms : List (Message g.row.P.Denot)). Finishes cmp c.args.now ms here (meets fault)) (sym first)) _
    (c.in_err-more.ensures.refused (messages c.pop_front.new.self.items)))

pub loop-message-smaller : goal.loop-message-smaller
loop-message-smaller g c =
    let kept : length (messages c.in_ok-more.more.items) + in_system (planned g.P.Ord.cmp c.complete.new.self)
    ≡ in_system (planned g.P.Ord.cmp c.loop-message.self) =
    launch_keeps g.P.Ord.cmp g.met.P.Ord.total c.in_ok-more.ensures.launches
    (same_pair g.P.Ord.cmp (message_of c.in-Some.message.value)) (messages c.in_ok-more.more.items)
    (planned g.P.Ord.cmp c.complete.new.self) refl refl in
    let popped : length c.loop-message.queue.items ≡ length (c.in-Some.message ∷ c.pop_front.new.self.items) =
    ap length c.in-Some.ensures.items in
    let joined : length c.append.new.self.items ≡ length (c.pop_front.new.self.items ++ c.in_ok-more.more.items) =
    ap length c.in_ok-append.ensures.items in
    let both : length (c.pop_front.new.self.items ++ c.in_ok-more.more.items)
    ≡ length c.pop_front.new.self.items + length c.in_ok-more.more.items
    = length-append c.pop_front.new.self.items c.in_ok-more.more.items in
    let more : length (messages c.in_ok-more.more.items) ≡ length c.in_ok-more.more.items =
    length-map c.in_ok-more.more.items (λ m. message_of m.value) in
    let here : length (messages c.loop-message.queue.items) ≡ length c.loop-message.queue.items =
    length-map c.loop-message.queue.items (λ m. message_of m.value) in
    let next : length (messages c.append.new.self.items) ≡ length c.append.new.self.items =
    length-map c.append.new.self.items (λ m. message_of m.value) in
    omega (arith, kept, popped, joined, both, more, here, next)

pub loop-message-preserved : goal.loop-message-preserved
loop-message-preserved g c =
    let cmp = g.P.Ord.cmp in
    let here = planned cmp c.loop-message.self in
    let next = planned cmp c.complete.new.self in
    let first : messages c.loop-message.queue.items
    ≡ message_of c.in-Some.message.value ∷ messages c.pop_front.new.self.items = ap messages c.in-Some.ensures.items in
    let joined : messages c.append.new.self.items ≡ messages c.pop_front.new.self.items
    ++ messages c.in_ok-more.more.items = ap messages c.in_ok-append.ensures.items
    ∙ map-append (λ m. message_of m.value) c.pop_front.new.self.items c.in_ok-more.more.items in
    let one = completed cmp c.args.now (message_of c.in-Some.message.value) ∷ [] in
    record {
      before = c.complete.ensures.before ∙ c.loop-message.invariant.before;
      so = step_so_far c.loop-message.invariant.so
          (Finishes cmp c.args.now (messages c.append.new.self.items) next) one
          (map ended_of c.complete.new.ended.items) c.in_ok-more.ensures.completion
          (λ course h.
          subst (λ (ms : List (Message g.row.P.Denot)). Finishes cmp c.args.now ms here (preceded one course))
          (sym first)
          (completes c.in_ok-more.ensures.in_time c.in_ok-more.ensures.launches
          (subst (λ (ms : List (Message g.row.P.Denot)). Finishes cmp c.args.now ms next course) joined h)));
    }

pub returns-clause-finishes : goal.returns-clause-finishes
returns-clause-finishes g c =
    let none : c.loop-message.queue.items ≡ [] = search rules in
    let far = c.loop-message.invariant.so in
    let new = planned g.P.Ord.cmp c.plan_start.new.self in (
      far.done,
      far.out,
      all_so_far far new
          (subst (λ (ms : List (Message g.row.P.Denot)). Finishes g.P.Ord.cmp c.args.now ms
          (planned g.P.Ord.cmp c.loop-message.self) (goes [] new)) (sym (ap messages none))
          (all_completed c.plan_start.ensures.plans)),
    )
