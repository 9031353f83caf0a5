use Rattle.link_events.proofs.Common.{List, ◌∷◌, ◌++◌, [], drop, map, sym, ap, ◌∙◌, subst, err_from_is_err_and}
use Rattle.link_events.proofs.Common.{Message, Leaves, Settles, meets, message_of, messages, ended_of, planned}
use Rattle.link_simulation.proofs.Simulation.RefusalCauses.{memory_refuses}
use Rattle.link_events.proofs.Steps.Landing.{no_message, none_leaves, first_lands}
use Rattle.link_events.proofs.Steps.SettledFirst.{first_and_others}
use Rattle.link_events.proofs.Steps.SettledFirst.{settles_none, stopped_first, refused_landing, settles_others}
use Rattle.link_events.proofs.Steps.Settling.{if_ok}
use Rattle.link_events.proofs.ledger.Ledger.settle_first.Goals as goal

pub rate-requires-clause-leaves : goal.rate-requires-clause-leaves
rate-requires-clause-leaves g c = (
  planned g.P.Ord.cmp c.args.self.now,
  messages c.in_ok-left.left.done.items,
  none_leaves g.P.Ord.cmp c.args.now (planned g.P.Ord.cmp c.args.self.now)
      (planned g.P.Ord.cmp c.leave_landing_at.new.self) (messages c.in_ok-left.left.done.items)
      c.in_ok-left.left.deliver_at c.in_ok-left.left.since
      (no_message c.in_ok-left.left.done.items c.in_default.ensures.item.3) c.in_ok-left.ensures.lands,
)

pub returns-in_default-clause-settles : goal.returns-in_default-clause-settles
returns-in_default-clause-settles g c =
    let old = planned g.P.Ord.cmp c.args.self.now in
    let queue = messages c.in_ok-left.left.done.items in
    settles_none g.P.Ord.cmp c.args.now old (planned g.P.Ord.cmp c.rate.new.self) queue
    (map ended_of c.args.ended.now.items)
    (c.in_ok-rate.ensures.accounts old queue
    (none_leaves g.P.Ord.cmp c.args.now old (planned g.P.Ord.cmp c.leave_landing_at.new.self) queue
    c.in_ok-left.left.deliver_at c.in_ok-left.left.since
    (no_message c.in_ok-left.left.done.items c.in_default.ensures.item.3) c.in_ok-left.ensures.lands))

pub returns-in_err-left-clause-refused : goal.returns-in_err-left-clause-refused
returns-in_err-left-clause-refused g c =
    let p = err_from_is_err_and c.from_residual.result c.from_residual.ensures.1 in
    let old = planned g.P.Ord.cmp c.args.self.now in
    rw (p.1, p.2)
    (refused_landing g.P.Ord.cmp g.met.P.Ord.total c.args.now old _ c.in_err-left.ensures.refused)

pub returns-in_err-more-clause-refused : goal.returns-in_err-more-clause-refused
returns-in_err-more-clause-refused g c =
    let p = err_from_is_err_and c.from_residual-in_err-more.result c.from_residual-in_err-more.ensures.1 in
    let old = planned g.P.Ord.cmp c.args.self.now in
    let queue = c.in_ok-left.left.done.items in
    let m = message_of c.deref.result.now in
    let first = first_and_others queue c.in-Some.first.now c.deref.result.now c.in-Some.ensures.item.3.0
    c.in-Some.ensures.lookup c.deref.ensures in
    let lands =
    first_lands g.P.Ord.cmp c.args.now old (planned g.P.Ord.cmp c.leave_landing_at.new.self) m
    (messages (drop 1 queue)) (messages queue) c.in_ok-left.left.deliver_at c.in_ok-left.left.since first
    c.in_ok-left.ensures.lands in
    let leaves : Leaves g.P.Ord.cmp c.args.now old (messages queue) lands.here =
    subst (λ (l : List (Message g.row.P.Denot)). Leaves g.P.Ord.cmp c.args.now old l lands.here) (sym first)
    lands.leaves in
    rw (p.1, p.2)
    (stopped_first g.P.Ord.cmp c.args.now old m (messages queue) (messages (drop 1 queue)) first lands.in_time _
    (c.in_err-more.ensures.refused old lands.here (messages queue) leaves lands.lands))

pub returns-clause-settles : goal.returns-clause-settles
returns-clause-settles g c =
    let old = planned g.P.Ord.cmp c.args.self.now in
    let queue = c.in_ok-left.left.done.items in
    let m = message_of c.deref.result.now in
    let first = first_and_others queue c.in-Some.first.now c.deref.result.now c.in-Some.ensures.item.3.0
    c.in-Some.ensures.lookup c.deref.ensures in
    let lands =
    first_lands g.P.Ord.cmp c.args.now old (planned g.P.Ord.cmp c.leave_landing_at.new.self) m
    (messages (drop 1 queue)) (messages queue) c.in_ok-left.left.deliver_at c.in_ok-left.left.since first
    c.in_ok-left.ensures.lands in
    let leaves : Leaves g.P.Ord.cmp c.args.now old (messages queue) lands.here =
    subst (λ (l : List (Message g.row.P.Denot)). Leaves g.P.Ord.cmp c.args.now old l lands.here) (sym first)
    lands.leaves in
    if_ok c.complete_first.result (λ rest completes.
    let done = completes m (messages (drop 1 queue)) first in
    settles_others g.P.Ord.cmp g.met.P.Ord.total c.args.now old
    (planned g.P.Ord.cmp c.rate_with_next.new.self) m
    (messages queue) (messages (drop 1 queue))
    (messages c.in_ok-more.more.items) (messages rest.items) (map ended_of c.args.ended.now.items)
    (map ended_of c.complete_first.new.ended.items) first done.0
    (done.1 ∙ ap (λ x. map ended_of c.args.ended.now.items ++ x ∷ []) lands.completion) lands.in_time
    (c.in_ok-more.ensures.launches old lands.here (messages queue) leaves lands.lands))
    c.complete_first.ensures.completes

pub returns-clause-refused : goal.returns-clause-refused
returns-clause-refused g c =
    memory_refuses (λ fault. Settles g.P.Ord.cmp c.args.now (planned g.P.Ord.cmp c.args.self.now) (meets fault))
    c.complete_first.result c.complete_first.ensures.refused
