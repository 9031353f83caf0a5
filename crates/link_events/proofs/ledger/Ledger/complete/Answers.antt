use Rattle.link_events.proofs.Common.{◌≡◌, [], ◌∷◌, ◌++◌, map, sym, ap, ◌∙◌, subst, map-append, err_from_is_err_and}
use Rattle.link_events.proofs.Common.{IsRefusedFor, goes, meets, completion_of, completed, is_late, Launches, Finishes}
use Rattle.link_events.proofs.Common.{landed, message_of, ended_of, messages, first_of, planned}
use Rattle.link_events.proofs.Steps.Finishing.{refused_landing, refused_launch, launches_landed}
use Rattle.link_events.proofs.ledger.Ledger.complete.Goals as goal

pub returns-in_err-deliver_at-clause-refused : goal.returns-in_err-deliver_at-clause-refused
returns-in_err-deliver_at-clause-refused g c =
    let p = err_from_is_err_and c.from_residual.result c.from_residual.ensures.1 in
    let here = planned g.P.Ord.cmp c.args.self.now in
    rw (p.1, p.2)
    (λ ms. subst
    (λ x. IsRefusedFor (λ fault. Finishes g.P.Ord.cmp c.args.now (message_of x ∷ ms) here (meets fault))
    c.in_err-deliver_at.field-0.0)
    c.deref-contents.ensures
    (refused_landing g.P.Ord.cmp c.args.now (message_of c.deref-contents.result.now) ms here _
    c.in_err-deliver_at.ensures.refused))

pub returns-in_err-more-clause-refused : goal.returns-in_err-more-clause-refused
returns-in_err-more-clause-refused g c =
    let p = err_from_is_err_and c.from_residual-in_err-more.result c.from_residual-in_err-more.ensures.1 in
    let here = planned g.P.Ord.cmp c.args.self.now in
    let mid = planned g.P.Ord.cmp c.land.new.self in
    rw (p.1, p.2)
    (λ ms. refused_launch g.P.Ord.cmp c.args.now (message_of c.args.message.value) ms here mid
    (ap (λ x. is_late g.P.Ord.cmp c.args.now (message_of x)) (sym c.deref-contents.ensures)
    ∙ c.in_ok-deliver_at.ensures.in_time)
    (c.in_ok-deliver_at.ensures.landed
    ∙ ap (λ x. landed g.P.Ord.cmp c.args.now here (message_of x)) c.deref-contents.ensures) _
    (subst
    (λ x. IsRefusedFor (λ fault. Launches g.P.Ord.cmp c.args.now mid
    (first_of g.P.Ord.cmp mid.waiting x.origin x.recipient) (meets fault)) c.in_err-more.field-0.0)
    c.deref-contents.ensures c.in_err-more.ensures.refused))

pub returns-clause-in_time : goal.returns-clause-in_time
returns-clause-in_time g c =
    ap (λ x. is_late g.P.Ord.cmp c.args.now (message_of x)) (sym c.deref-contents.ensures)
    ∙ c.in_ok-deliver_at.ensures.in_time

pub returns-clause-completion : goal.returns-clause-completion
returns-clause-completion g c =
    let deliver_at = c.in_ok-deliver_at.deliver_at in
    let there : completion_of (message_of c.args.message.value) c.args.now deliver_at
    ≡ completed g.P.Ord.cmp c.args.now (message_of c.args.message.value) =
    subst (λ x. completion_of (message_of x) c.args.now deliver_at ≡ completed g.P.Ord.cmp c.args.now (message_of x))
    c.deref-contents.ensures c.in_ok-deliver_at.ensures.completion in
    ap (map ended_of) c.in_ok-push.ensures.items
    ∙ map-append ended_of c.args.ended.now.items (record { message = c.args.message; done_at = c.args.now; deliver_at = deliver_at } ∷ [])
    ∙ ap (λ x. map ended_of c.args.ended.now.items ++ x ∷ []) there

pub returns-clause-launches : goal.returns-clause-launches
returns-clause-launches g c =
    let here = planned g.P.Ord.cmp c.args.self.now in
    let mid = planned g.P.Ord.cmp c.land.new.self in
    launches_landed g.P.Ord.cmp c.args.now (message_of c.args.message.value) here mid _
    (c.in_ok-deliver_at.ensures.landed
    ∙ ap (λ x. landed g.P.Ord.cmp c.args.now here (message_of x)) c.deref-contents.ensures)
    (subst
    (λ x. Launches g.P.Ord.cmp c.args.now mid (first_of g.P.Ord.cmp mid.waiting x.origin x.recipient)
    (goes (messages c.in_ok-more.more.items) (planned g.P.Ord.cmp c.launch_from.new.self)))
    c.deref-contents.ensures c.in_ok-more.ensures.launches)

pub launch_from-requires : goal.launch_from-requires
launch_from-requires g c = c.in_ok-deliver_at.ensures.idle

pub land-requires : goal.land-requires
land-requires g c = sym c.has-is_busy.ensures
