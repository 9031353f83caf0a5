use Rattle.link_events.proofs.Common.{◌≡◌, [], ◌∷◌, ◌++◌, map, sym, ap, ◌∙◌, rules, map-append, completion_of, message_of}
use Rattle.link_events.proofs.Common.{messages, ended_of}
use Rattle.link_events.proofs.Steps.SettledFirst.{same_first, same_others, no_first}
use Rattle.link_events.proofs.settling.complete_first.Goals as goal

pub returns-in_default-clause-completes : goal.returns-in_default-clause-completes
returns-in_default-clause-completes g c = λ m ms is.
    let none : c.args.queue.items ≡ [] = search rules in
    absurd (no_first (sym (ap messages none) ∙ is))

pub returns-clause-completes : goal.returns-clause-completes
returns-clause-completes g c = λ m ms is.
    let popped : messages c.args.queue.items
    ≡ message_of c.in-Some.message.value ∷ messages c.pop_front.new.self.items = ap messages c.in-Some.ensures.items in
    let both = sym is ∙ popped in (
      ap messages c.in_ok-append.ensures.items
          ∙ map-append (λ r. message_of r.value) c.pop_front.new.self.items c.args.more.items
          ∙ ap (λ l. l ++ messages c.args.more.items) (sym (same_others both)),
      ap (map ended_of) c.in_ok-push.ensures.items
          ∙ map-append ended_of c.args.ended.now.items
          (record { message = c.in-Some.message; done_at = c.args.now; deliver_at = c.args.deliver_at } ∷ [])
          ∙ ap
          (λ n. map ended_of c.args.ended.now.items ++ completion_of n c.args.now c.args.deliver_at ∷ [])
          (sym (same_first both)),
    )
