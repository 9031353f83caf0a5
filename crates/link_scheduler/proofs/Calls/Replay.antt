-- Replies in turn, by the event rule.
use Rattle.link_scheduler.proofs.Common.{◌≡◌, ℕ, List, ◌∷◌, ap, subst, Ghosts, Ordering, IsTotalOrder, Error, Call}
use Rattle.link_scheduler.proofs.Common.{reply_refused, Planned, State, planned_of, same_turned}
use Rattle.link_simulation.specs.Simulation.Calls.{call_next}
use Rattle.link_simulation.specs.Simulation.Replies.{Reply, reply_done, reply_next}
use Rattle.link_simulation.specs.Rule.Refusals.{Obeyed}
use Rattle.link_simulation.proofs.Rule.SameRefusals.{obeyed_same}
use Rattle.link_scheduler.specs.declared.call.Reply as reply_code
use Rattle.link_scheduler.specs.declared.call.Reply.TheVariants as replies
use Rattle.link_scheduler.specs.Calls.Replay.{IsAnswered, MayRefuseCall, IsReplyTo, reply_of}

module _ {P : Type 0} (cmp : P → P → Ordering) (order : IsTotalOrder cmp) where
  -- a reply, and those after it
  pub one_more : (p q : Planned P) (call : Call P) (reply : Reply P) (calls : List (Call P)) (replies : List (Reply P))
      → IsReplyTo cmp p call reply q → Obeyed cmp q calls replies → Obeyed cmp p (call ∷ calls) (reply ∷ replies)
  one_more p q call_next (reply_next t) calls replies h rest =
      (h.0, subst (λ (r : Planned P). Obeyed cmp r calls replies) h.1 rest)
  one_more p q call_next (reply_done cs) calls replies h rest = absurd h
  one_more p q call_next (reply_refused e) calls replies h rest = absurd h
  one_more p q call (reply_done cs) calls replies h rest = (
    h.answers,
    h.after,
    h.obeys,
    h.same_answers,
    obeyed_same cmp order q h.after calls replies
        (same_turned cmp order h.after q h.same_after) rest,
  )
  one_more p q call (reply_refused e) calls replies h rest =
      (h.0, subst (λ (r : Planned P). Obeyed cmp r calls replies) h.1 rest)
  one_more p q call (reply_next t) calls replies h rest = absurd h

-- what a scheduler answers, or refuses, is a reply by the event rule
module _ {P : Type 0} {order : Ghosts P} {b : _} {c : _} (old new : State P (List ℕ) order b c) where
  pub answered_by_rule : (call : Call P) (reply : reply_code.Reply P (List ℕ)) → IsAnswered old call reply new
      → IsReplyTo order.cmp (planned_of old) call (reply_of reply) (planned_of new)
  answered_by_rule call_next (replies.Next moment) h = (h.0.planned, ap planned_of h.1)
  answered_by_rule call_next (replies.Done completions) h = h
  answered_by_rule call_next (replies.Refused why) h = h
  answered_by_rule call (replies.Done completions) h = h.by_rule
  answered_by_rule call (replies.Next moment) h = h
  answered_by_rule call (replies.Refused why) h = absurd h

  pub refused_by_rule : (call : Call P) (why : Error) → MayRefuseCall old call why → planned_of new ≡ planned_of old
      → IsReplyTo order.cmp (planned_of old) call (reply_refused why) (planned_of new)
  refused_by_rule call_next why h same = h
  refused_by_rule call why h same = (h.by_rule, same)
