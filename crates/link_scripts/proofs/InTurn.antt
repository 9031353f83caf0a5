-- Calls that a session makes one after another, and what is printed of them.
use Rattle.link_scripts.proofs.Common.{◌≡◌, ℕ, List, [], ◌∷◌, ◌++◌, Option, map, refl, sym, ap, ◌∙◌, subst}
use Rattle.link_scripts.proofs.Common.{append_assoc, append-nil, Result, Ok, Err, IfOk, IfErr, OnOk, OnErr, nat_cmp}
use Rattle.link_scripts.proofs.Common.{Appends, map-append, flat_map-append, Error, Outgoing, completed_of, Call}
use Rattle.link_scripts.proofs.Common.{call_enqueue, Message, Completed, Planned, reply_of, MayRefuseCall, planned_of}
use Rattle.link_scripts.proofs.Common.{MakesEach, Answer, Session, done_line, done_text, reply_text, refusal_line}
use Rattle.link_scripts.proofs.Common.{answer_text, PrintsInTurn, SaysSame, KeepsPlanned, world_call, zeroed}
use Rattle.link_scripts.proofs.Common.{zeroed_sends, AnswersEach}
use Rattle.link_simulation.specs.Simulation.Replies.{Reply, reply_done, reply_refused}
use Rattle.link_scheduler.specs.declared.call.Call as script
use Rattle.link_scheduler.specs.declared.call.Reply as reply_code
use Rattle.link_scheduler.specs.declared.call.Reply.TheVariants as replies
use Rattle.link_scheduler.specs.Calls.Replay.{IsReplyTo}
use Rattle.link_scheduler.proofs.Calls.Replay.{answered_by_rule, refused_by_rule}
use Rattle.link_scripts.specs.declared.linkrun.answer.Answer.TheVariants as answers
use Rattle.link_scripts.specs.Gathered.{AnswersInTurn}
use Rattle.link_scripts.specs.Schedule.{AnswersCall}
use Rattle.link_scripts.proofs.Printing.{Appends-append}

-- ---- the answers

-- one call more, after those so far
in_turn-append : (calls : List (Call ℕ)) (call : Call ℕ) (p mid q : Planned ℕ) (text : List ℕ) (reply : Reply ℕ)
    → AnswersInTurn p calls text mid → IsReplyTo nat_cmp mid call reply q
    → AnswersInTurn p (calls ++ call ∷ []) (text ++ reply_text reply) q
in_turn-append [] call p mid q text reply (is, same) last = (
  reply,
  [],
  q,
  ap (λ front. front ++ reply_text reply) is ∙ sym (append-nil (reply_text reply)),
  subst (λ (r : Planned ℕ). IsReplyTo nat_cmp r call reply q) same last,
  (refl, refl),
)
in_turn-append (first ∷ calls) call p mid q text reply (one, rest, between, is, answered, others) last = (
  one,
  rest ++ reply_text reply,
  between,
  ap (λ front. front ++ reply_text reply) is ∙ append_assoc (reply_text one) rest (reply_text reply),
  answered,
  in_turn-append calls call between mid q rest reply others last,
)

-- messages that are sent one after another are answered in turn
made_in_turn : (now : ℕ) (ms : List (Message ℕ)) (p q : Planned ℕ) (cs : List (Completed ℕ))
    → MakesEach nat_cmp p (map (λ m. call_enqueue now m) ms) cs q
    → AnswersInTurn p (map (λ m. call_enqueue now m) ms) (done_text cs) q
made_in_turn now [] p q cs (is, same) = (ap done_text is, same)
made_in_turn now (m ∷ ms) p q cs (first, rest, between, is, made, others) = (
  reply_done first,
  done_text rest,
  between,
  ap done_text is ∙ flat_map-append done_line first rest,
  made.by_rule,
  made_in_turn now ms between q rest others,
)

-- the calls that send one message more
pub sends-append : (now : ℕ) (ms : List (Outgoing ℕ ℕ)) (m : Outgoing ℕ ℕ)
    → zeroed_sends now (ms ++ m ∷ []) ≡ zeroed_sends now ms ++ call_enqueue now (zeroed m) ∷ []
sends-append now ms m =
    ap (map (λ m. call_enqueue now m)) (map-append zeroed ms (m ∷ []))
    ∙ map-append (λ m. call_enqueue now m) (map zeroed ms) (zeroed m ∷ [])

-- ---- sessions

module _ (old new : Session) (before after : Option (List ℕ)) where
  -- messages that are sent at once
  pub sent_at_once : (now : ℕ) (ms : List (Outgoing ℕ ℕ)) (reply : reply_code.Reply ℕ (List ℕ))
      → AnswersEach (zeroed_sends now ms) old.scheduler reply new.scheduler
      → Appends before after (reply_text (reply_of reply)) → PrintsInTurn (zeroed_sends now ms) old before new after
  sent_at_once now ms (replies.Done completions) made printed =
      (_, printed, made_in_turn now (map zeroed ms) _ _ (map completed_of completions.items) made)
  sent_at_once now ms (replies.Next moment) made printed = absurd made
  sent_at_once now ms (replies.Refused why) made printed = absurd made

  -- and then printed
  pub sent_and_printed : {X E : Type 0} (now : ℕ) (ms : List (Outgoing ℕ ℕ)) (reply : reply_code.Reply ℕ (List ℕ))
      (result : Result X E) → AnswersEach (zeroed_sends now ms) old.scheduler reply new.scheduler
      → OnOk result (Appends before after (reply_text (reply_of reply)))
      → OnOk result (PrintsInTurn (zeroed_sends now ms) old before new after)
  sent_and_printed now ms reply (Ok x) made printed = sent_at_once now ms reply made printed
  sent_and_printed now ms reply (Err e) made printed = tt

  -- what is printed from one session on, is from another that has the same planned world
  pub prints_from : (start : Session) (calls : List (Call ℕ)) → KeepsPlanned start old
      → PrintsInTurn calls old before new after → PrintsInTurn calls start before new after
  prints_from start calls same printed = (
    printed.0,
    printed.1,
    subst (λ (p : Planned ℕ). AnswersInTurn p calls printed.0 (planned_of new.scheduler)) same printed.2,
  )

  module _ (start : Session) (at_start : Option (List ℕ)) (calls : List (Call ℕ)) (call : script.Call ℕ ℕ)
      (so_far : PrintsInTurn calls start at_start old before) where
    -- one call more
    one_more : (reply : Reply ℕ)
        → IsReplyTo nat_cmp (planned_of old.scheduler) (world_call call) reply (planned_of new.scheduler)
        → Appends before after (reply_text reply)
        → PrintsInTurn (calls ++ world_call call ∷ []) start at_start new after
    one_more reply answered printed = (
      so_far.0 ++ reply_text reply,
      Appends-append at_start before after so_far.0 (reply_text reply) so_far.1 printed,
      in_turn-append calls (world_call call) _ _ _ so_far.0 reply so_far.2 answered,
    )

    -- that is answered
    pub one_answered : (answer : Answer) → AnswersCall call old.scheduler answer new.scheduler
        → Appends before after (answer_text answer)
        → PrintsInTurn (calls ++ world_call call ∷ []) start at_start new after
    one_answered (answers.Reply reply) answered printed =
        one_more (reply_of reply) (answered_by_rule old.scheduler new.scheduler (world_call call) reply answered)
        printed
    one_answered answers.Nothing answered printed = absurd answered
    one_answered (answers.Rates rates) answered printed = absurd answered
    one_answered (answers.Routes rates) answered printed = absurd answered

    -- that is refused
    pub one_refused : (why : Error) → MayRefuseCall old.scheduler (world_call call) why
        → planned_of new.scheduler ≡ planned_of old.scheduler → Appends before after (refusal_line why)
        → PrintsInTurn (calls ++ world_call call ∷ []) start at_start new after
    one_refused why refused same printed =
        one_more (reply_refused why) (refused_by_rule old.scheduler new.scheduler (world_call call) why refused same)
        printed

    -- and so, whichever of the two it is
    pub one_printed : (result : Result Answer Error)
        → IfOk result (λ answer. AnswersCall call old.scheduler answer new.scheduler)
        → OnErr result (SaysSame old new × KeepsPlanned old new)
        → IfErr result (MayRefuseCall old.scheduler (world_call call))
        → IfOk result (λ answer. Appends before after (answer_text answer))
        → IfErr result (λ why. Appends before after (refusal_line why))
        → PrintsInTurn (calls ++ world_call call ∷ []) start at_start new after
    one_printed (Ok answer) answered kept refused printed told = one_answered answer answered printed
    one_printed (Err why) answered kept refused printed told = one_refused why refused kept.1 told
