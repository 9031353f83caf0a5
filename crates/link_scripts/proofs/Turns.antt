-- Commands that take their turn behind what is gathered.
use Rattle.link_scripts.proofs.Common.{◌≡◌, ℕ, List, [], ◌∷◌, ◌++◌, Option, sym, ap, ◌∙◌, append-nil, Result, Ok, Err}
use Rattle.link_scripts.proofs.Common.{IfOk, IfErr, OnOk, OnErr, inl, inr, Appends, Error, Answer, Command, Session}
use Rattle.link_scripts.proofs.Common.{answer_text, refusal_line, gathered_calls, PrintsInTurn, world_call, SaysSame}
use Rattle.link_scripts.proofs.Common.{KeepsPlanned}
use Rattle.link_scripts.specs.declared.linkrun.command.Command.TheVariants as commands
use Rattle.link_scripts.specs.declared.linkrun.gathered.Gathered.{Gathered}
use Rattle.link_scripts.specs.Gathered.{IsGathered, HasNone, IsPerformed}
use Rattle.link_scripts.specs.Gathered.{TakesItsTurn}
use Rattle.link_scripts.specs.Session.{SaysAfter, AnswersTo, MayRefuseCommand}
use Rattle.link_scripts.proofs.InTurn.{one_printed}

module _ (gathered sent left : Gathered) (old between new : Session) (before printed after : Option (List ℕ))
    (sends : PrintsInTurn (gathered_calls gathered) old before between printed) (none : HasNone sent) where
  -- where it is gathered after the others are sent
  pub gathered_alone : (command : Command) → IsGathered command (gathered_calls sent) left
      → TakesItsTurn command gathered old before left between printed
  gathered_alone (commands.Schedule call) is = (
    gathered_calls gathered,
    ap (λ last. gathered_calls gathered ++ last) (sym (is ∙ ap (λ front. front ++ world_call call ∷ []) none)),
    sends,
  )
  gathered_alone (commands.Flow flow) is = absurd is
  gathered_alone (commands.Egress peer cap) is = absurd is
  gathered_alone (commands.Ingress peer cap) is = absurd is
  gathered_alone (commands.Link origin recipient cap) is = absurd is
  gathered_alone commands.Rates is = absurd is
  gathered_alone (commands.Network line) is = absurd is
  gathered_alone commands.Routes is = absurd is

  module _ (kept : gathered_calls left ≡ gathered_calls sent) (said : SaysSame old between)
      (result : Result Answer Error) where
    performed : (command : Command) → IfOk result (λ answer. AnswersTo command between answer new)
        → OnOk result (SaysAfter command between new)
        → OnErr result (SaysSame between new × KeepsPlanned between new)
        → IfErr result (MayRefuseCommand command between)
        → IfOk result (λ answer. Appends printed after (answer_text answer))
        → IfErr result (λ why. Appends printed after (refusal_line why))
        → IsPerformed command between printed new after
    performed command =
        elim result as
        (λ r. IfOk r (λ answer. AnswersTo command between answer new) → OnOk r (SaysAfter command between new)
        → OnErr r (SaysSame between new × KeepsPlanned between new) → IfErr r (MayRefuseCommand command between)
        → IfOk r (λ answer. Appends printed after (answer_text answer))
        → IfErr r (λ why. Appends printed after (refusal_line why)) → IsPerformed command between printed new after) [
          | Ok answer ↦ λ answers done kept refused text told. inl (answer, answers, done, text)
          | Err why ↦ λ answers done kept refused text told. inr (why, refused, kept.0, kept.1, told)
        ]

    -- where it is performed after the others are sent
    pub performed_after_all : (command : Command) → IfOk result (λ answer. AnswersTo command between answer new)
        → OnOk result (SaysAfter command between new)
        → OnErr result (SaysSame between new × KeepsPlanned between new)
        → IfErr result (MayRefuseCommand command between)
        → IfOk result (λ answer. Appends printed after (answer_text answer))
        → IfErr result (λ why. Appends printed after (refusal_line why))
        → TakesItsTurn command gathered old before left new after
    performed_after_all (commands.Schedule call) answers done same refused text told = (
      gathered_calls gathered ++ world_call call ∷ [],
      sym (append-nil (gathered_calls gathered ++ world_call call ∷ []))
          ∙ ap (λ last. (gathered_calls gathered ++ world_call call ∷ []) ++ last) (sym (kept ∙ none)),
      one_printed between new printed after old before (gathered_calls gathered) call sends result answers same refused
          text told,
    )
    performed_after_all (commands.Flow flow) answers done same refused text told =
        (between, printed, sends, said, performed (commands.Flow flow) answers done same refused text told, kept ∙ none)
    performed_after_all (commands.Egress peer cap) answers done same refused text told = (
      between,
      printed,
      sends,
      said,
      performed (commands.Egress peer cap) answers done same refused text told,
      kept ∙ none,
    )
    performed_after_all (commands.Ingress peer cap) answers done same refused text told = (
      between,
      printed,
      sends,
      said,
      performed (commands.Ingress peer cap) answers done same refused text told,
      kept ∙ none,
    )
    performed_after_all (commands.Link origin recipient cap) answers done same refused text told = (
      between,
      printed,
      sends,
      said,
      performed (commands.Link origin recipient cap) answers done same refused text told,
      kept ∙ none,
    )
    performed_after_all commands.Rates answers done same refused text told =
        (between, printed, sends, said, performed commands.Rates answers done same refused text told, kept ∙ none)
    performed_after_all (commands.Network line) answers done same refused text told = (
      between,
      printed,
      sends,
      said,
      performed (commands.Network line) answers done same refused text told,
      kept ∙ none,
    )
    performed_after_all commands.Routes answers done same refused text told =
        (between, printed, sends, said, performed commands.Routes answers done same refused text told, kept ∙ none)

    -- and what it answers could be printed
    pub performed_and_printed : {X E : Type 0} (told : Result X E) (command : Command)
        → IfOk result (λ answer. AnswersTo command between answer new) → OnOk result (SaysAfter command between new)
        → OnErr result (SaysSame between new × KeepsPlanned between new)
        → IfErr result (MayRefuseCommand command between)
        → IfOk result (λ answer. OnOk told (Appends printed after (answer_text answer)))
        → IfErr result (λ why. OnOk told (Appends printed after (refusal_line why)))
        → OnOk told (TakesItsTurn command gathered old before left new after)
    performed_and_printed (Ok x) command answers done same refused text line =
        performed_after_all command answers done same refused text line
    performed_and_printed (Err e) command answers done same refused text line = tt
