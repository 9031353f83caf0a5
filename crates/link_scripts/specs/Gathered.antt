-- The messages that are gathered, and how they are sent.
use Rattle.std.specs.Prelude.{◌≡◌, ◌⊎◌, ℕ, List, [], ◌∷◌, ◌++◌, Option}
use Rattle.std.specs.Ordering.{nat_cmp}
use Rattle.std.specs.Io.KnownBytes.{Appends}
use Rattle.fairness.specs.declared.error.Error.{Error}
use Rattle.link_scripts.specs.declared.linkrun.answer.Answer.{Answer}
use Rattle.link_scripts.specs.declared.linkrun.command.Command.{Command}
use Rattle.link_scripts.specs.declared.linkrun.command.Command.TheVariants as commands
use Rattle.link_scripts.specs.declared.linkrun.gathered.Gathered.{Gathered}
use Rattle.link_scripts.specs.declared.linkrun.session.Session.{Session}
use Rattle.link_scripts.specs.Answer.{answer_text, reply_text, refusal_line}
use Rattle.link_scripts.specs.Schedule.{world_call, zeroed_sends}
use Rattle.link_scripts.specs.Session.{SaysSame, KeepsPlanned, SaysAfter, AnswersTo, MayRefuseCommand}
use Rattle.link_scheduler.specs.Calls.Replay.{IsReplyTo}
use Rattle.link_scheduler.specs.Calls.State.{planned_of}
use Rattle.link_simulation.specs.Rule.Planned.{Planned}
use Rattle.link_simulation.specs.Simulation.Calls.{Call}
use Rattle.link_simulation.specs.Simulation.Replies.{Reply}

-- the calls that send what is gathered, one after another
abbrev pub gathered_calls : Gathered → List (Call ℕ)
gathered_calls g = zeroed_sends g.moment g.messages.items

-- the command is a call, and it is gathered after those before
abbrev pub IsGathered : Command → List (Call ℕ) → Gathered → Type 0
IsGathered (commands.Schedule call) before new = gathered_calls new ≡ before ++ world_call call ∷ []
IsGathered (commands.Flow flow) before new = ⊥
IsGathered (commands.Egress peer cap) before new = ⊥
IsGathered (commands.Ingress peer cap) before new = ⊥
IsGathered (commands.Link origin recipient cap) before new = ⊥
IsGathered commands.Rates before new = ⊥
IsGathered (commands.Network line) before new = ⊥
IsGathered commands.Routes before new = ⊥

-- nothing is gathered
abbrev pub HasNone : Gathered → Type 0
HasNone g = gathered_calls g ≡ []

-- the calls are made one after another, from the planned world p to q, and the text is what they are answered; a call
-- that is refused leaves the planned world as it was
abbrev pub AnswersInTurn : Planned ℕ → List (Call ℕ) → List ℕ → Planned ℕ → Type 0
AnswersInTurn p [] text q = (text ≡ []) × (q ≡ p)
AnswersInTurn p (call ∷ calls) text q =
    (reply : Reply ℕ) × (rest : List ℕ) × (between : Planned ℕ) × (text ≡ reply_text reply ++ rest)
    × IsReplyTo nat_cmp p call reply between × AnswersInTurn between calls rest q

-- a session makes the calls one after another, and what they are answered is printed
abbrev pub PrintsInTurn : List (Call ℕ) → Session → Option (List ℕ) → Session → Option (List ℕ) → Type 0
PrintsInTurn calls old before new after =
    (text : List ℕ) × Appends before after text
    × AnswersInTurn (planned_of old.scheduler) calls text (planned_of new.scheduler)

-- a command is performed and its answer is printed, or it is refused for a reason that is printed, and changes nothing
abbrev pub IsPerformed : Command → Session → Option (List ℕ) → Session → Option (List ℕ) → Type 0
IsPerformed command old before new after =
    ((answer : Answer) × AnswersTo command old answer new × SaysAfter command old new
    × Appends before after (answer_text answer))
    ⊎ ((why : Error) × MayRefuseCommand command old why × SaysSame old new × KeepsPlanned old new
    × Appends before after (refusal_line why))

-- what is gathered is sent, and then the command is performed
abbrev pub ComesAfterAll : Command → Gathered → Session → Option (List ℕ) → Gathered → Session → Option (List ℕ)
    → Type 0
ComesAfterAll command gathered old before left new after =
    (between : Session) × (printed : Option (List ℕ))
    × PrintsInTurn (gathered_calls gathered) old before between printed × SaysSame old between
    × IsPerformed command between printed new after × HasNone left

-- a call goes to the end of the calls that are gathered: some of these are made from the front on, and the others stay
-- gathered; any other command comes after all of them
abbrev pub TakesItsTurn : Command → Gathered → Session → Option (List ℕ) → Gathered → Session → Option (List ℕ)
    → Type 0
TakesItsTurn (commands.Schedule call) gathered old before left new after =
    (made : List (Call ℕ)) × (gathered_calls gathered ++ world_call call ∷ [] ≡ made ++ gathered_calls left)
    × PrintsInTurn made old before new after
TakesItsTurn (commands.Flow flow) gathered old before left new after =
    ComesAfterAll (commands.Flow flow) gathered old before left new after
TakesItsTurn (commands.Egress peer cap) gathered old before left new after =
    ComesAfterAll (commands.Egress peer cap) gathered old before left new after
TakesItsTurn (commands.Ingress peer cap) gathered old before left new after =
    ComesAfterAll (commands.Ingress peer cap) gathered old before left new after
TakesItsTurn (commands.Link origin recipient cap) gathered old before left new after =
    ComesAfterAll (commands.Link origin recipient cap) gathered old before left new after
TakesItsTurn commands.Rates gathered old before left new after =
    ComesAfterAll commands.Rates gathered old before left new after
TakesItsTurn (commands.Network line) gathered old before left new after =
    ComesAfterAll (commands.Network line) gathered old before left new after
TakesItsTurn commands.Routes gathered old before left new after =
    ComesAfterAll commands.Routes gathered old before left new after
