-- Traces: the calls of a scheduler, each with the lines that answer it. A trace and a line are lists of bytes.
use Rattle.std.specs.Prelude.{◌≡◌, ◌⊎◌, ⊤, ℕ, ◌<◌, ◌≤◌, List, [], ◌∷◌, ◌++◌, All, length, map, codes, decimal}
use Rattle.std.specs.List.{flat_map}
use Rattle.std.specs.Option.{unwrap_or}
use Rattle.std.specs.Prelude.{Option, None, Some, Result, Ok, Err}
use Rattle.std.specs.Ordering.{nat_cmp}
use Rattle.link_scheduler.specs.declared.call.Call.{Call}
use Rattle.link_scripts.specs.declared.linkrun.command.Command.TheVariants as commands
use Rattle.link_scripts.specs.Answer.{reply_text}
use Rattle.link_scripts.specs.Schedule.{world_call}
use Rattle.link_scripts.specs.Script.{line_of, IsCallOfScriptInRange}
use Rattle.link_traces.specs.declared.linkcheck.Fault.{Fault}
use Rattle.link_traces.specs.declared.linkcheck.Fault.TheVariants as faults
use Rattle.link_traces.specs.declared.linkcheck.report.Report.{Report}
use Rattle.link_traces.specs.declared.linkcheck.report.Verdict.{Verdict}
use Rattle.link_traces.specs.declared.linkcheck.report.Verdict.TheVariants as verdicts
use Rattle.link_simulation.specs.Simulation.World.{new_world, Completed}
use Rattle.link_simulation.specs.Rule.Planned.{new_planned}
use Rattle.link_simulation.specs.Rule.Refusals.{Obeyed}
use Rattle.link_simulation.specs.Simulation.Replies.{Reply, reply_done, reply_next, reply_refused, Agrees}
use Rattle.link_traces.specs.Turns.{AgreesInTurn}

-- the line of a call, with its end byte
abbrev pub call_line : Call ℕ ℕ → List ℕ
call_line call = line_of (commands.Schedule call) ++ 10 ∷ []

-- the line of each call, and after it the lines of its reply
abbrev pub transcript_of : List (Call ℕ ℕ) → List (Reply ℕ) → List ℕ
transcript_of [] replies = []
transcript_of (call ∷ calls) [] = []
transcript_of (call ∷ calls) (reply ∷ replies) = call_line call ++ (reply_text reply ++ transcript_of calls replies)

-- the messages that a reply says are done
abbrev pub done_in : Reply ℕ → List (Completed ℕ)
done_in (reply_done completions) = completions
done_in (reply_next moment) = []
done_in (reply_refused why) = []

-- the trace is the transcript of calls and of the replies that the simulation gives to them; they are as many as the
-- report says
pub record IsTranscript (trace : List ℕ) (report : Report) : Type 0 where
  pub calls : List (Call ℕ ℕ)
  pub replies : List (Reply ℕ)
  -- a line says each of the calls
  pub in_range : All IsCallOfScriptInRange calls
  pub written : trace ≡ transcript_of calls replies
  pub agrees : Agrees nat_cmp (new_world 0) (map world_call calls) replies
  -- and keep to the event rule, at any moments
  pub obeys : Obeyed nat_cmp (new_planned 0) (map world_call calls) replies
  -- where the report names no call out of turn, each comes in its turn, and has the simulation's reply
  pub in_turn : report.out_of_turn ≡ None → AgreesInTurn nat_cmp (new_world 0) (map world_call calls) replies
  pub call_count : length calls ≡ report.calls
  pub some_calls : 0 < report.calls
  pub completion_count : length (flat_map done_in replies) ≡ report.completions

-- the line that sets a tolerance, with its end byte
abbrev pub tolerance_line : ℕ → List ℕ
tolerance_line n = codes "tolerance " ++ (decimal n ++ 10 ∷ [])

-- the trace is what stands after the line of the tolerance, if there is one
abbrev pub IsAfterTolerance : List ℕ → Option ℕ → List ℕ → Type 0
IsAfterTolerance text None trace = trace ≡ text
IsAfterTolerance text (Some tolerance) trace = text ≡ tolerance_line tolerance ++ trace

-- the text is a transcript, after the line of a tolerance or with none
pub record IsHeadedTranscript (text : List ℕ) (report : Report) : Type 0 where
  pub tolerance : Option ℕ
  pub trace : List ℕ
  pub after : IsAfterTolerance text tolerance trace
  pub transcript : IsTranscript trace report

-- the text is the bytes, or the bytes and the end byte that the last line lacks
abbrev pub IsClosed : List ℕ → List ℕ → Type 0
IsClosed text bytes = (text ≡ bytes) ⊎ (text ≡ bytes ++ 10 ∷ [])

-- the bytes are a transcript so
pub record IsAgreed (bytes : List ℕ) (report : Report) : Type 0 where
  pub text : List ℕ
  pub closed : IsClosed text bytes
  pub headed : IsHeadedTranscript text report

-- the bytes begin with the line of a tolerance that allows it that moments are off by so much; with none they are not off
pub record IsAllowed (bytes : List ℕ) (off : ℕ) : Type 0 where
  pub text : List ℕ
  pub closed : IsClosed text bytes
  pub tolerance : Option ℕ
  pub trace : List ℕ
  pub after : IsAfterTolerance text tolerance trace
  pub within : off ≤ unwrap_or tolerance 0

-- a verdict that comes before the end of the trace: it does not agree
abbrev pub EndsEarly : Verdict → Type 0
EndsEarly verdicts.Agrees = ⊥
EndsEarly (verdicts.Within off) = ⊥
EndsEarly (verdicts.Missing missing) = ⊤
EndsEarly (verdicts.Differs difference) = ⊤
EndsEarly verdicts.OutOfTurn = ⊤

-- the status with which the program ends after a verdict
abbrev pub status_of : Verdict → ℕ
status_of verdicts.Agrees = 0
status_of (verdicts.Within off) = 0
status_of (verdicts.Missing missing) = 1
status_of (verdicts.Differs difference) = 3
status_of verdicts.OutOfTurn = 3

-- what the program says of a fault, without the byte that ends a line
abbrev pub fault_text : Fault → List ℕ
fault_text (faults.BadLine number) = codes "bad line " ++ decimal number
fault_text faults.InputOutput = codes "input or output fault"
fault_text faults.NoMemory = codes "out of memory"

-- the status with which the program ends: 0 where the trace agrees
abbrev pub verdict_status : Result Report Fault → ℕ
verdict_status (Ok report) = status_of report.verdict
verdict_status (Err faults.InputOutput) = 1
verdict_status (Err faults.NoMemory) = 1
verdict_status (Err (faults.BadLine number)) = 2
