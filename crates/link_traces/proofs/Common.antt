-- The names that most proofs of this crate cite, passed on from one place. Declares nothing.
pub use Rattle.link_events.specs.declared.outgoing.Outgoing.{Outgoing}
pub use Rattle.link_scheduler.proofs.Calls.Replay.{one_more}
pub use Rattle.link_scheduler.specs.Calls.Replay.{reply_of, IsReplyTo}
pub use Rattle.link_scheduler.specs.Calls.State.{planned_of, Makes}
pub use Rattle.link_scripts.specs.Answer.{reply_text}
pub use Rattle.link_scripts.specs.Schedule.{world_call, zeroed_sends, AnswersEach}
pub use Rattle.link_scripts.specs.Script.{IsCallOfScriptInRange}
pub use Rattle.link_scripts.specs.declared.linkrun.line.LineEnd.TheVariants.{Input, TooLong}
pub use Rattle.link_simulation.specs.Rule.Planned.{Planned, new_planned}
pub use Rattle.link_simulation.specs.Rule.Refusals.{Obeyed}
pub use Rattle.link_simulation.specs.Rule.StandsFor.{StandsFor}
pub use Rattle.link_simulation.specs.Simulation.Calls.{IsInTurn, Call, call_enqueue, moment_of}
pub use Rattle.link_simulation.specs.Simulation.Replies.{Reply, reply_done, reply_refused}
pub use Rattle.link_simulation.specs.Simulation.World.{World, new_world, Completed}
pub use Rattle.link_traces.specs.Batches.{batch_calls, IsFront, batch_lines}
pub use Rattle.link_traces.specs.Checker.{IsUnderway}
pub use Rattle.link_traces.specs.Progress.{IsTold, due}
pub use Rattle.link_traces.specs.Trace.{call_line, done_in, transcript_of, IsAllowed, IsAgreed, tolerance_line}
pub use Rattle.link_traces.specs.Turns.{IsSimulatedReply, AgreesInTurn, reached_after}
pub use Rattle.link_traces.specs.declared.linkcheck.checker.Checker.{Checker}
pub use Rattle.link_traces.specs.declared.linkcheck.progress.Progress.{Progress}
pub use Rattle.link_traces.specs.declared.linkcheck.report.Verdict.TheVariants.{Within}
pub use Rattle.std.proofs.Common.{◌≡◌, refl, subst, [], ◌∙◌, ◌++◌, sym, ap, ℕ, ◌∷◌, rules, List, None, Some}
pub use Rattle.std.proofs.Common.{append_assoc, ◌<◌, arith, drop, Option, IfSome, ◌≤◌, map, All, Ok, ◌+◌, length}
pub use Rattle.std.proofs.Common.{append-nil, IfOk}
pub use Rattle.std.proofs.lemmas.Cmp.{nat_cmp_total}
pub use Rattle.std.proofs.lemmas.Grind.{flat_map-append}
pub use Rattle.std.proofs.lemmas.List.{map-append, length-append}
pub use Rattle.std.proofs.lemmas.List.Elements.{All-append, All-cons, All-nil}
pub use Rattle.std.specs.Io.Buffered.{reader_remaining}
pub use Rattle.std.specs.Io.KnownBytes.{Consumes, Keeps}
pub use Rattle.std.specs.List.{flat_map}
pub use Rattle.std.specs.Ordering.{nat_cmp}
