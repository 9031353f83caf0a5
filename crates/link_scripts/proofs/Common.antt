-- The names that most proofs of this crate cite, passed on from one place. Declares nothing.
pub use Rattle.fairness.specs.Sides.Answers.{Calls, PairCalls}
pub use Rattle.fairness.specs.declared.bandwidth.Flow.{Flow}
pub use Rattle.fairness.specs.declared.bandwidth.Rate.{Rate}
pub use Rattle.fairness.specs.declared.error.Error.{Error}
pub use Rattle.fairness.specs.declared.error.Error.TheVariants.{OutOfMemory}
pub use Rattle.link_events.specs.declared.outgoing.Outgoing.{Outgoing}
pub use Rattle.link_pairs.specs.Pairs.Entries.{pair_cmp}
pub use Rattle.link_pairs.specs.Pairs.Messages.{completed_of}
pub use Rattle.link_scheduler.specs.Calls.Replay.{MayRefuseCall, reply_of}
pub use Rattle.link_scheduler.specs.Calls.State.{planned_of, MakesEach, Refuses}
pub use Rattle.link_scripts.specs.Answer.{done_text, done_line, rates_text, reply_text, refusal_line, answer_text}
pub use Rattle.link_scripts.specs.Gathered.{PrintsInTurn, gathered_calls}
pub use Rattle.link_scripts.specs.Lines.{IsLineAhead}
pub use Rattle.link_scripts.specs.Schedule.{zeroed_sends, world_call, zeroed, AnswersEach}
pub use Rattle.link_scripts.specs.Script.{number_word, IsNumberInRange, IsCapInRange, IsSmallCapInRange, Takes}
pub use Rattle.link_scripts.specs.Script.{cap_word, flag_word, command_words, IsCommandInRange, weight_word}
pub use Rattle.link_scripts.specs.Script.{IsWeightInRange}
pub use Rattle.link_scripts.specs.Session.{SaysSame, KeepsPlanned}
pub use Rattle.link_scripts.specs.Words.{parts_of}
pub use Rattle.link_scripts.specs.declared.linkrun.answer.Answer.{Answer}
pub use Rattle.link_scripts.specs.declared.linkrun.command.Command.{Command}
pub use Rattle.link_scripts.specs.declared.linkrun.session.Session.{Session}
pub use Rattle.link_simulation.specs.Rule.Planned.{Planned}
pub use Rattle.link_simulation.specs.Simulation.Calls.{Call, call_enqueue, call_enqueue_all}
pub use Rattle.link_simulation.specs.Simulation.Messages.{Message}
pub use Rattle.link_simulation.specs.Simulation.World.{Completed}
pub use Rattle.std.proofs.Common.{◌≡◌, subst, ℕ, ◌∙◌, List, sym, ap, ◌∷◌, arith, rules, [], ◌++◌, Option, ◌+◌, take}
pub use Rattle.std.proofs.Common.{refl, length, get_or, ◌<◌, ◌≤◌, map, Some, Result, Ok, Err, ◌^◌, false, eqb, None}
pub use Rattle.std.proofs.Common.{codes, append-nil, IfOk, IfErr, eq-eqb, drop, append_assoc, OnOk, Bool, true, ◌&&◌}
pub use Rattle.std.proofs.Common.{◌*◌, OnErr, ◌-◌, inl, inr, ap₂, cond, ◌↔◌, length-append, ◌≢◌, take-append-drop}
pub use Rattle.std.proofs.lemmas.Bool.Decides.{nat_tests}
pub use Rattle.std.proofs.lemmas.Grind.{common_steps}
pub use Rattle.std.proofs.lemmas.List.{drop_more, take_all, take_more, map-append}
pub use Rattle.std.proofs.lemmas.List.Concat.{flat_map-append}
pub use Rattle.std.proofs.lemmas.List.Splits.{slice_split_none, slice_split_at}
pub use Rattle.std.proofs.lemmas.Result.{err_from_is_err_and}
pub use Rattle.std.proofs.lemmas.Str.{IsUtf8-from_ascii}
pub use Rattle.std.proofs.lemmas.Str.Parse.{digit_from_value}
pub use Rattle.std.specs.BTreeMap.{get}
pub use Rattle.std.specs.Char.{digit_value}
pub use Rattle.std.specs.Io.KnownBytes.{Appends}
pub use Rattle.std.specs.List.{All}
pub use Rattle.std.specs.Map.Iter.{deref_pair}
pub use Rattle.std.specs.Option.{IfSome}
pub use Rattle.std.specs.Ordering.{nat_cmp}
pub use Rattle.std.specs.Str.{IsUtf8}
pub use Rattle.std.specs.Str.Parse.{AllDigits, digits_value, digits_value_after}
pub use Rattle.std.specs.declared.num.NonZeroU64.{NonZeroU64}
