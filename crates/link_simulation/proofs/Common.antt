-- The names that most proofs of this crate cite, passed on from one place. Declares nothing.
pub use Rattle.std.proofs.Common.{All, Bool, Contains, List, None, Option, Some, [], add-one, ap, append-nil}
pub use Rattle.std.proofs.Common.{append_assoc, arith, cond, false, inl, inr, length, length-append, map, not, refl}
pub use Rattle.std.proofs.Common.{subst, suc, sum_by, sym, true, zero, ℕ, ◌*◌, ◌++◌, ◌+◌, ◌-◌, ◌<◌, ◌^◌, ◌∙◌, ◌∷◌, ◌≡◌}
pub use Rattle.std.proofs.Common.{rules, ◌≢◌, ◌≤◌, ◌⊎◌}
pub use Rattle.std.proofs.Math.Nat.{mul-pos}
pub use Rattle.std.proofs.lemmas.Bool.{and_parts, cases_lt, eq-eqb, eqb-true, le-leb, leb-true, ltb-true, not-true}
pub use Rattle.std.proofs.lemmas.Bool.{or_from, or_left, or_parts, or_right}
pub use Rattle.std.proofs.lemmas.Cmp.{nat_cmp_total}
pub use Rattle.std.proofs.lemmas.Grind.{common_steps}
pub use Rattle.std.proofs.lemmas.List.{map-append}
pub use Rattle.std.proofs.lemmas.List.Elements.{All-contains, All-nil, Contains-append_left, Contains-append_right}
pub use Rattle.std.proofs.lemmas.List.Elements.{filter-append}
pub use Rattle.std.proofs.lemmas.List.Folds.{list_any-append}
pub use Rattle.std.specs.Cmp.{IsTotalOrder}
pub use Rattle.std.specs.List.{AllZip, filter, find, flat_map, list_any}
pub use Rattle.std.specs.Ordering.{is_eq, is_lt, nat_cmp}
pub use Rattle.std.specs.Prelude.{IfSome, if◌then◌else◌, is_none, max, nat_le, nat_lt, slice_get, ⊤, ◌&&◌, ◌==◌, ◌||◌}
pub use Rattle.std.specs.declared.cmp.Ordering.{Ordering}
pub use Rattle.std.specs.declared.cmp.Ordering.TheVariants.{Equal, Greater, Less}
pub use Rattle.fairness.proofs.Lists.Booleans.{by_bool}
pub use Rattle.fairness.proofs.Lists.Each.{Each, all_of_each, each_filtered, each_joined, each_map}
pub use Rattle.fairness.proofs.Lists.Filters.{filter_stronger, filter_swap, find_from_any, length-without_first}
pub use Rattle.fairness.proofs.Lists.Members.{In}
pub use Rattle.fairness.proofs.Lists.SumOrder.{All-from_contains}
pub use Rattle.fairness.proofs.Lists.Zips.{zip-append, zip-filter, zip-length, zip-same, zip_chain}
pub use Rattle.fairness.proofs.Sides.Subjects.{peer_sym}
pub use Rattle.fairness.specs.Fairness.Fair.{IsFair, Side, load}
pub use Rattle.fairness.specs.Fairness.Laws.{IsAtMost}
pub use Rattle.fairness.specs.Fairness.Part.{flagged}
pub use Rattle.fairness.specs.Lists.Places.{places_from}
pub use Rattle.fairness.specs.Lists.WithoutFirst.{without_first}
pub use Rattle.fairness.specs.Numbers.Amount.{Amount, billion, drained, plus, whole}
unfoldable pub use Rattle.fairness.specs.Numbers.Amount.{gcd_within, reduced}
pub use Rattle.fairness.specs.Numbers.LowestTerms.{reduced_positive}
pub use Rattle.fairness.specs.Sides.Subjects.{same_peer}
pub use Rattle.fairness.specs.declared.error.Error.{Error}
pub use Rattle.fairness.specs.declared.error.Error.TheVariants.{FlowIdsUsedUp, MomentTooLate, NumberTooLarge}
pub use Rattle.fairness.specs.declared.error.Error.TheVariants.{OutOfMemory}
pub use Rattle.link_simulation.specs.Laws.Conserved.{IsConserved, held_of, of_pair}
pub use Rattle.link_simulation.specs.Laws.Isolation.{Answers, InTime, call_answers, no_calls}
pub use Rattle.link_simulation.specs.Laws.Orderly.{IsOrderly}
pub use Rattle.link_simulation.specs.Laws.PairCompletions.{IsCompletionOf, NeverGoDown, answered, enqueued}
pub use Rattle.link_simulation.specs.Laws.Replies.{AreInTurn, Completes}
pub use Rattle.link_simulation.specs.Rule.Events.{Accounts, Advances, Enqueues, EnqueuesEach, Finishes, Launches, Obeys}
pub use Rattle.link_simulation.specs.Rule.Events.{PlansStart, Rebalances, Settles, Wakes, WakesEach, all_completed}
pub use Rattle.link_simulation.specs.Rule.Events.{all_enqueued, all_started, at_finish, at_once, at_start}
pub use Rattle.link_simulation.specs.Rule.Events.{completed_at_once, completes, enqueues_one, finish_stops, landed}
pub use Rattle.link_simulation.specs.Rule.Events.{late, launched, launches, no_finish, no_id, no_launch, no_more}
pub use Rattle.link_simulation.specs.Rule.Events.{no_start, none_sending, nothing_waits, one_stops, settling}
pub use Rattle.link_simulation.specs.Rule.Events.{some_sending, start_stops, starts, starts_one, stopped, too_early}
pub use Rattle.link_simulation.specs.Rule.Events.{with_queued}
pub use Rattle.link_simulation.specs.Rule.Planned.{AreInPairOrder, IsLeastMoment, IsRated, IsSpentAt, Planned}
pub use Rattle.link_simulation.specs.Rule.Planned.{RatedFlight, SomeReadyAt, SomeSpentAt, drained_to, is_spent, left_at}
pub use Rattle.link_simulation.specs.Rule.Planned.{may_launch, new_planned, next_event, next_of, queued, rated_messages}
pub use Rattle.link_simulation.specs.Rule.Range.{IsInRange}
pub use Rattle.link_simulation.specs.Rule.Refusals.{MayBeRefused, Obeyed}
pub use Rattle.link_simulation.specs.Rule.SamePlanned.{GoesByRule, IsSamePlanned, IsSameRatedFlight, same_advance}
pub use Rattle.link_simulation.specs.Rule.SamePlanned.{same_enqueue, same_enqueue_all, same_limit, same_limit_link}
pub use Rattle.link_simulation.specs.Rule.SamePlanned.{same_next}
pub use Rattle.link_simulation.specs.Rule.Simulated.{IsCalled, IsRun}
pub use Rattle.link_simulation.specs.Rule.StandsFor.{CoursesAlike, Follows, IsSameFlight, IsSettled, StandsFor, Tallies}
pub use Rattle.link_simulation.specs.Simulation.Calls.{Call, IsBeforeNext, IsInTurn, Runs, act, call_advance}
pub use Rattle.link_simulation.specs.Simulation.Calls.{call_enqueue, call_enqueue_all, call_limit, call_limit_link}
pub use Rattle.link_simulation.specs.Simulation.Calls.{call_next, complete_at_once, enqueue, enqueue_each, limited_by}
pub use Rattle.link_simulation.specs.Simulation.Calls.{linked_by, moment_of, rebalance}
pub use Rattle.link_simulation.specs.Simulation.Messages.{Caps, CapsAlike, Message, OneForEachPair, PairsAlike}
pub use Rattle.link_simulation.specs.Simulation.Messages.{SameMessage, is_delivered, pair_before, same_pair}
pub use Rattle.link_simulation.specs.Simulation.Queue.{arrived, joined, out_of_waiting}
unfoldable pub use Rattle.link_simulation.specs.Simulation.Queue.{finish_within, launch_then, leaving, staying}
pub use Rattle.link_simulation.specs.Simulation.Rates.{AreFair, IsLowest, Parts, capped_sides, drained_by, egress_side}
pub use Rattle.link_simulation.specs.Simulation.Rates.{ingress_side, is_unlimited, link_side, rate_of, rates_from}
pub use Rattle.link_simulation.specs.Simulation.Rates.{sides_for}
pub use Rattle.link_simulation.specs.Simulation.Replies.{Agrees, Faults, MayRefuse, Reply, SameCompletion}
pub use Rattle.link_simulation.specs.Simulation.Replies.{completions_in, made, reply_done, reply_next, reply_refused}
pub use Rattle.link_simulation.specs.Simulation.Time.{ArePositive, Drains, IsSound, NextIs, Passes, Ticks, comes_next}
pub use Rattle.link_simulation.specs.Simulation.Time.{drain_each, drifted, never_comes, no_tick, no_time, one_tick}
pub use Rattle.link_simulation.specs.Simulation.Time.{quiet_tick, tick_faults}
pub use Rattle.link_simulation.specs.Simulation.World.{Completed, Course, EndsWith, Flight, IsQuiet, World, and_then}
pub use Rattle.link_simulation.specs.Simulation.World.{arrival, complete, completed, completion_of, first_waiting}
pub use Rattle.link_simulation.specs.Simulation.World.{flight_of, flows, fronts, goes, instant, is_done, is_idle}
pub use Rattle.link_simulation.specs.Simulation.World.{is_in_order, is_late, last_moment, later_of, least_pair}
pub use Rattle.link_simulation.specs.Simulation.World.{may_start, meets, new_world, out_of_flight, preceded, raised}
pub use Rattle.link_simulation.specs.Simulation.World.{ready, settle, settle_within, start, start_next, turn, wake}
pub use Rattle.link_simulation.specs.Simulation.World.{wake_within}
