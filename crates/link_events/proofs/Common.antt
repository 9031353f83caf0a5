-- The names that most proofs of this crate cite, passed on from one place. Declares nothing.
pub use Rattle.fairness.proofs.Lists.Booleans.{by_bool, second_of_both, first_of_both}
pub use Rattle.fairness.proofs.Lists.Each.{Each}
pub use Rattle.fairness.specs.Lists.WithoutFirst.{without_first}
pub use Rattle.fairness.specs.Numbers.Amount.{whole}
pub use Rattle.fairness.specs.Sides.Caps.{Caps}
pub use Rattle.fairness.specs.Sides.Subjects.{same_peer}
pub use Rattle.fairness.specs.declared.error.Error.{Error}
pub use Rattle.fairness.specs.declared.error.Error.TheVariants.{MomentTooLate, OutOfMemory}
pub use Rattle.link_events.specs.Steps.AsPlanned.{planned}
pub use Rattle.link_events.specs.Steps.Due.{Happens, IsDue}
pub use Rattle.link_events.specs.Steps.Landing.{since_of_first, FirstLands}
pub use Rattle.link_events.specs.Steps.Marks.{before_of}
pub use Rattle.link_events.specs.Steps.Outgoing.{outgoing_by}
pub use Rattle.link_events.specs.Steps.Standing.{IsStanding}
pub use Rattle.link_events.specs.Steps.Through.{gone_through}
pub use Rattle.link_events.specs.declared.event.Event.{Event}
pub use Rattle.link_events.specs.declared.event.Event.TheVariants.{Finish, Start}
pub use Rattle.link_events.specs.declared.ledger.Ledger.{Ledger}
pub use Rattle.link_flights.proofs.Flights.Joining.{left_updated}
pub use Rattle.link_flights.proofs.Flights.Loosened.{rated_under_new}
pub use Rattle.link_flights.proofs.Flights.Standing.{still_rated}
pub use Rattle.link_flights.specs.Flights.Flight.{UnitFlight, flights_at}
pub use Rattle.link_flights.specs.Flights.InFlight.{in_flight, in_units}
pub use Rattle.link_flights.specs.Flights.Rated.{HadFairRates, is_out, AreFairlyRated, WereRatedUnder, IsFloorOf}
pub use Rattle.link_flights.specs.Flights.Rated.{rated_ones}
pub use Rattle.link_flights.specs.Flights.RatedFlights.{sending_of}
pub use Rattle.link_flights.specs.declared.flight_list.Flights.{Flights}
pub use Rattle.link_pairs.proofs.Pairs.LookedUp.{arrivals_looked_up}
pub use Rattle.link_pairs.specs.Pairs.CapsOf.{caps_of}
pub use Rattle.link_pairs.specs.Pairs.Entries.{first_of, arrival_of, Pair}
pub use Rattle.link_pairs.specs.Pairs.Messages.{message_of, messages, ended_of}
pub use Rattle.link_pairs.specs.Pairs.PeerCaps.{egress_of, ingress_of}
pub use Rattle.link_pairs.specs.declared.pair.PeerPair.{PeerPair}
pub use Rattle.link_simulation.proofs.Laws.Orderly.{idle_if_may, stayed_messages}
pub use Rattle.link_simulation.proofs.Rule.Following.{account_of}
pub use Rattle.link_simulation.proofs.Rule.OneAccount.{AreLowest}
pub use Rattle.link_simulation.proofs.Simulation.AlikeMessages.{pair_itself}
pub use Rattle.link_simulation.proofs.Simulation.OtherPairs.{fronts_are_first}
pub use Rattle.link_simulation.proofs.Simulation.Queue.{any_like, find_passes, preceded_none}
pub use Rattle.link_simulation.proofs.Simulation.RefusalCauses.{refused_more, refused_memory}
pub use Rattle.link_simulation.specs.Rule.Events.{Launches, Accounts, launched, Finishes, PlansStart, landed, Enqueues}
pub use Rattle.link_simulation.specs.Rule.Events.{WakesEach, with_queued, Wakes, all_started, nothing_waits, too_early}
pub use Rattle.link_simulation.specs.Rule.Events.{starts, all_completed, late, stopped, Settles, Rebalances, no_id}
pub use Rattle.link_simulation.specs.Rule.Events.{completes, settling, no_start, no_finish, starts_one, none_sending}
pub use Rattle.link_simulation.specs.Rule.Events.{some_sending, launches}
pub use Rattle.link_simulation.specs.Rule.Leaving.{Leaves}
pub use Rattle.link_simulation.specs.Rule.Planned.{Planned, rated_messages, is_spent, next_of, drained_to, RatedFlight}
pub use Rattle.link_simulation.specs.Rule.Planned.{may_launch, SomeReadyAt, left_at}
pub use Rattle.link_simulation.specs.Simulation.Messages.{Message, same_pair, with_link, OneForEachPair, is_delivered}
pub use Rattle.link_simulation.specs.Simulation.Rates.{is_unlimited}
pub use Rattle.link_simulation.specs.Simulation.RefusalCauses.{IsRefusedFor}
pub use Rattle.link_simulation.specs.Simulation.World.{goes, meets, Completed, Course, preceded, completion_of}
pub use Rattle.link_simulation.specs.Simulation.World.{last_moment, is_late, completed, fronts, arrival}
pub use Rattle.link_waiting.proofs.Idle.IndexChanges.{alike_from, same_flights_index, arrived_index, busy_none}
pub use Rattle.link_waiting.proofs.Idle.Moved.{rested_is}
pub use Rattle.link_waiting.specs.Idle.AtRest.{of_pairs, is_sending}
pub use Rattle.link_waiting.specs.Idle.FirstMoment.{first_moment}
pub use Rattle.link_waiting.specs.Idle.Index.{AreAtRest, IsIndexOf, idle_from, is_of_pair}
pub use Rattle.link_waiting.specs.Idle.PairsOfMessages.{NamesPairOf}
pub use Rattle.link_waiting.specs.Idle.Starting.{may_launch_first}
pub use Rattle.link_waiting.specs.Idle.Waits.{since_of, has_come}
pub use Rattle.std.proofs.Common.{◌∙◌, sym, ap, ◌≡◌, subst, refl, [], List, true, ◌∷◌, map, ℕ, ◌++◌, ◌+◌, length, false}
pub use Rattle.std.proofs.Common.{Some, Bool, arith, Option, ◌<◌, not, inr, inl, None, cond, ◌≤◌, Result, Ok, Err, suc}
pub use Rattle.std.proofs.Common.{if◌then◌else◌, IfOk, rules, length-append, drop, ◌&&◌, ◌||◌, append_assoc, get_or}
pub use Rattle.std.proofs.Common.{◌⊎◌, take, IfErr, OnOk, zero, ◌*◌, drop-cons, ap₂}
pub use Rattle.std.proofs.Math.Logic.{∥∥₁_map, ∥∥₁_elim}
pub use Rattle.std.proofs.Props.{props}
pub use Rattle.std.proofs.lemmas.Bool.{false≢true, eq-eqb, and_from, or_left, or_parts, eqb-true, or_from}
pub use Rattle.std.proofs.lemmas.List.{map-append, append-nil, length-map}
pub use Rattle.std.proofs.lemmas.Result.{err_from_is_err_and}
pub use Rattle.std.specs.Bool.{then_some}
pub use Rattle.std.specs.Cmp.{IsTotalOrder}
pub use Rattle.std.specs.List.{filter, list_any, find, AllZip}
pub use Rattle.std.specs.Prelude.{option_map, ◌==◌, ◌≢◌, is_none}
pub use Rattle.std.specs.Vec.Iter.{into_iter_items}
pub use Rattle.std.specs.declared.alloc.Global.{Global}
pub use Rattle.std.specs.declared.cmp.Ordering.{Ordering}
pub use Rattle.std.specs.declared.sync.Arc.{Arc}
