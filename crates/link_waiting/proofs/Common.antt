-- The names that most proofs of this crate cite, passed on from one place. Declares nothing.
pub use Rattle.chains.specs.Chains.{Rows}
pub use Rattle.fairness.proofs.Lists.Booleans.{by_bool, first_of_both, second_of_both}
pub use Rattle.fairness.proofs.Lists.Each.{Each, all_of_each, each_map, each_of_all, each_without, each_find}
pub use Rattle.fairness.proofs.Lists.Sorted.{list_all-mono}
pub use Rattle.fairness.proofs.Sides.EqualSubjects.{same_peer_itself}
pub use Rattle.fairness.specs.Lists.Sorted.{are_ascending}
pub use Rattle.fairness.specs.Lists.WithoutFirst.{without_first}
pub use Rattle.fairness.specs.Sides.Subjects.{same_peer}
pub use Rattle.least_moment.specs.Moments.{IsDue, moment_at}
pub use Rattle.link_pairs.proofs.Pairs.PairOrder.{pair_total, is_eq-then}
pub use Rattle.link_pairs.specs.Pairs.Entries.{first_of, pair_cmp, Pair, arrival_of, raised_at}
pub use Rattle.link_pairs.specs.Pairs.Messages.{message_of}
pub use Rattle.link_pairs.specs.declared.pair.PeerPair.{PeerPair}
pub use Rattle.link_simulation.proofs.Simulation.Queue.{find_passes, pair_like, pair_sym, any_like}
pub use Rattle.link_simulation.specs.Rule.Events.{with_queued}
pub use Rattle.link_simulation.specs.Rule.Planned.{AreInPairOrder, Planned, may_launch, queued, rated_messages}
pub use Rattle.link_simulation.specs.Rule.Planned.{RatedFlight}
pub use Rattle.link_simulation.specs.Simulation.Messages.{Message, PairsAlike, pair_before, same_pair, with_link}
pub use Rattle.link_simulation.specs.Simulation.World.{last_moment}
pub use Rattle.link_waiting.specs.Idle.AtRest.{is_sending, of_pairs}
pub use Rattle.link_waiting.specs.Idle.FirstMoment.{first_moment}
pub use Rattle.link_waiting.specs.Idle.Index.{IsIndexOf, idle_from}
pub use Rattle.link_waiting.specs.Idle.PairsOfMessages.{NamesPairOf}
pub use Rattle.link_waiting.specs.Idle.Slots.{AreKept, AreNumbered, AreTold, IsFirstSlot, IsToldAnew, Waiter}
pub use Rattle.link_waiting.specs.Idle.Slots.{has_number, has_pair, is_of, live, waiter_of, pair_in, Stands, Marked}
pub use Rattle.link_waiting.specs.Idle.Starting.{may_launch_first}
pub use Rattle.link_waiting.specs.Idle.Waits.{Told, due_below, has_come, queue_of, since_of, told_of, waits_of}
pub use Rattle.link_waiting.specs.Idle.Waits.{pair_of_key}
pub use Rattle.link_waiting.specs.declared.slots.Slot.{Slot}
pub use Rattle.link_waiting.specs.declared.slots.Slots.{Slots}
pub use Rattle.peer_numbers.specs.Pairs.{number_of_pair}
pub use Rattle.std.proofs.Common.{Bool, Err, IfSome, List, None, Ok, Option, Result, Some, [], ap, ap₂, arith, cond}
pub use Rattle.std.proofs.Common.{false, if◌then◌else◌, is_some, length, map, not, refl, rules, slice_get, slice_set}
pub use Rattle.std.proofs.Common.{subst, suc, sym, take, true, zero, zero-add, ℕ, ◌&&◌, ◌++◌, ◌+◌, ◌-◌, ◌<◌, ◌||◌, ◌∙◌}
pub use Rattle.std.proofs.Common.{◌∷◌, ◌≡◌, ◌≤◌, ◌==◌, IfNone, get_or, OnOk}
pub use Rattle.std.proofs.lemmas.Bool.{and_from, eq-eqb, eqb-true, le-leb, leb-true, or_parts}
pub use Rattle.std.proofs.lemmas.List.{append-nil}
pub use Rattle.std.proofs.lemmas.List.Elements.{All-weaker, All-push}
pub use Rattle.std.proofs.lemmas.List.Folds.{find-append}
pub use Rattle.std.proofs.lemmas.List.Sorted.{ranks_by}
pub use Rattle.std.proofs.lemmas.List.Sums.{sum_by-cons, sum_by-append}
pub use Rattle.std.proofs.lemmas.Option.{get_or_from_slice_get, same_Some}
pub use Rattle.std.specs.Cmp.{IsTotalOrder}
pub use Rattle.std.specs.List.{AllZip, filter, find, fold, list_any, list_all}
pub use Rattle.std.specs.List.Sorted.{IsSortedBy}
pub use Rattle.std.specs.Option.{option_and_then, option_map, option_or, unwrap_or}
pub use Rattle.std.specs.Ordering.{is_eq, is_lt, ordering_reverse}
pub use Rattle.std.specs.Prelude.{is_none, nat_le, slice_index_or, count_by}
pub use Rattle.std.specs.declared.cmp.Ordering.{Ordering}
pub use Rattle.std.specs.declared.cmp.Ordering.TheVariants.{Equal, Greater, Less}
pub use mathlib.Core.Path.{fun_ext}
