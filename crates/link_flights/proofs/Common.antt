-- The names that most proofs of this crate cite, passed on from one place. Declares nothing.
pub use Prim.Native.Nat.{◌∣◌}
pub use Rattle.fairness.proofs.Fairness.SameSides.{still_fair}
pub use Rattle.fairness.proofs.Fairness.Sharing.{AreShared, shared_from, total}
pub use Rattle.fair_rates.proofs.Filling.Alone.{parts_alone_fair}
pub use Rattle.fairness.proofs.Lists.Booleans.{by_bool, first_of_both, second_of_both}
pub use Rattle.fairness.proofs.Lists.InPlace.{IsChangedUpTo, one_more, unchanged, all_changed}
pub use Rattle.fairness.proofs.Lists.Members.{In, all_pass, all_passed, contains_from_in, from_filter, from_map}
pub use Rattle.fairness.proofs.Lists.Members.{get_from_map, get_in, in_either, in_filter, in_from_contains, in_get}
pub use Rattle.fairness.proofs.Lists.Members.{in_left, in_map, in_right}
pub use Rattle.fairness.proofs.Lists.Places.{places_below}
pub use Rattle.fairness.proofs.Lists.Sorted.{get_or-seam}
pub use Rattle.fairness.proofs.Lists.SumOrder.{All-from_contains}
pub use Rattle.fairness.proofs.Numbers.Draining.{product_none}
pub use Rattle.fairness.proofs.Sides.EqualSubjects.{same_peer_itself, one_cap, same_limits}
pub use Rattle.fairness.specs.Fairness.Exists.{product}
pub use Rattle.fairness.specs.Fairness.Fair.{IsFair, Side, load}
pub use Rattle.fairness.specs.Fairness.UnderCaps.{AreOfPeers, cap_of, limits, sides_under}
pub use Rattle.fair_rates.specs.Filling.FairParts.{parts_of_level, flow_parts}
pub use Rattle.fairness.specs.Lists.Places.{places_from}
pub use Rattle.fairness.specs.Numbers.Amount.{billion, gcd, whole, Amount}
pub use Rattle.fairness.specs.Numbers.Gcd.{gcd-IsGcd, gcd-mod}
pub use Rattle.fairness.specs.Numbers.LowestTerms.{reduced_alike, reduced_scaled, IsScaled, reduced_scales}
pub use Rattle.fairness.specs.Sides.Caps.{Caps}
pub use Rattle.fair_rates.specs.Sides.SideOf.{side_of}
pub use Rattle.fairness.specs.Sides.Subjects.{Subject, received_by, same_peer, sent_between, sent_by, same_subject}
pub use Rattle.fairness.specs.declared.bandwidth.Flow.{Flow}
pub use Rattle.fairness.specs.declared.bandwidth.FlowCaps.{FlowCaps}
pub use Rattle.fair_rates.specs.declared.bandwidth.parts.FairParts.{FairParts}
pub use Rattle.link_flights.specs.Flights.Components.{AreAllListed, AreNoted, AreSuited, AreTouched, Ascends, has_both}
pub use Rattle.link_flights.specs.Flights.Components.{is_closed, is_of, is_receiver, is_sender, keeps, places_of, suits}
pub use Rattle.link_flights.specs.Flights.Components.{those_near, those_of, touches, near_of, AreNear, AreStillListed}
pub use Rattle.link_flights.specs.Flights.Components.{IsTouched, SharesAt, SharesEndAt, AreListedAt, StartsWith}
pub use Rattle.link_flights.specs.Flights.Components.{AreListed, AllNewTouch, AreTied, AreStillTied, IsTied, has_end, have_end, joins}
pub use Rattle.link_flights.specs.Flights.Flight.{AreTimed, DrainsTo, HaveRates, IsTimed, UnitFlight, flight_at}
pub use Rattle.link_flights.specs.Flights.Flight.{flights_at, has_come, left_by}
pub use Rattle.link_flights.specs.Flights.InFlight.{IsNextPlace, PassesFirstAt, PassesNowhere, in_flight, in_units}
pub use Rattle.link_flights.specs.Flights.InFlight.{loose_in}
pub use Rattle.link_flights.specs.Flights.LargerUnits.{IsCountedBy}
pub use Rattle.link_flights.specs.Flights.Loose.{AreStillLoose}
pub use Rattle.link_flights.specs.Flights.Rated.{AreFairlyRated, AreRatedBeside, DifferWhereLoose, HaveFairRates}
pub use Rattle.link_flights.specs.Flights.Rated.{IsLoose, IsNoMore, IsRatedFrom, IsReratedAt, WereRated, WereRatedUnder}
pub use Rattle.link_flights.specs.Flights.Rated.{are_limited, is_out, rated_anew, rated_ones, rates_found, rates_of}
pub use Rattle.link_flights.specs.Flights.Rated.{rates_of_levels, rerated, sent_messages, AreFairFor, AreKeptBut}
pub use Rattle.link_flights.specs.Flights.Rated.{ArePartedBy, IsCountedAt}
pub use Rattle.link_flights.specs.Flights.RatedFlights.{rated_flight_of, sending_of}
pub use Rattle.link_flights.specs.Flights.Readings.{IsGreatestWhole, IsReadingOf, IsReadAs}
pub use Rattle.link_flights.specs.Flights.Rows.{IsRow, items_of, AreKept}
pub use Rattle.link_flights.specs.Flights.Sides.{IsSideOf, end_subject, flow_in_flight, flow_sent, flows_of, kept_load}
pub use Rattle.link_flights.specs.Flights.Sides.{left_caps, left_of, link_subject, uses_end, AddsSides, IsCounted}
pub use Rattle.link_flights.specs.Flights.Table.{share, Line}
pub use Rattle.link_flights.specs.declared.component.Component.{Component}
pub use Rattle.link_flights.specs.declared.flight.Flight.{Flight}
pub use Rattle.link_flights.specs.declared.flight_list.Flights.{Flights}
pub use Rattle.link_flights.specs.declared.joined.Ends.{Ends}
pub use Rattle.link_flights.specs.declared.joined.Ends.TheVariants.{Both, Receiver, Sender}
pub use Rattle.link_flights.specs.declared.joined.Joined.{Joined}
pub use Rattle.link_flights.specs.declared.table.End.{End}
pub use Rattle.link_flights.specs.declared.table.End.TheVariants.{Origin, Recipient}
pub use Rattle.link_pairs.proofs.Pairs.ByNumber.{get_set_other, get_set_here}
pub use Rattle.link_pairs.proofs.Pairs.LookedUp.{looked_up}
pub use Rattle.link_pairs.specs.Pairs.CapsOf.{caps_of}
pub use Rattle.link_pairs.specs.Pairs.Entries.{Pair}
pub use Rattle.link_pairs.specs.Pairs.Messages.{message_of, messages}
pub use Rattle.link_simulation.specs.Rule.Planned.{RatedFlight, drained_to, is_spent, rated_messages, IsLeastMoment}
pub use Rattle.link_simulation.specs.Rule.Planned.{SomeSpentAt}
pub use Rattle.link_simulation.specs.Simulation.Messages.{Message, is_delivered}
pub use Rattle.link_simulation.specs.Simulation.Rates.{capped_sides, is_unlimited}
pub use Rattle.link_simulation.specs.Simulation.World.{last_moment}
pub use Rattle.peer_numbers.proofs.Peers.{number_stays}
pub use Rattle.peer_numbers.specs.Peers.{number_of}
pub use Rattle.row_table.specs.Rows.{is_due_by, with_item}
pub use Rattle.std.proofs.Common.{All, Bool, Contains, IfSome, List, None, Option, Some, [], add-one, ap, ap₂, arith}
pub use Rattle.std.proofs.Common.{cond, drop, false, get_or, if◌then◌else◌, inl, inr, length, map, nat_le, not}
pub use Rattle.std.proofs.Common.{option_map, refl, rules, set, slice_get, slice_set, subst, suc, sum_by, sym, take}
pub use Rattle.std.proofs.Common.{true, zero, zero-add, ℕ, ◌&&◌, ◌*◌, ◌++◌, ◌+◌, ◌-◌, ◌/◌, ◌<◌, ◌^◌, ◌||◌, ◌∙◌, ◌∷◌}
pub use Rattle.std.proofs.Common.{◌≡◌, ◌≢◌, ◌≤◌, ◌⊎◌, replicate, append_assoc, ◌%◌, tests}
pub use Rattle.std.proofs.Math.Nat.{mul_assoc, mul-zero, mul-sub, mul_comm, mul-div_cancel', le_of_mul-le-mul_left}
pub use Rattle.std.proofs.Math.Nat.{mul-pos}
pub use Rattle.std.proofs.lemmas.Bool.{and_from, cases_lt, eqb-true, false≢true, le-leb, leb-true, eq-eqb, true≢false}
pub use Rattle.std.proofs.lemmas.Cmp.{eq_by_cmp_equiv}
pub use Rattle.std.proofs.lemmas.Iterator.{YieldsList-from_slice}
pub use Rattle.std.proofs.lemmas.Iterator.Search.{all_from_yields_List}
pub use Rattle.std.proofs.lemmas.List.{append-nil, get_or-map, get_or_default, length-append, length-map, length-set}
pub use Rattle.std.proofs.lemmas.List.{map-append, nil_from_length, take_all, take_more, set-get_or}
pub use Rattle.std.proofs.lemmas.List.Elements.{All-append, All-contains, All-weaker, filter-append, All-nil, All-take}
pub use Rattle.std.proofs.lemmas.List.Folds.{list_all-map, list_any_at}
pub use Rattle.std.proofs.lemmas.List.Sums.{sum_by-cons}
pub use Rattle.std.proofs.lemmas.Nat.Gcd.{dvd_trans}
pub use Rattle.std.proofs.lemmas.Option.{get_or_from_slice_get, none-some, same_Some, slice_get-get_or, slice_get-map}
pub use Rattle.std.proofs.lemmas.Option.{slice_get_read, slice_get_within}
pub use Rattle.std.specs.Bool.{◌==◌}
pub use Rattle.std.specs.Cmp.{IsTotalOrder}
pub use Rattle.std.specs.Int.{IsGcd}
pub use Rattle.std.specs.List.{AllZip, filter, list_all, list_any, remove, AllPairs}
pub use Rattle.std.specs.Prelude.{slice_index, unwrap_or, MatchOption}
pub use Rattle.std.specs.declared.alloc.Global.{Global}
pub use Rattle.std.specs.declared.cmp.Ordering.{Ordering}
pub use Rattle.std.specs.declared.sync.Arc.{Arc}
unfoldable pub use Rattle.fairness.specs.Numbers.Amount.{reduced}
