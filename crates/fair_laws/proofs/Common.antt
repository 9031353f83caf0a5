-- The names that most proofs of this crate cite, passed on from one place. Declares nothing.
pub use Rattle.fair_routes.specs.Network.Laws.{IsLinkSide, rates_at, routes_at}
pub use Rattle.fair_routes.specs.Network.Sides.{has_link, side_of_link, sides_from, sides_over, users_of}
pub use Rattle.fair_routes.specs.Network.Weights.{AreWeightedRates, as_often, by_weight, weight_at, weighted}
pub use Rattle.fairness.proofs.Fairness.MappedSides.{listed_from, listed_on}
pub use Rattle.fairness.proofs.Fairness.OneAllocation.{same_amounts, worth_too}
pub use Rattle.fairness.proofs.Fairness.SameSides.{fairness_is_of_the_set}
pub use Rattle.fairness.proofs.Filling.Frozen.{none_or_some}
pub use Rattle.fairness.proofs.Lists.Members.{In, any_fails, any_passes, contains_from_in, from_map, get_from_map}
pub use Rattle.fairness.proofs.Lists.Members.{get_in, in_from_contains, in_get, in_left, in_map, in_right}
pub use Rattle.fairness.proofs.Lists.Places.{below_length, passes_here, place_here, places_alike}
pub use Rattle.fairness.proofs.Lists.SumOrder.{All-from_contains, sum_by-scaled}
pub use Rattle.fairness.proofs.Lists.Sums.{sum_by_same}
pub use Rattle.fairness.specs.Fairness.Fair.{HasBottleneck, IsFair, IsLimited, Side, Uses, load}
pub use Rattle.fairness.specs.Fairness.Laws.{AreTheSameSides, HaveUsersBelow}
pub use Rattle.fairness.specs.Fairness.Part.{flagged}
pub use Rattle.fairness.specs.Fairness.Rates.{AreFairRates, HasDifferentRates, IsRateOf, last_rate}
pub use Rattle.fairness.specs.Fairness.UnderCaps.{AreFairUnder, AreOfPeers, IsCappedSide, cap_of, limits, sides_under}
pub use Rattle.fairness.specs.Lists.Places.{places_from}
pub use Rattle.fairness.specs.Numbers.Amount.{parts_over}
pub use Rattle.fairness.specs.Numbers.Fits.{ReducedFits}
pub use Rattle.fairness.specs.Numbers.Ratio.{IsWorth}
pub use Rattle.fairness.specs.Refusals.FairRatesFit.{AreWholeOver}
pub use Rattle.fairness.specs.Refusals.TooLarge.{HasLargeRate}
pub use Rattle.fairness.specs.Sides.Answers.{NoLink}
pub use Rattle.fairness.specs.Sides.Caps.{Caps}
pub use Rattle.fairness.specs.Sides.Subjects.{Subject, received_by, same_peer, sent_between, sent_by}
pub use Rattle.fairness.specs.declared.bandwidth.Flow.{Flow}
pub use Rattle.fairness.specs.declared.bandwidth.Rate.{Rate}
pub use Rattle.fairness.specs.declared.bandwidth.Rate.TheVariants.{Finite, Unlimited}
pub use Rattle.fairness.specs.declared.ratio.Ratio.{Ratio}
pub use Rattle.std.proofs.Common.{All, AllPairs, Bool, Contains, List, None, Option, Some, [], ap, ap₂, arith, cond}
pub use Rattle.std.proofs.Common.{count_by, false, get_or, inl, inr, le_refl, length, map, refl, replicate, rules}
pub use Rattle.std.proofs.Common.{subst, suc, sum_by, sym, take, true, zero, ℕ, ◌*◌, ◌++◌, ◌+◌, ◌<◌, ◌==◌, ◌↔◌, ◌∙◌}
pub use Rattle.std.proofs.Common.{◌∷◌, ◌≡◌, ◌≢◌, ◌≤◌, ◌⊎◌}
pub use Rattle.std.proofs.Math.Bool.{or-false}
pub use Rattle.std.proofs.Math.Nat.{eq_of_mul-eq-mul_right}
pub use Rattle.std.proofs.lemmas.Bool.{and_from, and_parts, eq-eqb, eqb-true, false≢true}
pub use Rattle.std.proofs.lemmas.Bool.Decides.{eqb_tells}
pub use Rattle.std.proofs.lemmas.Cmp.{eq_by_cmp_equiv}
pub use Rattle.std.proofs.lemmas.Grind.{common_steps}
pub use Rattle.std.proofs.lemmas.List.{get_or-map, get_or-replicate, get_or_default, length-map, length-replicate}
pub use Rattle.std.proofs.lemmas.List.Elements.{All-contains, All-head, All-tail}
pub use Rattle.std.proofs.lemmas.List.FromFn.{get_or-range_with_len, length-range_with_len}
pub use Rattle.std.proofs.lemmas.List.Sorted.{Contains-permutation, IsPermutation-refl, IsPermutation-sym}
pub use Rattle.std.proofs.lemmas.List.Sums.{sum_by-cons}
pub use Rattle.std.proofs.lemmas.Option.{get_or_from_slice_get, same_Some, slice_get-get_or, slice_get-map}
pub use Rattle.std.specs.Cmp.{IsTotalOrder}
pub use Rattle.std.specs.Fn.{CalledAt, CalledAtTwo}
pub use Rattle.std.specs.List.{AllZip, filter, list_any, range_with_len}
pub use Rattle.std.specs.Prelude.{slice_get, slice_index, ◌||◌}
pub use Rattle.std.specs.declared.cmp.Ordering.{Ordering}
