-- The names that most proofs of this crate cite, passed on from one place. Declares nothing.
pub use Rattle.fairness.proofs.Fairness.MappedSides.{listed_from, listed_on, all_unmapped}
pub use Rattle.fairness.proofs.Fairness.OneAllocation.{same_amounts, worth_too}
pub use Rattle.fairness.proofs.Fairness.SameSides.{fairness_is_of_the_set}
pub use Rattle.fairness.proofs.Filling.Frozen.{if_err, none_or_some, not_some, some_is, at_none}
pub use Rattle.fair_rates.proofs.Filling.Growing.{AreScaled}
pub use Rattle.fairness.proofs.Filling.States.{IsFilledTo}
pub use Rattle.fairness.proofs.Lists.Members.{In, contains_from_in, from_map, in_from_contains, in_left}
pub use Rattle.fairness.proofs.Lists.Members.{in_right, any_fails, in_either}
pub use Rattle.fairness.proofs.Lists.Places.{places_alike, places_below}
pub use Rattle.fairness.proofs.Lists.SumOrder.{All-from_contains, sum_by-scaled}
pub use Rattle.fairness.proofs.Lists.Sums.{sum_by_same}
pub use Rattle.fairness.specs.Fairness.Exists.{product}
pub use Rattle.fairness.specs.Fairness.Fair.{IsFair, IsLimited, Side, load}
pub use Rattle.fairness.specs.Fairness.Laws.{HaveUsersBelow, AreTheSameSides}
pub use Rattle.fairness.specs.Fairness.Rates.{AreFairRates, IsRateOf, HasDifferentRates}
pub use Rattle.fair_rates.specs.Filling.FairParts.{level_at}
pub use Rattle.fairness.specs.Filling.Frozen.{at_level}
pub use Rattle.fairness.specs.Lists.Places.{places_from}
pub use Rattle.fairness.specs.Numbers.Ratio.{IsWorth}
pub use Rattle.fairness.specs.declared.bandwidth.Rate.{Rate}
pub use Rattle.fairness.specs.declared.bandwidth.Rate.TheVariants.{Finite, Unlimited}
pub use Rattle.fairness.specs.declared.ratio.Ratio.{Ratio}
pub use Rattle.fair_routes.specs.Network.Laws.{IsLinkSide}
pub use Rattle.fair_routes.specs.Network.Rising.{AreAllHeld, HasFrozen, HasLeastRoom, frozen_in, rising_weight}
pub use Rattle.fair_routes.specs.Network.Rising.{slack_of, AreFilledByWeight}
pub use Rattle.fair_routes.specs.Network.Sides.{AreListed, has_link, side_of, side_of_link, sides_from, sides_over}
pub use Rattle.fair_routes.specs.Network.Sides.{users_of}
pub use Rattle.fair_routes.specs.Network.Told.{IsNumbered, told_routes, told_weights, AreRatesTold, MayRefuseTold}
pub use Rattle.fair_routes.specs.Network.Users.{AreUsers, lists, users_at, HasJoined, IsNoLink}
pub use Rattle.fair_routes.specs.Network.Weights.{AreWeightedRates, HaveLittleWeight, IsWeightRefusal, as_often}
pub use Rattle.fair_routes.specs.Network.Weights.{by_weight, weight_at, weighted, IsWeightedAllocation}
pub use Rattle.fair_routes.specs.Network.Weights.{HasLargeWeightedRate}
pub use Rattle.fair_routes.specs.declared.routes.error.RouteError.TheVariants.{Refused, NoSuchLink}
pub use Rattle.fair_routes.specs.declared.routes.weighted.room.Room.{Room}
pub use Rattle.std.proofs.Common.{All, Bool, Contains, List, None, Option, Some, [], ap, ap₂, arith, cond, false}
pub use Rattle.std.proofs.Common.{get_or, inl, inr, length, map, mul-le-mul_right, refl, replicate, set, subst, suc}
pub use Rattle.std.proofs.Common.{sum_by, sym, take, true, zero, ℕ, ◌*◌, ◌++◌, ◌+◌, ◌-◌, ◌<◌, ◌==◌, ◌^◌, ◌∙◌, ◌∷◌, ◌≡◌}
pub use Rattle.std.proofs.Common.{◌≤◌, ◌⊎◌, rules, IsSome, length-append, eq-eqb, ◌↔◌, vec_len}
pub use Rattle.std.proofs.Math.Bool.{or-false}
pub use Rattle.std.proofs.Math.Nat.{eq_of_mul-eq-mul_right}
pub use Rattle.std.proofs.lemmas.Bool.{cases_lt, eqb-true, cases_eq}
pub use Rattle.std.proofs.lemmas.Bool.Decides.{eqb_tells}
pub use Rattle.std.proofs.lemmas.Grind.{common_steps}
pub use Rattle.std.proofs.lemmas.List.{get_or-map, get_or-replicate, get_or_default, length-map, length-replicate}
pub use Rattle.std.proofs.lemmas.List.{map-append, take_all, take_more, get_or_push, get_or_append_left, append-nil}
pub use Rattle.std.proofs.lemmas.List.{ext_get_or, replicate-append-replicate, length-take-le, with_items_is}
pub use Rattle.std.proofs.lemmas.List.{get_or_past}
pub use Rattle.std.proofs.lemmas.List.Elements.{All-contains, All-map, All-nil, All-push, All-tail, All-head, All-more}
pub use Rattle.std.proofs.lemmas.List.Folds.{list_any-append}
pub use Rattle.std.proofs.lemmas.List.Sums.{sum_by-cons, sum_by_more}
pub use Rattle.std.proofs.lemmas.Option.{get_or_from_slice_get, slice_get-get_or, slice_get-map, slice_get_within}
pub use Rattle.std.specs.BTreeMap.{keys, values}
pub use Rattle.std.specs.List.{AllZip, list_any, zip, AllPairs}
pub use Rattle.std.specs.Map.Iter.{deref}
pub use Rattle.std.specs.Option.{is_none}
pub use Rattle.std.specs.Prelude.{count_by, option_map, slice_get, slice_index, unwrap_or, ◌||◌, MatchOption}
pub use Rattle.std.specs.Vec.{with_items}
pub use Rattle.std.specs.declared.alloc.Global.{Global}
pub use Rattle.std.specs.declared.vec.Vec.{Vec}
