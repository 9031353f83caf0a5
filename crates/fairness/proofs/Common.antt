-- The names that most proofs of this crate cite, passed on from one place. Declares nothing.
pub use Prim.Native.Nat.{◌∣◌}
pub use Rattle.std.proofs.Common.{All, AllPairs, Bool, Contains, Err, IfErr, IfSome, IsSome, List, None, Ok, Option}
pub use Rattle.std.proofs.Common.{Result, Some, [], ap, append_assoc, ap₂, arith, cond, count_by, drop, false, get_or}
pub use Rattle.std.proofs.Common.{inl, inr, le_refl, length, map, mul-le-mul_right, refl, rules, set}
pub use Rattle.std.proofs.Common.{subst, suc, sum_by, sym, take, true, zero, ℕ, ⊎_elim, ◌&&◌, ◌*◌, ◌++◌, ◌+◌, ◌-◌, ◌/◌}
pub use Rattle.std.proofs.Common.{◌<◌, ◌^◌, ◌↔◌, ◌∙◌, ◌∷◌, ◌≡◌, ◌≢◌, ◌≤◌, ◌⊎◌}
pub use Rattle.std.proofs.Math.Nat.{dvd-mul_left, dvd-mul_right, dvd-zero, eq_of_mul-eq-mul_right}
pub use Rattle.std.proofs.Math.Nat.{le_of_mul-le-mul_right, lt_of_mul-lt-mul_right, mul-div_cancel', mul-pos, mul-sub}
pub use Rattle.std.proofs.lemmas.Bool.{and_from, and_parts, cases_eq, cases_lt, eq-eqb, eqb-true, false≢true}
pub use Rattle.std.proofs.lemmas.Cmp.{eq_by_cmp_equiv}
pub use Rattle.std.proofs.lemmas.Grind.{common_steps}
pub use Rattle.std.proofs.lemmas.List.{append-nil, map-append}
pub use Rattle.std.proofs.lemmas.List.Elements.{All-append, All-cons, All-contains, All-head, All-nil, All-tail}
pub use Rattle.std.proofs.lemmas.List.Elements.{All-weaker, Contains-append_left, Contains-append_right}
pub use Rattle.std.proofs.lemmas.List.Sums.{get_or-le-sum_by, sum_by-cons}
pub use Rattle.std.proofs.lemmas.Option.{same_Some, slice_get-map}
pub use Rattle.std.specs.Cmp.{IsTotalOrder}
pub use Rattle.std.specs.Fn.{CalledAt, CalledAtTwo, TakesAt, TakesAtTwo}
pub use Rattle.std.specs.List.{AllZip, FoldsTo, filter, insert, list_all, list_any}
pub use Rattle.std.specs.Ordering.{is_eq, is_lt, nat_cmp}
pub use Rattle.std.specs.Prelude.{option_map, slice_get, unwrap_or}
pub use Rattle.std.specs.declared.cmp.Ordering.{Ordering}
pub use Rattle.std.specs.declared.cmp.Ordering.TheVariants.{Equal, Greater, Less}
pub use Rattle.fairness.specs.Fairness.Allocation.{IsAllocation}
pub use Rattle.fairness.specs.Fairness.Exists.{product}
pub use Rattle.fairness.specs.Fairness.Fair.{HasBottleneck, IsFair, IsLimited, IsWithinCaps, Side, Uses, load}
pub use Rattle.fairness.specs.Fairness.Laws.{HaveUsersBelow}
pub use Rattle.fairness.specs.Fairness.Rates.{AreFairRates, IsRateOf, last_rate}
pub use Rattle.fairness.specs.Fairness.UnderCaps.{AreOfPeers, IsCappedSide, cap_of, limits, sides_under}
pub use Rattle.fairness.specs.Filling.Frozen.{at_level}
pub use Rattle.fairness.specs.Lists.Places.{places_from}
pub use Rattle.fairness.specs.Lists.Sorted.{IsGap}
pub use Rattle.fairness.specs.Numbers.Amount.{Amount, AreEqual, Covers, billion, gcd, parts_over, times}
unfoldable pub use Rattle.fairness.specs.Numbers.Amount.{reduced}
pub use Rattle.fairness.specs.Numbers.Fits.{ReducedFits}
pub use Rattle.fairness.specs.Numbers.Fraction.{IsReduced}
pub use Rattle.fairness.specs.Numbers.Gcd.{gcd-IsGcd, gcd-mod, gcd-pos}
pub use Rattle.fairness.specs.Numbers.LowestTerms.{reduced_lowest, reduced_same, whole_IsReduced}
pub use Rattle.fairness.specs.Numbers.Ratio.{IsWorth, amount_of}
pub use Rattle.fairness.specs.Refusals.FairRatesFit.{AreWholeOver, FairRatesFit}
pub use Rattle.fairness.specs.Refusals.TooLarge.{HasLargeRate, IsTooLarge}
pub use Rattle.fairness.specs.Sides.Answers.{AnswerInOrder, Answered, CallableOnEach, CallableOnEachPair}
pub use Rattle.fairness.specs.Sides.Answers.{CalledIfDelivered, Calls, CallsFor, NoLink, PairCalls, States, pairs}
pub use Rattle.fairness.specs.Sides.Answers.{recipients}
pub use Rattle.fairness.specs.Sides.Caps.{Caps}
pub use Rattle.fairness.specs.Sides.Subjects.{Ask, Subject, asks_from, is_open, is_same, opened, received_by, same_peer}
pub use Rattle.fairness.specs.Sides.Subjects.{same_subject, sent_between, sent_by, sides_after, sides_of}
pub use Rattle.fairness.specs.declared.bandwidth.Flow.{Flow}
pub use Rattle.fairness.specs.declared.bandwidth.Rate.{Rate}
pub use Rattle.fairness.specs.declared.bandwidth.Rate.TheVariants.{Finite, Unlimited}
pub use Rattle.fairness.specs.declared.error.Error.{Error}
pub use Rattle.fairness.specs.declared.ratio.Ratio.{Ratio}
