-- The names that most proofs of this crate cite, passed on from one place. Declares nothing.
pub use Prim.Native.Nat.{◌∣◌}
pub use Rattle.std.proofs.Common.{All, AllPairs, Bool, Contains, Err, IfSome, IsSome, List, None, Ok, Option}
pub use Rattle.std.proofs.Common.{Some, [], ap, append_assoc, ap₂, arith, cond, drop, false, get_or}
pub use Rattle.std.proofs.Common.{inl, inr, length, length-append, map, mul-le-mul_right, refl, rules, set}
pub use Rattle.std.proofs.Common.{subst, suc, sum_by, sym, take, true, zero, ℕ, ⊎_elim, ◌&&◌, ◌*◌, ◌++◌, ◌+◌, ◌-◌, ◌/◌}
pub use Rattle.std.proofs.Common.{◌<◌, ◌^◌, ◌↔◌, ◌∙◌, ◌∷◌, ◌≡◌, ◌≢◌, ◌≤◌, ◌⊎◌}
pub use Rattle.std.proofs.Math.Nat.{dvd-mul_left, dvd-mul_right, eq_of_mul-eq-mul_right}
pub use Rattle.std.proofs.Math.Nat.{mul-pos, mul-sub}
pub use Rattle.std.proofs.lemmas.Bool.{cases_eq, cases_lt, eqb-true}
pub use Rattle.std.proofs.lemmas.Cmp.{eq_by_cmp_equiv}
pub use Rattle.std.proofs.lemmas.Grind.{common_steps}
pub use Rattle.std.proofs.lemmas.List.{append-nil, get_or-map, get_or_append_left, get_or_default, get_or_past}
pub use Rattle.std.proofs.lemmas.List.{length-map, map-append, take_all}
pub use Rattle.std.proofs.lemmas.List.Elements.{All-append, All-cons, All-contains, All-head, All-map, All-nil}
pub use Rattle.std.proofs.lemmas.List.Elements.{All-push, All-tail, All-weaker, Contains-append_left}
pub use Rattle.std.proofs.lemmas.List.Elements.{Contains-append_right, Contains-push}
pub use Rattle.std.proofs.lemmas.List.Sorted.{All-permutation, Contains-permutation, IsPermutation-refl}
pub use Rattle.std.proofs.lemmas.List.Sorted.{IsPermutation-sym}
pub use Rattle.std.proofs.lemmas.List.Sums.{sum_by-cons}
pub use Rattle.std.proofs.lemmas.Option.{same_Some}
pub use Rattle.std.specs.BinaryHeap.{IsHeap, heap_items, heap_len}
pub use Rattle.std.specs.Cmp.{IsTotalOrder}
pub use Rattle.std.specs.Fn.{CalledAt, CalledAtTwo, TakesAt, TakesAtTwo}
pub use Rattle.std.specs.List.{FoldsTo, filter, insert, list_any}
pub use Rattle.std.specs.Map.{lookup}
pub use Rattle.std.specs.Option.{option_or}
pub use Rattle.std.specs.Ordering.{is_eq, is_lt, nat_cmp}
pub use Rattle.std.specs.Prelude.{IsPermutation, is_some, option_map, slice_index, unwrap_or}
pub use Rattle.std.specs.declared.cmp.Ordering.{Ordering}
pub use Rattle.std.specs.declared.cmp.Ordering.TheVariants.{Equal, Greater, Less}
pub use Rattle.std.specs.declared.cmp.Reverse.{Reverse}
pub use Rattle.fairness.specs.Fairness.Allocation.{IsAllocation}
pub use Rattle.fairness.specs.Fairness.Exists.{product}
pub use Rattle.fairness.specs.Fairness.Fair.{HasBottleneck, IsFair, IsLimited, IsWithinCaps, Side, Uses, load}
pub use Rattle.fairness.specs.Fairness.Laws.{HaveUsersBelow}
pub use Rattle.fairness.specs.Fairness.Rates.{AreFairRates, HasDifferentRates, IsRateOf, last_rate}
pub use Rattle.fairness.specs.Fairness.UnderCaps.{sides_under}
pub use Rattle.fair_rates.specs.Filling.FairParts.{IsRateAt, flow_parts, level_at}
pub use Rattle.fairness.specs.Filling.Frozen.{AllFilled, AllFrozen, AllRise}
pub use Rattle.fair_rates.specs.Filling.States.{AreAbove, AreAtTop, AreGrown, AreOpened}
pub use Rattle.fair_rates.specs.Filling.States.{HaveNoMore, IsCovered, IsOpen, IsQueue, IsRaised, IsShareQueue}
pub use Rattle.fairness.specs.Filling.Frozen.{at_level}
pub use Rattle.fair_rates.specs.Filling.States.{IsWithinSlack, KeepsAccount, frozen_at, queue_cmp, top}
pub use Rattle.fairness.specs.Lists.Sorted.{IsGap}
pub use Rattle.fairness.specs.Numbers.Amount.{gcd, parts_over}
unfoldable pub use Rattle.fairness.specs.Numbers.Amount.{reduced}
pub use Rattle.fairness.specs.Numbers.Fits.{ReducedFits}
pub use Rattle.fairness.specs.Numbers.Fraction.{IsReduced}
pub use Rattle.fairness.specs.Numbers.Gcd.{gcd-IsGcd, gcd-mod, gcd-pos}
pub use Rattle.fairness.specs.Numbers.LowestTerms.{reduced_lowest, reduced_same, whole_IsReduced}
pub use Rattle.fairness.specs.Numbers.Ratio.{IsWorth}
pub use Rattle.fairness.specs.Refusals.FairRatesFit.{AreWholeOver, FairRatesFit}
pub use Rattle.fairness.specs.Refusals.TooLarge.{HasLargeRate, IsTooLarge}
pub use Rattle.fairness.specs.Sides.Answers.{AnswerInOrder, Answered, CallableOnEach, CallableOnEachPair}
pub use Rattle.fairness.specs.Sides.Answers.{CalledIfDelivered, Calls, CallsFor, PairCalls, States, pairs}
pub use Rattle.fairness.specs.Sides.Answers.{recipients}
pub use Rattle.fairness.specs.Sides.Caps.{Caps}
pub use Rattle.fair_rates.specs.Sides.Registry.{FindsSides, HasNumber, IsRegistryOf, Registers, number_of, subject_of}
pub use Rattle.fair_rates.specs.Sides.SideOf.{side_of}
pub use Rattle.fairness.specs.Sides.Subjects.{Ask, Subject, asks_from, asks_of_one, is_open, is_same, opened}
pub use Rattle.fairness.specs.Sides.Subjects.{received_by, same_peer, same_subject, sent_between, sent_by}
pub use Rattle.fairness.specs.Sides.Subjects.{sides_after, sides_of}
pub use Rattle.fairness.specs.declared.bandwidth.Flow.{Flow}
pub use Rattle.fairness.specs.declared.bandwidth.Rate.{Rate}
pub use Rattle.fairness.specs.declared.bandwidth.Rate.TheVariants.{Finite}
pub use Rattle.fair_rates.specs.declared.bandwidth.filling.open.OpenSide.{OpenSide}
pub use Rattle.fair_rates.specs.declared.bandwidth.sides.Registry.{Registry}
pub use Rattle.fairness.specs.declared.ratio.Ratio.{Ratio}
