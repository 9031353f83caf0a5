-- When flows are refused because a number is too large.
use Rattle.std.specs.Prelude.{◌≡◌, ◌⊎◌, ℕ, ◌^◌, ◌<◌, ◌≤◌, List, length, map, Some, All, Contains}
use Rattle.std.specs.declared.cmp.Ordering.{Ordering}
use Rattle.fairness.specs.Numbers.Amount.{parts_over}
use Rattle.fairness.specs.Sides.Answers.{Answered, Calls, PairCalls, States, AnswerInOrder}
use Rattle.fairness.specs.Sides.Caps.{Caps}
use Rattle.fairness.specs.Fairness.Fair.{Side, IsLimited, IsFair}
use Rattle.fairness.specs.Numbers.Fits.{ReducedFits}
use Rattle.fairness.specs.Fairness.UnderCaps.{AnswerBy, AreOfPeers, AreFairUnder, answered_under}
use Rattle.fairness.specs.Fairness.UnderCaps.{sides_under}
use Rattle.fairness.specs.Sides.Subjects.{sides_of}
use Rattle.fairness.specs.Refusals.FairRatesFit.{FairRatesFit, IsFraction}
use Rattle.fairness.specs.declared.bandwidth.Flow.{Flow}
use Rattle.fairness.specs.declared.bandwidth.Rate.{Rate}

-- this cap was answered for the flow
abbrev pub IsAnswer : {P : Type 0} → Answered P → ℕ → Type 0
IsAnswer a cap = (a.egress ≡ Some cap) ⊎ ((a.ingress ≡ Some cap) ⊎ (a.link ≡ Some cap))

-- a cap of 2^64 or more was answered
pub record HasLargeAnswer {P : Type 0} (answered : List (Answered P)) : Type 0 where
  pub asked : Answered P
  pub listed : Contains answered asked
  pub cap : ℕ
  pub is : IsAnswer asked cap
  pub large : 2 ^ 64 ≤ cap

-- the fair rate of a flow, in lowest terms, is no fraction of 128 bits
pub record HasLargeRate (sides : List Side) : Type 0 where
  pub per : ℕ
  pub parts : ℕ → ℕ
  pub fair : IsFair sides per parts
  pub flow : ℕ
  pub limited : IsLimited sides flow
  pub large : ¬ ReducedFits (parts_over per (parts flow))

-- what the closures answered makes sides on which a fair rate is no fraction of 128 bits; so no fair rates fit, and
-- there are more than sixteen flows, or a cap is large
pub record IsTooLarge {P E I L : Type 0} (cmp : P → P → Ordering) (egress : Calls E P) (ingress : Calls I P)
    (link : PairCalls L P) (first : States E I L) (flows : List (Flow P)) : Type 0 where
  pub answered : List (Answered P)
  pub in_order : AnswerInOrder egress ingress link first flows answered
  pub large_rate : HasLargeRate (sides_of cmp answered)
  pub nothing_fits : ¬ FairRatesFit (sides_of cmp answered) (length flows)
  pub many_or_large : (16 < length flows) ⊎ HasLargeAnswer answered

-- under these caps a fair rate is no fraction of 128 bits; so no fair rates fit, and there are more than sixteen
-- flows, or a cap is large
pub record AreTooLarge {P : Type 0} (cmp : P → P → Ordering) (caps : Caps P) (flows : List (Flow P)) : Type 0 where
  pub large_rate : HasLargeRate (sides_under cmp caps flows)
  pub nothing_fits : ¬ FairRatesFit (sides_under cmp caps flows) (length flows)
  pub many_or_large : (16 < length flows) ⊎ HasLargeAnswer (map (answered_under caps) flows)

-- whatever caps the closures answer by, the flows are too large under these
abbrev pub AreTooLargeUnderCaps : {P E I L : Type 0} → (P → P → Ordering) → Calls E P → Calls I P → PairCalls L P
    → States E I L → List (Flow P) → Type 0
AreTooLargeUnderCaps {P} cmp egress ingress link first flows =
    (caps : Caps P) → AnswerBy egress ingress link first flows caps → AreTooLarge cmp caps flows

-- where the closures answer for the flows by the caps, what is too large for them is too large under the caps
abbrev pub IsTooLargeUnderCaps : {P E I L : Type 0} → (P → P → Ordering) → Calls E P → Calls I P → PairCalls L P
    → Type 0
IsTooLargeUnderCaps {P} {E} {I} {L} cmp egress ingress link =
    (caps : Caps P) (first : States E I L) (flows : List (Flow P))
    → AnswerBy egress ingress link first flows caps
    → IsTooLarge cmp egress ingress link first flows
    → AreTooLarge cmp caps flows

-- flows that are too large under the caps have no fair rates that are fractions of 128 bits
abbrev pub TooLargeHasNoRates : {P : Type 0} → (P → P → Ordering) → Type 0
TooLargeHasNoRates {P} cmp =
    (caps : Caps P) (flows : List (Flow P)) (rates : List Rate)
    → AreOfPeers cmp caps
    → AreTooLarge cmp caps flows
    → All IsFraction rates
    → ¬ AreFairUnder cmp caps flows rates
