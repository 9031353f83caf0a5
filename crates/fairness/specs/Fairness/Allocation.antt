-- What is allocated, and in how many rounds.
use Rattle.std.specs.Prelude.{◌≡◌, ℕ, ◌≤◌, List, length, Option}
use Rattle.std.specs.declared.cmp.Ordering.{Ordering}
use Rattle.fairness.specs.declared.bandwidth.Flow.{Flow}
use Rattle.fairness.specs.declared.bandwidth.Rate.{Rate}
use Rattle.fairness.specs.Sides.Answers.{Calls, PairCalls, States, Answered, AnswerInOrder}
use Rattle.fairness.specs.Sides.Caps.{Caps}
use Rattle.fairness.specs.Fairness.Laws.{IsTheOnlyFair, AreMaxMin, AreZeroWhereClosed}
use Rattle.fairness.specs.Fairness.UnderCaps.{AnswerBy, IsFairById}
use Rattle.fairness.specs.Fairness.Rates.{AreFairRates, HasDifferentRates, last_rate}
use Rattle.fairness.specs.Sides.Subjects.{sides_of}
use Rattle.fairness.specs.Refusals.FairRatesFit.{AreWholeOver}

-- the closures gave some answers, and some rates are the one max-min fair allocation on the sides that these make:
-- each id has the rate of the last flow that has it
pub record IsAllocation {P E I L : Type 0} (cmp : P → P → Ordering) (egress : Calls E P) (ingress : Calls I P)
    (link : PairCalls L P) (first : States E I L) (flows : List (Flow P)) (rate_of : ℕ → Option Rate) : Type 0 where
  pub answered : List (Answered P)
  pub in_order : AnswerInOrder egress ingress link first flows answered
  pub rates : List Rate
  pub fair : AreFairRates (sides_of cmp answered) (length flows) rates
  pub only : IsTheOnlyFair (sides_of cmp answered) (length flows) rates
  pub max_min : AreMaxMin (sides_of cmp answered) rates
  pub zero : AreZeroWhereClosed (sides_of cmp answered) rates
  pub of_four : length flows ≤ 4 → AreWholeOver 12 rates
  pub of_sixteen : length flows ≤ 16 → AreWholeOver 54486432000 rates
  pub by_id : (id : ℕ) → rate_of id ≡ last_rate id flows rates

-- and it took so many rounds of filling: as many as the list has different finite rates, and no more than there are
-- sides
pub record IsCountedAllocation {P E I L : Type 0} (cmp : P → P → Ordering) (egress : Calls E P) (ingress : Calls I P)
    (link : PairCalls L P) (first : States E I L) (flows : List (Flow P)) (rate_of : ℕ → Option Rate)
    (rounds : ℕ) : Type 0 where
  pub allocation : IsAllocation cmp egress ingress link first flows rate_of
  pub different : HasDifferentRates allocation.rates rounds
  pub few : rounds ≤ length (sides_of cmp allocation.answered)

-- there is one number of rounds: that of the different finite rates
abbrev pub OneNumberOfRounds : {P E I L : Type 0} → (P → P → Ordering) → Calls E P → Calls I P → PairCalls L P → Type 0
OneNumberOfRounds {P} {E} {I} {L} cmp egress ingress link =
    (first : States E I L) (flows : List (Flow P)) (rate_of : ℕ → Option Rate) (rounds other : ℕ)
    → (counted : IsCountedAllocation cmp egress ingress link first flows rate_of rounds)
    → HasDifferentRates counted.allocation.rates other
    → rounds ≡ other

-- whatever caps the closures answer by, the rates are fair by id under these
abbrev pub IsFairUnderCaps : {P E I L : Type 0} → (P → P → Ordering) → Calls E P → Calls I P → PairCalls L P
    → States E I L → List (Flow P) → (ℕ → Option Rate) → Type 0
IsFairUnderCaps {P} cmp egress ingress link first flows rate_of =
    (caps : Caps P) → AnswerBy egress ingress link first flows caps → IsFairById cmp caps flows rate_of
