-- What is answered is the allocation.
use Rattle.fair_rates.proofs.Common.{◌≡◌, ℕ, ◌<◌, ◌≤◌, List, length, map, Option, All, AllPairs, subst}
use Rattle.fair_rates.proofs.Common.{Ordering, Flow, Rate, IsAllocation, Calls, PairCalls, States, Answered}
use Rattle.fair_rates.proofs.Common.{AnswerInOrder, side_of, HaveUsersBelow, AreFairRates, last_rate}
use Rattle.fair_rates.proofs.Common.{sides_of, rules}
use Rattle.fair_rates.specs.declared.bandwidth.sides.Side as declared_side
use Rattle.fairness.specs.Fairness.Allocation.{IsCountedAllocation}
use Rattle.fair_rates.specs.Filling.CountedRates.{AreCountedRates}
use Rattle.fairness.proofs.Sides.UserCounts.{HaveDistinctUsers}
use Rattle.fairness.proofs.Fairness.Allocation.{the_allocation}
use Rattle.fair_rates.proofs.Refusals.Promise.{distinct_sides, users_below_sides, twelfths, whole_of_sixteen}

-- fair rates on the sides that were registered are the allocation
pub allocated : {P E I L : Type 0} (cmp : P → P → Ordering) (egress : Calls E P) (ingress : Calls I P)
    (link : PairCalls L P) (first : States E I L) (flows : List (Flow P)) (rate_of : ℕ → Option Rate)
    → (answered : List (Answered P)) (sides : List declared_side.Side) (rates : List Rate)
    → AnswerInOrder egress ingress link first flows answered → map side_of sides ≡ sides_of cmp answered
    → All (λ side. All (λ flow. flow < length flows) side.users.items) sides
    → All (λ side. AllPairs (λ a b. a < b) side.users.items) sides
    → AreFairRates (map side_of sides) (length flows) rates → ((id : ℕ) → rate_of id ≡ last_rate id flows rates)
    → IsAllocation cmp egress ingress link first flows rate_of
allocated cmp egress ingress link first flows rate_of answered sides rates in_order registered below rise filled by_id =
    let fair : AreFairRates (sides_of cmp answered) (length flows) rates = search rules in
    let among : HaveUsersBelow (length flows) (sides_of cmp answered) = search (rules, users_below_sides) in
    let distinct : HaveDistinctUsers (sides_of cmp answered) = search (rules, distinct_sides) in
    let one = the_allocation (sides_of cmp answered) (length flows) rates among fair in
    record {
      answered = answered;
      in_order = in_order;
      rates = rates;
      fair = fair;
      only = one.only;
      max_min = one.max_min;
      zero = one.zero;
      of_four = λ few. twelfths (sides_of cmp answered) (length flows) rates few among distinct fair;
      of_sixteen = λ few. whole_of_sixteen (sides_of cmp answered) (length flows) rates few among distinct fair;
      by_id = by_id;
    }

-- and the rounds are counted
pub counted : {P E I L : Type 0} (cmp : P → P → Ordering) (egress : Calls E P) (ingress : Calls I P)
    (link : PairCalls L P) (first : States E I L) (flows : List (Flow P)) (rate_of : ℕ → Option Rate) (rounds : ℕ)
    → (answered : List (Answered P)) (sides : List declared_side.Side)
    → AnswerInOrder egress ingress link first flows answered → map side_of sides ≡ sides_of cmp answered
    → All (λ side. All (λ flow. flow < length flows) side.users.items) sides
    → All (λ side. AllPairs (λ a b. a < b) side.users.items) sides
    → AreCountedRates (map side_of sides) flows rate_of rounds
    → IsCountedAllocation cmp egress ingress link first flows rate_of rounds
unfolding allocated
counted cmp egress ingress link first flows rate_of rounds answered sides in_order registered below rise found = record {
  allocation =
      allocated cmp egress ingress link first flows rate_of answered sides found.rates in_order registered below rise
      found.fair found.by_id;
  different = found.different;
  few = subst (λ s. rounds ≤ length s) registered found.few;
}
