-- What is allocated is the one max-min allocation.
use Rattle.fairness.proofs.Common.{ℕ, List, Ordering, Rate, Calls, PairCalls, Side, HaveUsersBelow, AreFairRates}
use Rattle.fairness.proofs.Common.{arith, rules, common_steps}
use Rattle.fairness.specs.Fairness.AllocationUnderCaps.{AllocatesUnderCaps}
use Rattle.fairness.specs.Fairness.Laws.{IsTheOnlyFair, AreMaxMin, AreZeroWhereClosed}
use Rattle.fairness.proofs.Sides.Answers.{answers_are_those_of_the_caps}
use Rattle.fairness.proofs.Fairness.ClosedSides.{fair_rates_are_zero_where_closed}
use Rattle.fairness.proofs.Fairness.MaxMin.{fair_rates_are_max_min}
use Rattle.fairness.proofs.Fairness.OneAllocation.{one_allocation}

-- these rates are the one max-min allocation
pub record AreTheAllocation (sides : List Side) (flows : ℕ) (rates : List Rate) : Type 0 where
  pub only : IsTheOnlyFair sides flows rates
  pub max_min : AreMaxMin sides rates
  pub zero : AreZeroWhereClosed sides rates

-- fair rates are the one max-min allocation, where the sides have users among the flows
pub the_allocation : (sides : List Side) (flows : ℕ) (rates : List Rate) → HaveUsersBelow flows sides
    → AreFairRates sides flows rates → AreTheAllocation sides flows rates
the_allocation sides flows rates users f =
    search (rules, one_allocation, fair_rates_are_max_min, fair_rates_are_zero_where_closed)

-- what closures that answer by caps have allocated is fair under the caps
pub allocates_under_caps : {P E I L : Type 0} (cmp : P → P → Ordering) (egress : Calls E P) (ingress : Calls I P)
    (link : PairCalls L P) → AllocatesUnderCaps cmp egress ingress link
allocates_under_caps {P} cmp egress ingress link caps first flows rate_of by a =
    grind (arith, common_steps, answers_are_those_of_the_caps egress ingress link caps first flows a.answered by a.in_order)
