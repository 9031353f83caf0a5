-- What closures that answer by caps have allocated.
use Rattle.std.specs.Prelude.{ℕ, List, Option}
use Rattle.std.specs.declared.cmp.Ordering.{Ordering}
use Rattle.fairness.specs.declared.bandwidth.Flow.{Flow}
use Rattle.fairness.specs.declared.bandwidth.Rate.{Rate}
use Rattle.fairness.specs.Fairness.Allocation.{IsAllocation}
use Rattle.fairness.specs.Sides.Answers.{Calls, PairCalls, States}
use Rattle.fairness.specs.Sides.Caps.{Caps}
use Rattle.fairness.specs.Fairness.UnderCaps.{AnswerBy, IsFairById}

-- where the closures answer for the flows by the caps, what is allocated is fair under the caps
abbrev pub AllocatesUnderCaps : {P E I L : Type 0} → (P → P → Ordering) → Calls E P → Calls I P → PairCalls L P → Type 0
AllocatesUnderCaps {P} {E} {I} {L} cmp egress ingress link =
    (caps : Caps P) (first : States E I L) (flows : List (Flow P)) (rate_of : ℕ → Option Rate)
    → AnswerBy egress ingress link first flows caps
    → IsAllocation cmp egress ingress link first flows rate_of
    → IsFairById cmp caps flows rate_of
