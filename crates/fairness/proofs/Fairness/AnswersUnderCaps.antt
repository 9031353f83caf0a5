-- What closures that answer by caps are answered, and refused, under these caps.
use Rattle.fairness.proofs.Common.{◌≡◌, ◌⊎◌, ℕ, List, Option, Result, Ok, Err, IfErr, inl, inr, sym, ◌∙◌, Ordering}
use Rattle.fairness.proofs.Common.{Flow, Rate, Error, IsAllocation, Calls, PairCalls, States, IsTooLarge, arith}
use Rattle.fairness.proofs.Common.{rules, common_steps}
use Rattle.std.proofs.Common.{IfOk}
use Rattle.fairness.specs.declared.error.Error.TheVariants.{OutOfMemory, NumberTooLarge}
use Rattle.fairness.specs.Fairness.Allocation.{IsFairUnderCaps}
use Rattle.fairness.specs.Refusals.TooLarge.{AreTooLargeUnderCaps}
use Rattle.fairness.proofs.Fairness.Allocation.{allocates_under_caps}
use Rattle.fairness.proofs.Sides.Answers.{answers_are_those_of_the_caps}

module _ {P E I L : Type 0} (cmp : P → P → Ordering) (egress : Calls E P) (ingress : Calls I P) (link : PairCalls L P)
    (first : States E I L) (flows : List (Flow P)) where
  pub fair_under_caps : {X R : Type 0} (rate_of : X → ℕ → Option Rate) (result : Result X R)
      → IfOk result (λ x. IsAllocation cmp egress ingress link first flows (rate_of x))
      → IfOk result (λ x. IsFairUnderCaps cmp egress ingress link first flows (rate_of x))
  fair_under_caps rate_of (Ok x) h = search (rules, allocates_under_caps)
  fair_under_caps rate_of (Err r) h = tt

  pub too_large_under_caps : IsTooLarge cmp egress ingress link first flows
      → AreTooLargeUnderCaps cmp egress ingress link first flows
  too_large_under_caps h caps by =
      grind (arith, common_steps, answers_are_those_of_the_caps egress ingress link caps first flows h.answered by h.in_order)

  pub refused_under_caps : {X : Type 0} (result : Result X Error)
      → IfErr result (λ e. (e ≡ OutOfMemory) ⊎ ((e ≡ NumberTooLarge) × IsTooLarge cmp egress ingress link first flows))
      → IfErr result (λ e. e ≡ NumberTooLarge → AreTooLargeUnderCaps cmp egress ingress link first flows)
  refused_under_caps (Ok x) h = tt
  refused_under_caps (Err e) (inl memory) = λ large. cc (sym memory ∙ large)
  refused_under_caps (Err e) (inr (is, large)) = λ same. too_large_under_caps large
