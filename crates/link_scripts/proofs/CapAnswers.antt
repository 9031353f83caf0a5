-- Closures that look caps up, and stay as they are: what is allocated or refused with them, under these caps.
use Rattle.link_scripts.proofs.Common.{◌≡◌, ℕ, List, Option, Result, Ok, Err, IfOk, IfErr, inl, inr, subst, nat_cmp}
use Rattle.link_scripts.proofs.Common.{Flow, Rate, Error, OutOfMemory, Calls, PairCalls}
use Rattle.std.proofs.Common.{◌⊎◌}
use Rattle.fairness.specs.declared.error.Error.TheVariants.{NumberTooLarge}
use Rattle.fairness.specs.Fairness.Allocation.{IsFairUnderCaps}
use Rattle.fairness.specs.Sides.Answers.{States, origins, recipients, pairs}
use Rattle.fairness.specs.Sides.Caps.{Caps}
use Rattle.fairness.specs.Fairness.UnderCaps.{AnswerBy, IsFairById}
use Rattle.fairness.specs.Refusals.TooLarge.{AreTooLarge, AreTooLargeUnderCaps, IsTooLarge}
use Rattle.link_scripts.proofs.LookingUp.{LooksUp, LooksUpPairs}
use Rattle.fairness.proofs.Sides.Answers.{answers_if_unchanged, pair_answers_if_unchanged}

module _ {E I L : Type 0} (egress : Calls E ℕ) (ingress : Calls I ℕ) (link : PairCalls L ℕ) (e : E) (i : I) (l : L)
    (under : Caps ℕ)
    (egress_by : LooksUp egress e under.egress) (ingress_by : LooksUp ingress i under.ingress)
    (link_by : LooksUpPairs link l under.link) where
  abbrev First : States E I L
  First = record { egress = e; ingress = i; link = l }

  -- so they answer for the flows by the caps
  answer_by : (flows : List (Flow ℕ)) → AnswerBy egress ingress link First flows under
  answer_by flows = record {
    by_egress = answers_if_unchanged egress under.egress e egress_by (origins flows);
    by_ingress = answers_if_unchanged ingress under.ingress i ingress_by (recipients flows);
    by_link = pair_answers_if_unchanged link under.link l link_by (pairs flows);
  }

  -- what a call answered is fair under the caps
  pub rates_if_ok : {X R : Type 0} (rate_of : X → ℕ → Option Rate) (answer : Result X R) (listed flows : List (Flow ℕ))
      → listed ≡ flows
      → IfOk answer (λ x. IsFairUnderCaps nat_cmp egress ingress link First listed (rate_of x))
      → IfOk answer (λ x. IsFairById nat_cmp under flows (rate_of x))
  rates_if_ok rate_of (Err r) listed flows same h = tt
  rates_if_ok rate_of (Ok x) listed flows same h =
      subst (λ fs. IsFairById nat_cmp under fs (rate_of x)) same (h under (answer_by listed))

  -- why a call may be refused under the caps
  abbrev Refused : List (Flow ℕ) → Error → Type 0
  Refused flows why = (why ≡ OutOfMemory) ⊎ ((why ≡ NumberTooLarge) × AreTooLarge nat_cmp under flows)

  may_refuse : (flows : List (Flow ℕ)) (why : Error)
      → (why ≡ OutOfMemory) ⊎ ((why ≡ NumberTooLarge) × IsTooLarge nat_cmp egress ingress link First flows)
      → (why ≡ NumberTooLarge → AreTooLargeUnderCaps nat_cmp egress ingress link First flows) → Refused flows why
  may_refuse flows why (inl memory) large = inl memory
  may_refuse flows why (inr (size, too_large)) large = inr (size, large size under (answer_by flows))

  -- and so one was refused
  pub refused_if_err : {X : Type 0} (answer : Result X Error) (listed flows : List (Flow ℕ)) → listed ≡ flows
      → IfErr answer
      (λ why. (why ≡ OutOfMemory) ⊎ ((why ≡ NumberTooLarge) × IsTooLarge nat_cmp egress ingress link First listed))
      → IfErr answer (λ why. why ≡ NumberTooLarge → AreTooLargeUnderCaps nat_cmp egress ingress link First listed)
      → IfErr answer (Refused flows)
  refused_if_err (Ok x) listed flows same h large = tt
  refused_if_err (Err why) listed flows same h large = subst (λ fs. Refused fs why) same (may_refuse listed why h large)
