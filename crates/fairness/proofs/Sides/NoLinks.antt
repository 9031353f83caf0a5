-- Where no link closure answers a number, there is none.
use Rattle.fairness.proofs.Common.{◌≡◌, ℕ, List, [], ◌∷◌, Option, None, ap, ◌⊎◌, inl, inr, Result, Ok, Err, IfErr}
use Rattle.fairness.proofs.Common.{FoldsTo, Ordering, Flow, Rate, Answered, Calls, PairCalls, NoLink, States}
use Rattle.fairness.proofs.Common.{CallsFor, AnswerInOrder, IsAllocation, Error, IsTooLarge, rules}
use Rattle.fairness.specs.Fairness.Allocation.{IsCountedAllocation}
use Rattle.fairness.specs.declared.error.Error.TheVariants.{OutOfMemory, NumberTooLarge}

module _ {P E I L : Type 0} (egress : Calls E P) (ingress : Calls I P) (link : PairCalls L P)
    (no_number : (l : L) (p q : P) (a : Option ℕ) (l' : L) → link l p q a l' → a ≡ None) where
  abbrev without : States E I L → States E I (Unit {0})
  without s = record { egress = s.egress; ingress = s.ingress; link = tt }

  calls_without : (s : States E I L) (answered : List (Answered P)) (last : States E I L)
      → FoldsTo (CallsFor egress ingress link) s answered last
      → FoldsTo (CallsFor egress ingress NoLink) (without s) answered (without last)
  calls_without s [] last calls = ap without calls
  calls_without s (a ∷ answered) last calls = search (rules, calls_without calls.0 answered last calls.2)

  in_order_without : (first : States E I L) (flows : List (Flow P)) (answered : List (Answered P))
      → AnswerInOrder egress ingress link first flows answered
      → AnswerInOrder egress ingress NoLink (without first) flows answered
  in_order_without first flows answered h = search (rules, calls_without)

  -- an allocation with such a closure is one with no closure for pairs
  pub without_links : (cmp : P → P → Ordering) (first : States E I L) (flows : List (Flow P))
      (rate_of : ℕ → Option Rate) → IsAllocation cmp egress ingress link first flows rate_of
      → IsAllocation cmp egress ingress NoLink (without first) flows rate_of
  without_links cmp first flows rate_of h = search (rules, in_order_without)

  -- and a refusal with it is one without
  pub too_large_without_links : (cmp : P → P → Ordering) (first : States E I L) (flows : List (Flow P))
      → IsTooLarge cmp egress ingress link first flows → IsTooLarge cmp egress ingress NoLink (without first) flows
  too_large_without_links cmp first flows h = search (rules, in_order_without)

  -- nor does the count of rounds change
  pub counted_without_links : (cmp : P → P → Ordering) (first : States E I L) (flows : List (Flow P))
      (rate_of : ℕ → Option Rate) (rounds : ℕ) → IsCountedAllocation cmp egress ingress link first flows rate_of rounds
      → IsCountedAllocation cmp egress ingress NoLink (without first) flows rate_of rounds
  unfolding without_links
  counted_without_links cmp first flows rate_of rounds h =
      record { allocation = without_links cmp first flows rate_of h.allocation; different = h.different; few = h.few }

  -- nor what a refusal says
  pub refused_without_links : {X : Type 0} (cmp : P → P → Ordering) (first : States E I L) (flows : List (Flow P))
      (result : Result X Error)
      → IfErr result (λ e. (e ≡ OutOfMemory) ⊎ ((e ≡ NumberTooLarge) × IsTooLarge cmp egress ingress link first flows))
      → IfErr result
      (λ e. (e ≡ OutOfMemory) ⊎ ((e ≡ NumberTooLarge) × IsTooLarge cmp egress ingress NoLink (without first) flows))
  refused_without_links cmp first flows (Ok x) h = tt
  refused_without_links cmp first flows (Err e) (inl memory) = inl memory
  refused_without_links cmp first flows (Err e) (inr large) = search (rules, too_large_without_links)
