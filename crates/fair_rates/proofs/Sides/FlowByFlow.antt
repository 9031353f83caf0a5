-- The pass over the flows, one flow at a time.
use Rattle.fair_rates.proofs.Common.{subst, ◌≡◌, ℕ, ◌+◌, ◌<◌, Bool, true, false, cond, List, [], ◌∷◌, ◌++◌, Option}
use Rattle.fair_rates.proofs.Common.{None, length, take, get_or, map, sym, ap, ◌∙◌, arith, length-append, drop}
use Rattle.fair_rates.proofs.Common.{append_assoc, append-nil, map-append, FoldsTo, Ordering, Flow, Registry, Answered}
use Rattle.fair_rates.proofs.Common.{Calls, PairCalls, CalledIfDelivered, States, CallsFor, CallableOnEach}
use Rattle.fair_rates.proofs.Common.{CallableOnEachPair, recipients, pairs, asks_of_one, asks_from, IsRegistryOf}
use Rattle.fair_rates.proofs.Common.{Registers, rules, common_steps}
use Rattle.std.proofs.Common.{add-one, drop-cons}
use Rattle.std.proofs.Math.Seq.{take-suc}
use Rattle.std.proofs.lemmas.Fn.{FoldsTo-push}
use Rattle.fairness.specs.Sides.Answers.{origins}

-- what one flow more asks for stands at the end
asks_from-push : {P : Type 0} (n m : ℕ) (answered : List (Answered P)) (a : Answered P) → m ≡ n + length answered
    → asks_from n (answered ++ a ∷ []) ≡ asks_from n answered ++ asks_of_one m a
asks_from-push n m [] a e = let k : n ≡ m = omega arith in append-nil (asks_of_one n a) ∙ ap (λ i. asks_of_one i a) k
asks_from-push n m (b ∷ answered) a e =
    ap (λ asks. asks_of_one n b ++ asks) (asks_from-push (n + 1) m answered a (omega arith))
    ∙ sym (append_assoc (asks_of_one n b) (asks_from (n + 1) answered) (asks_of_one m a))

-- one flow more has asked
one_flow_more : {P : Type 0} (cmp : P → P → Ordering) (n : ℕ) (answered : List (Answered P)) (a : Answered P)
    (old new : Registry P)
    → length answered ≡ n → Registers cmp (asks_of_one n a) old new → IsRegistryOf cmp (asks_from 0 answered) old
    → IsRegistryOf cmp (asks_from 0 (answered ++ a ∷ [])) new
one_flow_more cmp n answered a old new count registers h = search (rules, asks_from-push)

module _ {P E I L : Type 0} (cmp : P → P → Ordering) (egress : Calls E P) (ingress : Calls I P)
    (link : PairCalls L P) where
  -- what the pass over the first n flows has done
  pub record Passed (first : States E I L) (flows : List (Flow P)) (n : ℕ) (now : States E I L)
      (registry : Registry P) : Type 0 where
    pub answered : List (Answered P)
    pub count : length answered ≡ n
    pub flows_are : map (λ a. a.flow) answered ≡ take n flows
    pub calls : FoldsTo (CallsFor egress ingress link) first answered now
    pub registered : IsRegistryOf cmp (asks_from 0 answered) registry

  pub passed : (n : ℕ) (a : Answered P) (old new : Registry P) → Registers cmp (asks_of_one n a) old new
      → (first : States E I L) (flows : List (Flow P)) (before after : States E I L) → Passed first flows n before old
      → n < length flows → a.flow ≡ get_or flows n a.flow → CallsFor egress ingress link before a after
      → Passed first flows (n + 1) after new
  passed n a old new registers first flows before after p below is calls =
      grind (
        arith,
        common_steps,
        length-append p.answered (a ∷ []),
        take-suc flows n a.flow below,
        add-one n,
        FoldsTo-push (CallsFor egress ingress link) first p.answered before a after p.calls calls,
        one_flow_more cmp n p.answered a old new p.count registers p.registered,
        map-append,
      )

-- what the code does for a flow that is delivered, and for one that is dropped
module _ {P I : Type 0} (call : Calls I P) (i : I) (p : P) (answer : Option ℕ) (j : I) where
  pub called : (b : Bool) (given : Option ℕ) (left : I) → b ≡ true → answer ≡ given → j ≡ left → call i p given left
      → CalledIfDelivered call b i p answer j
  called true given left e same unchanged h = search rules
  called false given left e same unchanged h = cc e

  pub not_called : (b : Bool) → b ≡ false → answer ≡ None → j ≡ i → CalledIfDelivered call b i p answer j
  not_called true e none unchanged = cc e
  not_called false e none unchanged = (none, unchanged)

-- ---- the calls to come

drop_now : {X : Type 0} (xs : List X) (n : ℕ) (x : X) → n < length xs → x ≡ get_or xs n x
    → drop n xs ≡ x ∷ drop (n + 1) xs
drop_now xs n x h e = search (rules, drop-cons, add-one)

module _ {P F : Type 0} (may : F → P → Type 0) (call : Calls F P) where
  pub origin_next : (f : F) (flows : List (Flow P)) (n : ℕ) (x : Flow P) → n < length flows → x ≡ get_or flows n x
      → CallableOnEach may call f (origins (drop n flows)) → may f x.origin
      × ((a : Option ℕ) (g : F) → call f x.origin a g → CallableOnEach may call g (origins (drop (n + 1) flows)))
  origin_next f flows n x h e c = subst (λ fs. CallableOnEach may call f (origins fs)) (drop_now flows n x h e) c

  one_more : (f : F) (b : Bool) (p : P) (rest : List P) → CallableOnEach may call f (cond b (p ∷ []) [] ++ rest)
      → (a : Option ℕ) (g : F) → CalledIfDelivered call b f p a g → CallableOnEach may call g rest
  one_more f true p rest c a g called = c.1 a g called
  one_more f false p rest c a g called = subst (λ h. CallableOnEach may call h rest) (sym called.1) c

  pub recipient_next : (f : F) (flows : List (Flow P)) (n : ℕ) (x : Flow P) → n < length flows → x ≡ get_or flows n x
      → CallableOnEach may call f (recipients (drop n flows))
      → (a : Option ℕ) (g : F) → CalledIfDelivered call x.delivered f x.recipient a g
      → CallableOnEach may call g (recipients (drop (n + 1) flows))
  recipient_next f flows n x h e c = search (rules, one_more, drop_now)

module _ {P F : Type 0} (may : F → P → P → Type 0) (call : PairCalls F P) where
  pub pair_next : (f : F) (flows : List (Flow P)) (n : ℕ) (x : Flow P) → n < length flows → x ≡ get_or flows n x
      → CallableOnEachPair may call f (pairs (drop n flows)) → may f x.origin x.recipient
      × ((a : Option ℕ) (g : F) → call f x.origin x.recipient a g
      → CallableOnEachPair may call g (pairs (drop (n + 1) flows)))
  pair_next f flows n x h e c = subst (λ fs. CallableOnEachPair may call f (pairs fs)) (drop_now flows n x h e) c
