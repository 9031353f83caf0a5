-- What closures answer that answer by a function of the peer.
use Rattle.fairness.proofs.Common.{◌≡◌, ℕ, Bool, true, false, cond, List, [], ◌∷◌, ◌++◌, Option, None, map, refl, sym}
use Rattle.fairness.proofs.Common.{ap, ap₂, ◌∙◌, subst, FoldsTo, Flow, Answered, Calls, PairCalls, States, CallsFor}
use Rattle.fairness.proofs.Common.{CalledIfDelivered, recipients, pairs, Caps}
use Rattle.fairness.specs.Fairness.UnderCaps.{answered_under, AnswersOnEach, AnswersOnEachPair, AnswerBy}
use Rattle.fairness.specs.Fairness.UnderCaps.{AnswersAreThoseOfTheCaps}

-- ---- how to show it

-- a closure that answers by the function and that no call changes
pub answers_if_unchanged : {P F : Type 0} (call : Calls F P) (cap : P → Option ℕ) (f : F)
    → ((p : P) (a : Option ℕ) (g : F) → call f p a g → (a ≡ cap p) × (g ≡ f)) → (peers : List P)
    → AnswersOnEach call cap f peers
answers_if_unchanged call cap f h [] = tt
answers_if_unchanged {P} {F} call cap f h (p ∷ peers) = λ a g called.
    let r = h p a g called in
    (r.0, subst (λ (k : F). AnswersOnEach call cap k peers) (sym r.1) (answers_if_unchanged call cap f h peers))

-- the same for ordered pairs
pub pair_answers_if_unchanged : {P F : Type 0} (call : PairCalls F P) (cap : P → P → Option ℕ) (f : F)
    → ((p q : P) (a : Option ℕ) (g : F) → call f p q a g → (a ≡ cap p q) × (g ≡ f))
    → (pairs : List (P × P)) → AnswersOnEachPair call cap f pairs
pair_answers_if_unchanged call cap f h [] = tt
pair_answers_if_unchanged {P} {F} call cap f h ((p, q) ∷ pairs) = λ a g called.
    let r = h p q a g called in (
      r.0,
      subst (λ (k : F). AnswersOnEachPair call cap k pairs) (sym r.1) (pair_answers_if_unchanged call cap f h pairs),
    )

-- ---- what follows

module _ {P E I L : Type 0} (egress : Calls E P) (ingress : Calls I P) (link : PairCalls L P) (caps : Caps P) where
  -- the answer for a recipient, and the rest of them
  one_ingress : (d : Bool) (before : I) (p : P) (answer : Option ℕ) (after : I) (rest : List P)
      → CalledIfDelivered ingress d before p answer after
      → AnswersOnEach ingress caps.ingress before (cond d (p ∷ []) [] ++ rest)
      → (answer ≡ cond d (caps.ingress p) None) × AnswersOnEach ingress caps.ingress after rest
  one_ingress true before p answer after rest called h = h answer after called
  one_ingress false before p answer after rest called h =
      (called.0, subst (λ (s : I). AnswersOnEach ingress caps.ingress s rest) (sym called.1) h)

  all_answers : (first : States E I L) (answered : List (Answered P)) (last : States E I L)
      → AnswerBy egress ingress link first (map (λ a. a.flow) answered) caps
      → FoldsTo (CallsFor egress ingress link) first answered last
      → answered ≡ map (answered_under caps) (map (λ a. a.flow) answered)
  all_answers first [] last by c = refl
  all_answers first (a ∷ answered) last by (next, one, rest) =
      let e = by.by_egress a.egress next.egress one.origin in
      let i =
      one_ingress a.flow.delivered first.ingress a.flow.recipient a.ingress next.ingress
      (recipients (map (λ (b : Answered P). b.flow) answered)) one.recipient by.by_ingress in
      let l = by.by_link a.link next.link one.pair in
      let here : a ≡ answered_under caps a.flow = λ k.
      record { flow = a.flow; egress = e.0 k; ingress = i.0 k; link = l.0 k } in
      ap₂ (λ (b : Answered P) (bs : List (Answered P)). b ∷ bs) here
      (all_answers next answered last (record { by_egress = e.1; by_ingress = i.1; by_link = l.1 }) rest)

pub answers_are_those_of_the_caps : {P E I L : Type 0} (egress : Calls E P) (ingress : Calls I P) (link : PairCalls L P)
    → AnswersAreThoseOfTheCaps egress ingress link
answers_are_those_of_the_caps {P} egress ingress link caps first flows answered by a =
    let same : AnswerBy egress ingress link first (map (λ (b : Answered P). b.flow) answered) caps =
    subst (λ (fs : List (Flow P)). AnswerBy egress ingress link first fs caps) (sym a.flows_are) by in
    all_answers egress ingress link caps first answered a.last same a.calls ∙ ap (map (answered_under caps)) a.flows_are
