-- What the closures for the caps answer, called flow by flow.
use Rattle.std.specs.Prelude.{◌≡◌, ℕ, Bool, true, false, cond, List, [], ◌∷◌, ◌++◌, Option, None, map}
use Rattle.std.specs.List.{FoldsTo}
use Rattle.fairness.specs.declared.bandwidth.Flow.{Flow}

-- a flow, and what the closures answered for it
pub record Answered (P : Type 0) : Type 0 where
  pub flow : Flow P
  pub egress : Option ℕ
  pub ingress : Option ℕ
  pub link : Option ℕ

-- how a closure in one state may be called on a peer, answer, and be left in another
abbrev pub Calls : Type 0 → Type 0 → Type 1
Calls F P = F → P → Option ℕ → F → Type 0

-- how a closure may be called on an ordered pair of peers
abbrev pub PairCalls : Type 0 → Type 0 → Type 1
PairCalls F P = F → P → P → Option ℕ → F → Type 0

-- there is no closure for ordered pairs, and so no cap for them
abbrev pub NoLink : {P : Type 0} → Unit {0} → P → P → Option ℕ → Unit {0} → Type 0
NoLink before origin recipient answer after = answer ≡ None

-- a closure is called if the flow is delivered, and else left alone
abbrev pub CalledIfDelivered : {P I : Type 0} → Calls I P → Bool → I → P → Option ℕ → I → Type 0
CalledIfDelivered call true before peer answer after = call before peer answer after
CalledIfDelivered call false before peer answer after = (answer ≡ None) × (after ≡ before)

-- the closures in their states
pub record States (E I L : Type 0) : Type 0 where
  pub egress : E
  pub ingress : I
  pub link : L

-- the calls for one flow: of egress with its origin, of ingress with its recipient if it is delivered, of link with
-- both
pub record CallsFor {P E I L : Type 0} (egress : Calls E P) (ingress : Calls I P) (link : PairCalls L P)
    (before : States E I L) (answered : Answered P) (after : States E I L) : Type 0 where
  pub origin : egress before.egress answered.flow.origin answered.egress after.egress
  pub recipient : CalledIfDelivered ingress answered.flow.delivered
      before.ingress answered.flow.recipient answered.ingress after.ingress
  pub pair : link before.link answered.flow.origin answered.flow.recipient answered.link after.link

-- the closures were called flow by flow in the order of the list, each in the state that its call before left, and
-- answered so
pub record AnswerInOrder {P E I L : Type 0} (egress : Calls E P) (ingress : Calls I P) (link : PairCalls L P)
    (first : States E I L) (flows : List (Flow P)) (answered : List (Answered P)) : Type 0 where
  pub flows_are : map (λ a. a.flow) answered ≡ flows
  pub last : States E I L
  pub calls : FoldsTo (CallsFor egress ingress link) first answered last

-- ---- that the closures may be called

-- a closure may be called on each peer of the list in turn, in whatever state the calls before left it
abbrev pub CallableOnEach : {P F : Type 0} → (F → P → Type 0) → Calls F P → F → List P → Type 0
CallableOnEach may call f [] = Unit {0}
CallableOnEach {P} {F} may call f (p ∷ peers) =
    may f p × ((a : Option ℕ) (g : F) → call f p a g → CallableOnEach may call g peers)

-- the origins of the flows
abbrev pub origins : {P : Type 0} → List (Flow P) → List P
origins [] = []
origins (f ∷ flows) = f.origin ∷ origins flows

-- the recipients of the delivered flows
abbrev pub recipients : {P : Type 0} → List (Flow P) → List P
recipients [] = []
recipients (f ∷ flows) = cond f.delivered (f.recipient ∷ []) [] ++ recipients flows

-- a closure may be called on each ordered pair of the list in turn, in whatever state the calls before left it
abbrev pub CallableOnEachPair : {P F : Type 0} → (F → P → P → Type 0) → PairCalls F P → F → List (P × P) → Type 0
CallableOnEachPair may call f [] = Unit {0}
CallableOnEachPair {P} {F} may call f ((p, q) ∷ pairs) =
    may f p q × ((a : Option ℕ) (g : F) → call f p q a g → CallableOnEachPair may call g pairs)

-- the ordered pairs of the flows
abbrev pub pairs : {P : Type 0} → List (Flow P) → List (P × P)
pairs [] = []
pairs (f ∷ flows) = (f.origin, f.recipient) ∷ pairs flows
