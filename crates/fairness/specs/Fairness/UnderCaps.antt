-- Caps that are functions of the peer, and of the ordered pair: the sides that they make, and what follows for the
-- rates.
use Rattle.std.specs.Prelude.{◌≡◌, ℕ, ◌*◌, ◌==◌, ◌≤◌, ◌↔◌, Bool, true, cond, ◌&&◌, List, [], ◌∷◌}
use Rattle.std.specs.Prelude.{Option, Some, None, All, Contains, length, map, count_by, sum_by, slice_get}
use Rattle.std.specs.List.{filter, list_any}
use Rattle.std.specs.List.Sorted.{IsPermutation}
use Rattle.std.specs.declared.cmp.Ordering.{Ordering}
use Rattle.fairness.specs.declared.bandwidth.Flow.{Flow}
use Rattle.fairness.specs.declared.bandwidth.Rate.{Rate}
use Rattle.fairness.specs.declared.bandwidth.Rate.TheVariants.{Unlimited}
use Rattle.fairness.specs.Sides.Answers.{Answered, Calls, PairCalls, States, AnswerInOrder, origins, recipients}
use Rattle.fairness.specs.Sides.Answers.{pairs}
use Rattle.fairness.specs.Fairness.Fair.{Side}
use Rattle.fairness.specs.Fairness.Part.{flagged}
use Rattle.fairness.specs.Fairness.Rates.{AreFairRates, last_rate}
use Rattle.fairness.specs.Sides.Caps.{Caps, CapsAlike}
use Rattle.fairness.specs.Sides.Subjects.{Subject, sent_by, received_by, sent_between, same_peer, sides_of}
use Rattle.fairness.specs.Lists.Places.{places_from}

-- the cap of what a side limits
abbrev pub cap_of : {P : Type 0} → Caps P → Subject P → Option ℕ
cap_of caps (sent_by p) = caps.egress p
cap_of caps (received_by p) = caps.ingress p
cap_of caps (sent_between p q) = caps.link p q

-- what closures that answer by the caps answer for a flow
abbrev pub answered_under : {P : Type 0} → Caps P → Flow P → Answered P
answered_under caps f = record {
  flow = f;
  egress = caps.egress f.origin;
  ingress = cond f.delivered (caps.ingress f.recipient) None;
  link = caps.link f.origin f.recipient;
}

-- ---- closures that answer by a function

-- called on each peer of the list in turn, in whatever state the calls before left it, the closure answers by that
-- function of the peer
abbrev pub AnswersOnEach : {P F : Type 0} → Calls F P → (P → Option ℕ) → F → List P → Type 0
AnswersOnEach call cap f [] = Unit {0}
AnswersOnEach {P} {F} call cap f (p ∷ peers) =
    (a : Option ℕ) (g : F) → call f p a g → (a ≡ cap p) × AnswersOnEach call cap g peers

-- the same on each ordered pair of the list
abbrev pub AnswersOnEachPair : {P F : Type 0} → PairCalls F P → (P → P → Option ℕ) → F → List (P × P) → Type 0
AnswersOnEachPair call cap f [] = Unit {0}
AnswersOnEachPair {P} {F} call cap f ((p, q) ∷ pairs) =
    (a : Option ℕ) (g : F) → call f p q a g → (a ≡ cap p q) × AnswersOnEachPair call cap g pairs

-- the closures, beginning in these states, answer for the flows by the caps
pub record AnswerBy {P E I L : Type 0} (egress : Calls E P) (ingress : Calls I P) (link : PairCalls L P)
    (first : States E I L) (flows : List (Flow P)) (caps : Caps P) : Type 0 where
  pub by_egress : AnswersOnEach egress caps.egress first.egress (origins flows)
  pub by_ingress : AnswersOnEach ingress caps.ingress first.ingress (recipients flows)
  pub by_link : AnswersOnEachPair link caps.link first.link (pairs flows)

-- then their answers are these
abbrev pub AnswersAreThoseOfTheCaps : {P E I L : Type 0} → Calls E P → Calls I P → PairCalls L P → Type 0
AnswersAreThoseOfTheCaps {P} {E} {I} {L} egress ingress link =
    (caps : Caps P) (first : States E I L) (flows : List (Flow P)) (answered : List (Answered P))
    → AnswerBy egress ingress link first flows caps
    → AnswerInOrder egress ingress link first flows answered
    → answered ≡ map (answered_under caps) flows

-- the flow uses no capped side: nothing limits what its origin sends, what its recipient receives, or what goes
-- between them
pub record UsesNoCap {P : Type 0} (caps : Caps P) (flow : Flow P) : Type 0 where
  pub origin : caps.egress flow.origin ≡ None
  pub recipient : flow.delivered ≡ true → caps.ingress flow.recipient ≡ None
  pub pair : caps.link flow.origin flow.recipient ≡ None

-- no two flows have one id
abbrev pub HaveDistinctIds : {P : Type 0} → List (Flow P) → Type 0
HaveDistinctIds flows = (id : ℕ) → count_by (λ f. f.id == id) flows ≤ 1

module _ {P : Type 0} (cmp : P → P → Ordering) where
  -- the caps are those of the peers: where the order calls two one peer, they have one cap
  abbrev pub AreOfPeers : Caps P → Type 0
  AreOfPeers caps = CapsAlike cmp caps caps

  -- the sides of the flows under the caps
  abbrev pub sides_under : Caps P → List (Flow P) → List Side
  sides_under caps flows = sides_of cmp (map (answered_under caps) flows)

  -- the rates are fair for the flows under the caps
  abbrev pub AreFairUnder : Caps P → List (Flow P) → List Rate → Type 0
  AreFairUnder caps flows rates = AreFairRates (sides_under caps flows) (length flows) rates

  -- ---- which sides there are

  -- whether a side of that subject limits the flow
  abbrev pub limits : Subject P → Flow P → Bool
  limits (sent_by p) f = same_peer cmp p f.origin
  limits (received_by p) f = f.delivered && same_peer cmp p f.recipient
  limits (sent_between p q) f = same_peer cmp p f.origin && same_peer cmp q f.recipient

  -- the side of a subject that has a cap and some flow to limit: its users are all flows that it limits
  pub record IsCappedSide (caps : Caps P) (flows : List (Flow P)) (side : Side) : Type 0 where
    pub subject : Subject P
    pub capped : cap_of caps subject ≡ Some side.cap
    pub flow : Flow P
    pub among : Contains flows flow
    pub limited : limits subject flow ≡ true
    pub users : side.users ≡ places_from 0 (limits subject) flows

  -- the sides are exactly these
  abbrev pub SidesAreOfTheCaps : Type 0
  SidesAreOfTheCaps =
      (caps : Caps P) (flows : List (Flow P)) (side : Side) → AreOfPeers caps
      → Contains (sides_under caps flows) side ↔ IsCappedSide caps flows side

  -- what is answered for each id: the rate of the last flow that has it, where the rates are fair under the caps
  pub record IsFairById (caps : Caps P) (flows : List (Flow P)) (rate_of : ℕ → Option Rate) : Type 0 where
    pub rates : List Rate
    pub fair : AreFairUnder caps flows rates
    pub by_id : (id : ℕ) → rate_of id ≡ last_rate id flows rates

  -- ---- what follows for the rates

  -- the flows that a side of that subject limits get no more than its cap together, in parts of which `per` are one
  -- byte a second
  abbrev pub KeepsToItsCap : Type 0
  KeepsToItsCap =
      (caps : Caps P) (flows : List (Flow P)) (rates : List Rate)
      → AreOfPeers caps
      → (fair : AreFairUnder caps flows rates)
      → (subject : Subject P) (cap : ℕ)
      → cap_of caps subject ≡ Some cap
      → sum_by fair.parts (places_from 0 (limits subject) flows) ≤ cap * fair.per

  -- a flow is unlimited exactly where it uses no capped side
  abbrev pub UnlimitedWhereUncapped : Type 0
  UnlimitedWhereUncapped =
      (caps : Caps P) (flows : List (Flow P)) (rates : List Rate)
      → AreOfPeers caps
      → AreFairUnder caps flows rates
      → (place : ℕ) (flow : Flow P)
      → slice_get flows place ≡ Some flow
      → (slice_get rates place ≡ Some Unlimited) ↔ UsesNoCap caps flow

  -- with distinct ids that is so by id
  abbrev pub UnlimitedByIdWhereUncapped : Type 0
  UnlimitedByIdWhereUncapped =
      (caps : Caps P) (flows : List (Flow P)) (rate_of : ℕ → Option Rate)
      → AreOfPeers caps
      → HaveDistinctIds flows
      → IsFairById caps flows rate_of
      → (flow : Flow P)
      → Contains flows flow
      → (rate_of flow.id ≡ Some Unlimited) ↔ UsesNoCap caps flow

  -- with distinct ids each id has the same rate in every order of the flows
  abbrev pub OrderDoesNotMatter : Type 0
  OrderDoesNotMatter =
      (caps : Caps P) (flows others : List (Flow P)) (rate_of other_rate_of : ℕ → Option Rate)
      → AreOfPeers caps
      → HaveDistinctIds flows
      → IsPermutation flows others
      → IsFairById caps flows rate_of
      → IsFairById caps others other_rate_of
      → (id : ℕ)
      → other_rate_of id ≡ rate_of id

  -- the list has the peer, by the order
  abbrev pub is_among : List P → P → Bool
  is_among peers p = list_any (same_peer cmp p) peers

  -- each flow has both ends in the set of peers or neither
  abbrev pub HaveBothEndsOrNone : List P → List (Flow P) → Type 0
  HaveBothEndsOrNone peers flows = All (λ f. is_among peers f.origin ≡ is_among peers f.recipient) flows

  -- whether the flow is one of the set's
  abbrev pub is_of_set : List P → Flow P → Bool
  is_of_set peers f = is_among peers f.origin

  -- the rates of the flows of such a set are fair for these flows alone
  abbrev pub PartIsFair : Type 0
  PartIsFair =
      (caps : Caps P) (peers : List P) (flows : List (Flow P)) (rates : List Rate)
      → AreOfPeers caps
      → HaveBothEndsOrNone peers flows
      → AreFairUnder caps flows rates
      → AreFairUnder caps (filter (is_of_set peers) flows) (flagged (map (is_of_set peers) flows) rates)

  -- with distinct ids each of them has the same rate without the others
  abbrev pub OthersDoNotMatter : Type 0
  OthersDoNotMatter =
      (caps : Caps P) (peers : List P) (flows : List (Flow P)) (rate_of own_rate_of : ℕ → Option Rate)
      → AreOfPeers caps
      → HaveDistinctIds flows
      → HaveBothEndsOrNone peers flows
      → IsFairById caps flows rate_of
      → IsFairById caps (filter (is_of_set peers) flows) own_rate_of
      → (flow : Flow P)
      → Contains (filter (is_of_set peers) flows) flow
      → own_rate_of flow.id ≡ rate_of flow.id
