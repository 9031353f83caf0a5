-- The sides that limit flows: what the answers of the closures make them.
use Rattle.std.specs.Prelude.{ℕ, ◌+◌, Bool, false, cond, ◌&&◌, List, [], ◌∷◌, ◌++◌, Option, Some, None, map, is_some}
use Rattle.std.specs.List.{filter, list_any}
use Rattle.std.specs.declared.cmp.Ordering.{Ordering}
use Rattle.std.specs.Ordering.{is_eq}
use Rattle.fairness.specs.Sides.Answers.{Answered}
use Rattle.fairness.specs.Fairness.Fair.{Side}

-- what a side limits: all that one peer sends, all that one peer receives, or all that goes from one peer to another
pub data Subject (P : Type 0) : Type 0 where
  sent_by : P → Subject P
  received_by : P → Subject P
  sent_between : P → P → Subject P

-- a flow asks for the side of a subject: its place in the list, and the closure's answer
pub record Ask (P : Type 0) : Type 0 where
  pub place : ℕ
  pub subject : Subject P
  pub answer : Option ℕ

-- what the flow at a place asks for: the egress of its origin, the ingress of its recipient if it is delivered, and
-- the link
abbrev pub asks_of_one : {P : Type 0} → ℕ → Answered P → List (Ask P)
asks_of_one place a =
    record { place = place; subject = sent_by a.flow.origin; answer = a.egress } ∷ []
    ++ cond a.flow.delivered
    (record { place = place; subject = received_by a.flow.recipient; answer = a.ingress } ∷ []) []
    ++ record { place = place; subject = sent_between a.flow.origin a.flow.recipient; answer = a.link } ∷ []

-- what all flows ask for, in the order of the list, of which the first has that place
abbrev pub asks_from : {P : Type 0} → ℕ → List (Answered P) → List (Ask P)
asks_from place [] = []
asks_from place (a ∷ answered) = asks_of_one place a ++ asks_from (place + 1) answered

module _ {P : Type 0} (cmp : P → P → Ordering) where
  -- whether two peers are one, by their order
  abbrev pub same_peer : P → P → Bool
  same_peer p q = is_eq (cmp p q)

  -- whether two subjects are one, by the order of peers
  abbrev pub same_subject : Subject P → Subject P → Bool
  same_subject (sent_by p) (sent_by q) = same_peer p q
  same_subject (received_by p) (received_by q) = same_peer p q
  same_subject (sent_between p q) (sent_between r s) = same_peer p r && same_peer q s
  same_subject (sent_by p) (received_by q) = false
  same_subject (sent_by p) (sent_between q r) = false
  same_subject (received_by p) (sent_by q) = false
  same_subject (received_by p) (sent_between q r) = false
  same_subject (sent_between p q) (sent_by r) = false
  same_subject (sent_between p q) (received_by r) = false

  -- whether two flows ask for one side
  abbrev pub is_same : Ask P → Ask P → Bool
  is_same a b = same_subject a.subject b.subject

  -- whether a number was answered for that side before
  abbrev pub is_open : List (Ask P) → Ask P → Bool
  is_open earlier a = list_any (λ b. is_some b.answer && is_same b a) earlier

  -- the side that comes into being with a number: it is the cap, and the users are that flow and those that ask for
  -- the side later
  abbrev pub opened : Ask P → List (Ask P) → Option ℕ → List Side
  opened a later None = []
  opened a later (Some cap) = record { cap = cap; users = a.place ∷ map (λ b. b.place) (filter (is_same a) later) } ∷ []

  -- the sides that come into being with the later ones, after the earlier ones
  abbrev pub sides_after : List (Ask P) → List (Ask P) → List Side
  sides_after earlier [] = []
  sides_after earlier (a ∷ later) =
      cond (is_open earlier a) [] (opened a later a.answer) ++ sides_after (a ∷ earlier) later

  -- the sides of the flows, each from the first flow on for which a number was answered
  abbrev pub sides_of : List (Answered P) → List Side
  sides_of answered = sides_after [] (asks_from 0 answered)
