-- What becomes of the messages of a set of peers.
use Rattle.std.specs.Prelude.{◌≡◌, ℕ, ◌≤◌, List, [], ◌∷◌, map, Bool, true, cond, Some, ⊤}
use Rattle.std.specs.List.{filter}
use Rattle.std.specs.declared.cmp.Ordering.{Ordering}
use Rattle.fairness.specs.Sides.Subjects.{same_peer}
use Rattle.link_simulation.specs.Simulation.World.{World, Completed, goes, last_moment}
use Rattle.link_simulation.specs.Simulation.Calls.{Call, call_limit, call_limit_link, call_enqueue, call_advance}
use Rattle.link_simulation.specs.Simulation.Messages.{Message}
use Rattle.link_simulation.specs.Simulation.Calls.{call_enqueue_all, call_next}
use Rattle.link_simulation.specs.Simulation.Calls.{moment_of, IsInTurn, Runs}

-- each message has both ends in the set or neither
abbrev pub AreApart : {P : Type 0} → (P → Bool) → List (Message P) → Type 0
AreApart inside [] = ⊤
AreApart inside (m ∷ ms) = (inside m.origin ≡ inside m.recipient) × AreApart inside ms

-- a message that is enqueued has both ends in the set or neither
abbrev pub IsApart : {P : Type 0} → (P → Bool) → Call P → Type 0
IsApart inside (call_limit now peer egress ingress) = ⊤
IsApart inside (call_limit_link now origin recipient cap) = ⊤
IsApart inside (call_enqueue now m) = inside m.origin ≡ inside m.recipient
IsApart inside (call_enqueue_all now ms) = AreApart inside ms
IsApart inside (call_advance now) = ⊤
IsApart inside call_next = ⊤

-- so has each of the calls
abbrev pub KeepsApart : {P : Type 0} → (P → Bool) → List (Call P) → Type 0
KeepsApart inside [] = ⊤
KeepsApart inside (call ∷ calls) = IsApart inside call × KeepsApart inside calls

-- whether a call stays: all but those that enqueue one message of others
abbrev pub is_kept : {P : Type 0} → (P → Bool) → Call P → Bool
is_kept inside (call_limit now peer egress ingress) = true
is_kept inside (call_limit_link now origin recipient cap) = true
is_kept inside (call_enqueue now m) = inside m.origin
is_kept inside (call_enqueue_all now ms) = true
is_kept inside (call_advance now) = true
is_kept inside call_next = true

-- a call that stays, without the messages of others
abbrev pub without_others : {P : Type 0} → (P → Bool) → Call P → Call P
without_others inside (call_limit now peer egress ingress) = call_limit now peer egress ingress
without_others inside (call_limit_link now origin recipient cap) = call_limit_link now origin recipient cap
without_others inside (call_enqueue now m) = call_enqueue now m
without_others inside (call_enqueue_all now ms) = call_enqueue_all now (filter (λ m. inside m.origin) ms)
without_others inside (call_advance now) = call_advance now
without_others inside call_next = call_next

-- the calls without the messages of others
abbrev pub kept_calls : {P : Type 0} → (P → Bool) → List (Call P) → List (Call P)
kept_calls inside calls = map (without_others inside) (filter (is_kept inside) calls)

-- the set's completions
abbrev pub inside_alone : {P : Type 0} → (P → Bool) → List (Completed P) → List (Completed P)
inside_alone inside cs = filter (λ c. inside c.origin) cs

-- the set's completions, call by call, at the calls that stay
abbrev pub kept_completions : {P : Type 0} → (P → Bool) → List (Call P) → List (List (Completed P))
    → List (List (Completed P))
kept_completions inside [] css = []
kept_completions inside (call ∷ calls) [] = []
kept_completions inside (call ∷ calls) (cs ∷ css) =
    cond (is_kept inside call) (inside_alone inside cs ∷ kept_completions inside calls css)
    (kept_completions inside calls css)

-- the other calls complete nothing of the set
abbrev pub NothingElse : {P : Type 0} → (P → Bool) → List (Call P) → List (List (Completed P)) → Type 0
NothingElse inside [] css = ⊤
NothingElse inside (call ∷ calls) [] = ⊤
NothingElse inside (call ∷ calls) (cs ∷ css) =
    cond (is_kept inside call) ⊤ (inside_alone inside cs ≡ []) × NothingElse inside calls css

-- each call comes at a moment that there is
abbrev pub InTime : {P : Type 0} → List (Call P) → Type 0
InTime [] = ⊤
InTime (call ∷ calls) = ((now : ℕ) → moment_of call ≡ Some now → now ≤ last_moment) × InTime calls

module _ {P : Type 0} (cmp : P → P → Ordering) where
  -- calls that are made one after another, with the completions that each answers
  pub data Answers : World P → List (Call P) → List (List (Completed P)) → Type 0 where
    no_calls : {w : World P} → Answers w [] []
    call_answers : {w u : World P} {call : Call P} {now : ℕ} {calls : List (Call P)} {cs : List (Completed P)}
        {css : List (List (Completed P))} → moment_of call ≡ Some now
        → w.moment ≤ now → Runs cmp w call now (goes cs u) → Answers u calls css → Answers w (call ∷ calls) (cs ∷ css)

  -- and each comes in its turn
  pub data AnswersInTurn : World P → List (Call P) → List (List (Completed P)) → Type 0 where
    no_calls_in_turn : {w : World P} → AnswersInTurn w [] []
    answers_in_turn : {w u : World P} {call : Call P} {now : ℕ} {calls : List (Call P)} {cs : List (Completed P)}
        {css : List (List (Completed P))} → moment_of call ≡ Some now
        → IsInTurn cmp w call → Runs cmp w call now (goes cs u) → AnswersInTurn u calls css
        → AnswersInTurn w (call ∷ calls) (cs ∷ css)

  -- a set of peers, equal peers together
  abbrev pub IsSet : (P → Bool) → Type 0
  IsSet inside = (p q : P) → same_peer cmp p q ≡ true → inside p ≡ inside q
