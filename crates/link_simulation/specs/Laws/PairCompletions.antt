-- The completions of one ordered pair, over a list of calls.
use Rattle.std.specs.Prelude.{◌≡◌, ⊤, ℕ, ◌≤◌, List, [], ◌∷◌, ◌++◌, Bool, ◌&&◌, Option, IfSome}
use Rattle.std.specs.List.{filter, AllZip}
use Rattle.std.specs.declared.cmp.Ordering.{Ordering}
use Rattle.fairness.specs.Sides.Subjects.{same_peer}
use Rattle.link_simulation.specs.Simulation.Messages.{Message, same_pair}
use Rattle.link_simulation.specs.Simulation.World.{Completed, completion_of}
use Rattle.link_simulation.specs.Simulation.Calls.{Call, call_limit, call_limit_link, call_enqueue, call_advance}
use Rattle.link_simulation.specs.Simulation.Calls.{call_enqueue_all, call_next}

-- the messages that calls enqueue, in order
abbrev pub enqueued : {P : Type 0} → List (Call P) → List (Message P)
enqueued [] = []
enqueued (call_limit now peer egress ingress ∷ calls) = enqueued calls
enqueued (call_limit_link now origin recipient cap ∷ calls) = enqueued calls
enqueued (call_enqueue now m ∷ calls) = m ∷ enqueued calls
enqueued (call_enqueue_all now ms ∷ calls) = ms ++ enqueued calls
enqueued (call_advance now ∷ calls) = enqueued calls
enqueued (call_next ∷ calls) = enqueued calls

-- the completions that calls answer, in order
abbrev pub answered : {X : Type 0} → List (List X) → List X
answered [] = []
answered (xs ∷ xss) = xs ++ answered xss

-- a completion is one of that message
abbrev pub IsCompletionOf : {P : Type 0} → Completed P → Message P → Type 0
IsCompletionOf c m = (done_at : ℕ) × (deliver_at : Option ℕ) × (c ≡ completion_of m done_at deliver_at)

-- no later one is delivered before that moment
abbrev pub NoneBefore : {P : Type 0} → ℕ → List (Completed P) → Type 0
NoneBefore t [] = ⊤
NoneBefore t (c ∷ cs) = IfSome c.deliver_at (λ s. t ≤ s) × NoneBefore t cs

-- delivery moments never go down
abbrev pub NeverGoDown : {P : Type 0} → List (Completed P) → Type 0
NeverGoDown [] = ⊤
NeverGoDown (c ∷ cs) = IfSome c.deliver_at (λ t. NoneBefore t cs) × NeverGoDown cs

module _ {P : Type 0} (cmp : P → P → Ordering) where
  -- whether a completion is of the message's pair
  abbrev pub completes_pair : Message P → Completed P → Bool
  completes_pair k c = same_peer cmp k.origin c.origin && same_peer cmp k.recipient c.recipient

  -- the completions of the message's pair are those of the messages of the pair that were enqueued first, in their
  -- order, and their delivery moments never go down
  pub record IsInPairOrder (k : Message P) (messages : List (Message P))
      (completions : List (Completed P)) : Type 0 where
    pub done : List (Message P)
    pub rest : List (Message P)
    pub messages_are : filter (same_pair cmp k) messages ≡ done ++ rest
    pub completions_are : AllZip IsCompletionOf (filter (completes_pair k) completions) done
    pub deliveries : NeverGoDown (filter (completes_pair k) completions)
