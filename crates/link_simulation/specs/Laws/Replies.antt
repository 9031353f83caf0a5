-- What follows for a list of calls and its replies from their agreement with the simulation.
use Rattle.std.specs.Prelude.{◌≡◌, ⊤, ℕ, ◌+◌, ◌<◌, ◌≤◌, List, [], ◌∷◌, ◌++◌, Bool, Option, Some}
use Rattle.std.specs.Prelude.{IfSome, take}
use Rattle.std.specs.List.{filter, AllZip}
use Rattle.std.specs.declared.cmp.Ordering.{Ordering}
use Rattle.fairness.specs.declared.error.Error.TheVariants.{OutOfMemory}
use Rattle.link_simulation.specs.Simulation.Messages.{Message, same_pair}
use Rattle.link_simulation.specs.Simulation.World.{World, new_world, Completed, completion_of, goes}
use Rattle.link_simulation.specs.Simulation.Calls.{Call, call_limit, call_limit_link, call_enqueue, call_advance}
use Rattle.link_simulation.specs.Simulation.Calls.{call_enqueue_all, call_next}
use Rattle.link_simulation.specs.Simulation.Calls.{moment_of, Runs, IsInTurn}
use Rattle.link_simulation.specs.Simulation.Replies.{Reply, reply_done, reply_next, reply_refused, made, completions_in}
use Rattle.link_simulation.specs.Simulation.Replies.{SameCompletion}
use Rattle.link_simulation.specs.Rule.Range.{AreInRange}
use Rattle.link_simulation.specs.Laws.PairCompletions.{enqueued, answered, NeverGoDown, completes_pair}
use Rattle.link_simulation.specs.Laws.Isolation.{Answers, IsSet, KeepsApart, kept_calls, kept_completions, NothingElse}

-- time is advanced first: a call that changes caps or adds messages comes at the moment of the last call that was made
abbrev pub AreAdvancedFirst : {P : Type 0} → ℕ → List (Call P) → List (Reply P) → Type 0
AreAdvancedFirst at [] replies = ⊤
AreAdvancedFirst at (call ∷ calls) [] = ⊤
AreAdvancedFirst at (call_limit now peer egress ingress ∷ calls) (reply ∷ replies) =
    (now ≡ at) × AreAdvancedFirst at calls replies
AreAdvancedFirst at (call_limit_link now origin recipient cap ∷ calls) (reply ∷ replies) =
    (now ≡ at) × AreAdvancedFirst at calls replies
AreAdvancedFirst at (call_enqueue now m ∷ calls) (reply ∷ replies) = (now ≡ at) × AreAdvancedFirst at calls replies
AreAdvancedFirst at (call_enqueue_all now ms ∷ calls) (reply ∷ replies) =
    (now ≡ at) × AreAdvancedFirst at calls replies
AreAdvancedFirst at (call_advance now ∷ calls) (reply_done cs ∷ replies) =
    (at ≤ now) × AreAdvancedFirst now calls replies
AreAdvancedFirst at (call_advance now ∷ calls) (reply_next next ∷ replies) =
    (at ≤ now) × AreAdvancedFirst at calls replies
AreAdvancedFirst at (call_advance now ∷ calls) (reply_refused why ∷ replies) =
    (at ≤ now) × AreAdvancedFirst at calls replies
AreAdvancedFirst at (call_next ∷ calls) (reply ∷ replies) = AreAdvancedFirst at calls replies

-- a call comes no earlier than the one moment and, if it changes caps or adds messages, before the other, if there
-- is one
abbrev pub IsBetween : {P : Type 0} → ℕ → Option ℕ → Call P → Type 0
IsBetween from before (call_limit now peer egress ingress) = (from ≤ now) × IfSome before (λ t. now < t)
IsBetween from before (call_limit_link now origin recipient cap) = (from ≤ now) × IfSome before (λ t. now < t)
IsBetween from before (call_enqueue now m) = (from ≤ now) × IfSome before (λ t. now < t)
IsBetween from before (call_enqueue_all now ms) = (from ≤ now) × IfSome before (λ t. now < t)
IsBetween from before (call_advance now) = from ≤ now
IsBetween from before call_next = ⊤

-- the calls go by what is answered: a call comes no earlier than the last that was made and, if it changes caps or
-- adds messages, at that moment, or before what `next` has answered since
abbrev pub GoByNext : {P : Type 0} → ℕ → Option ℕ → List (Call P) → List (Reply P) → Type 0
GoByNext from before [] replies = ⊤
GoByNext from before (call ∷ calls) [] = ⊤
GoByNext from before (call ∷ calls) (reply_done cs ∷ replies) =
    IsBetween from before call × IfSome (moment_of call) (λ now. GoByNext now (Some (now + 1)) calls replies)
GoByNext from before (call ∷ calls) (reply_next next ∷ replies) = GoByNext from next calls replies
GoByNext from before (call ∷ calls) (reply_refused why ∷ replies) =
    IsBetween from before call × GoByNext from before calls replies

-- a law holds of the first calls, however many, and their replies
abbrev pub AlwaysSoFar : {P : Type 0} → (List (Call P) → List (Reply P) → Type 0) → List (Call P) → List (Reply P)
    → Type 0
AlwaysSoFar Law calls replies = (n : ℕ) → Law (take n calls) (take n replies)

-- a call that is in the range, with those that were made before it, is refused for memory alone
abbrev pub RefusesForMemoryAlone : {P : Type 0} → List (Call P) → List (Call P) → List (Reply P) → Type 0
RefusesForMemoryAlone earlier [] replies = ⊤
RefusesForMemoryAlone earlier (call ∷ calls) [] = ⊤
RefusesForMemoryAlone earlier (call ∷ calls) (reply_done cs ∷ replies) =
    RefusesForMemoryAlone (earlier ++ call ∷ []) calls replies
RefusesForMemoryAlone earlier (call ∷ calls) (reply_next next ∷ replies) = RefusesForMemoryAlone earlier calls replies
RefusesForMemoryAlone earlier (call ∷ calls) (reply_refused why ∷ replies) =
    (AreInRange (earlier ++ call ∷ []) → why ≡ OutOfMemory) × RefusesForMemoryAlone earlier calls replies

module _ {P : Type 0} (cmp : P → P → Ordering) where
  -- each call comes in its turn in the simulation, from the world w on, where a refused call changes nothing
  abbrev pub AreInTurn : World P → List (Call P) → List (Reply P) → Type 0
  AreInTurn w [] replies = ⊤
  AreInTurn w (call ∷ calls) [] = ⊤
  AreInTurn w (call ∷ calls) (reply_done cs ∷ replies) =
      IsInTurn cmp w call × ((now : ℕ) (ds : List (Completed P)) (v : World P) → moment_of call ≡ Some now
      → Runs cmp w call now (goes ds v) → AreInTurn v calls replies)
  AreInTurn w (call ∷ calls) (reply_next next ∷ replies) = IsInTurn cmp w call × AreInTurn w calls replies
  AreInTurn w (call ∷ calls) (reply_refused why ∷ replies) = IsInTurn cmp w call × AreInTurn w calls replies

  -- a completion is one of that message, peers taken as equal by their order
  abbrev pub Completes : Completed P → Message P → Type 0
  Completes c m = (done_at : ℕ) × (deliver_at : Option ℕ) × SameCompletion cmp c (completion_of m done_at deliver_at)

  -- the completions of the message's pair are those of the messages of the pair that were enqueued first, in their
  -- order, and their delivery moments never go down
  pub record CompletesInOrder (k : Message P) (messages : List (Message P))
      (completions : List (Completed P)) : Type 0 where
    pub done : List (Message P)
    pub rest : List (Message P)
    pub messages_are : filter (same_pair cmp k) messages ≡ done ++ rest
    pub completions_are : AllZip Completes (filter (completes_pair cmp k) completions) done
    pub deliveries : NeverGoDown (filter (completes_pair cmp k) completions)

  -- of calls in turn, the messages of each pair that were handed over complete in their order
  abbrev pub CompletePairsInOrder : List (Call P) → List (Reply P) → Type 0
  CompletePairsInOrder calls replies =
      (k : Message P) → AreInTurn (new_world 0) calls replies
      → CompletesInOrder k (enqueued (made calls replies)) (answered (completions_in replies))

  -- what a set of peers completes is what the calls complete without the messages of others, and these messages
  -- complete nothing of the set
  pub record IsIsolated (inside : P → Bool) (calls : List (Call P))
      (completions : List (List (Completed P))) : Type 0 where
    pub alone : List (List (Completed P))
    pub answers : Answers cmp (new_world 0) (kept_calls inside calls) alone
    pub same : AllZip (AllZip (SameCompletion cmp)) (kept_completions inside calls completions) alone
    pub nothing_else : NothingElse inside calls completions

  -- of calls in turn, of which each message that was handed over has both ends in a set of peers or neither, the set
  -- is isolated
  abbrev pub IsolateSets : List (Call P) → List (Reply P) → Type 0
  IsolateSets calls replies =
      (inside : P → Bool) → IsSet cmp inside → KeepsApart inside (made calls replies)
      → AreInTurn (new_world 0) calls replies →
      IsIsolated inside (made calls replies) (completions_in replies)
