-- Which replies agree with a list of calls.
use Rattle.std.specs.Prelude.{◌≡◌, ⊤, ℕ, List, [], ◌∷◌, true, Option, Some}
use Rattle.std.specs.List.{AllZip}
use Rattle.std.specs.declared.cmp.Ordering.{Ordering}
use Rattle.fairness.specs.declared.error.Error.{Error}
use Rattle.link_simulation.specs.Simulation.RefusalCauses.{IsRefusedFor}
use Rattle.fairness.specs.Sides.Subjects.{same_peer}
use Rattle.link_simulation.specs.Simulation.World.{World, Completed, goes, meets}
use Rattle.link_simulation.specs.Simulation.Time.{NextIs}
use Rattle.link_simulation.specs.Simulation.Calls.{Call}
use Rattle.link_simulation.specs.Simulation.Calls.{call_next}
use Rattle.link_simulation.specs.Simulation.Calls.{moment_of, Runs, IsInTurn}

-- what a call is answered
pub data Reply (P : Type 0) : Type 0 where
  reply_done : List (Completed P) → Reply P
  reply_next : Option ℕ → Reply P
  reply_refused : Error → Reply P

-- the calls that were made: those that are answered with completions
abbrev pub made : {P : Type 0} → List (Call P) → List (Reply P) → List (Call P)
made [] replies = []
made (call ∷ calls) [] = []
made (call ∷ calls) (reply_done cs ∷ replies) = call ∷ made calls replies
made (call ∷ calls) (reply_next next ∷ replies) = made calls replies
made (call ∷ calls) (reply_refused why ∷ replies) = made calls replies

-- the completions of the calls that were made, call by call
abbrev pub completions_in : {P : Type 0} → List (Reply P) → List (List (Completed P))
completions_in [] = []
completions_in (reply_done cs ∷ replies) = cs ∷ completions_in replies
completions_in (reply_next next ∷ replies) = completions_in replies
completions_in (reply_refused why ∷ replies) = completions_in replies

module _ {P : Type 0} (cmp : P → P → Ordering) where
  -- equal peers, and all else the same
  pub record SameCompletion (c d : Completed P) : Type 0 where
    pub origin : same_peer cmp c.origin d.origin ≡ true
    pub recipient : same_peer cmp c.recipient d.recipient ≡ true
    pub channel : c.channel ≡ d.channel
    pub bytes : c.bytes ≡ d.bytes
    pub done_at : c.done_at ≡ d.done_at
    pub deliver_at : c.deliver_at ≡ d.deliver_at

  -- the call meets this fault
  abbrev pub Faults : World P → Call P → Error → Type 0
  Faults w call fault = (now : ℕ) × (moment_of call ≡ Some now) × Runs cmp w call now (meets fault)

  -- when a call may be refused: for memory, or for a fault that it meets
  abbrev pub MayRefuse : World P → Call P → Error → Type 0
  MayRefuse w call why = IsRefusedFor (Faults w call) why

  -- the replies are those of the simulation, up to the first call that is out of turn; a refused call counts as not
  -- made
  abbrev pub Agrees : World P → List (Call P) → List (Reply P) → Type 0
  Agrees w [] [] = ⊤
  Agrees w [] (reply ∷ replies) = ⊥
  Agrees w (call ∷ calls) [] = ⊥
  Agrees w (call_next ∷ calls) (reply_next t ∷ replies) = NextIs cmp w t × Agrees w calls replies
  Agrees w (call_next ∷ calls) (reply_done cs ∷ replies) = ⊥
  Agrees w (call_next ∷ calls) (reply_refused why ∷ replies) = ⊥
  Agrees w (call ∷ calls) (reply_next t ∷ replies) = ⊥
  Agrees w (call ∷ calls) (reply_refused why ∷ replies) =
      IsInTurn cmp w call → MayRefuse w call why × Agrees w calls replies
  Agrees w (call ∷ calls) (reply_done cs ∷ replies) =
      IsInTurn cmp w call → (now : ℕ) × (ds : List (Completed P)) × (v : World P)
      × (moment_of call ≡ Some now) × Runs cmp w call now (goes ds v) × AllZip SameCompletion cs ds
      × Agrees v calls replies
