-- What a call does, told by the simulation.
use Rattle.std.specs.Prelude.{◌≡◌, ℕ, ◌-◌, ◌<◌, ◌≤◌, List, ◌++◌, Option, Some, IfSome}
use Rattle.std.specs.List.{AllZip}
use Rattle.std.specs.declared.cmp.Ordering.{Ordering}
use Rattle.fairness.specs.declared.error.Error.{Error}
use Rattle.fairness.specs.declared.error.Error.TheVariants.{OutOfMemory}
use Rattle.fairness.specs.Numbers.Amount.{plus}
use Rattle.fairness.specs.Fairness.Laws.{IsAtMost}
use Rattle.link_simulation.specs.Simulation.RefusalCauses.{IsRefusedFor}
use Rattle.link_simulation.specs.Simulation.World.{World, Completed, goes}
use Rattle.link_simulation.specs.Simulation.Time.{NextIs}
use Rattle.link_simulation.specs.Simulation.Calls.{Call, call_advance, moment_of, Runs, IsInTurn}
use Rattle.link_simulation.specs.Simulation.Replies.{SameCompletion, Faults}
use Rattle.link_simulation.specs.Rule.Planned.{Planned, next_event}
use Rattle.link_simulation.specs.Rule.Range.{IsInRange, IsCallInRange}
use Rattle.link_simulation.specs.Rule.StandsFor.{StandsFor}
use Rattle.link_simulation.specs.Laws.Bytes.{bytes_from, allowance}

module _ {P : Type 0} (cmp : P → P → Ordering) where
  -- the planned world p stands for the world w of the simulation, and there the call comes at that moment, in its turn
  pub record IsCalled (p : Planned P) (call : Call P) (now : ℕ) (w : World P) : Type 0 where
    pub stands : StandsFor cmp p w
    pub moment : moment_of call ≡ Some now
    pub turn : IsInTurn cmp w call

  -- the call runs from w to its moment with the same completions, and meets no fault; q stands for the world that it
  -- leads to, and the next event comes after its moment
  pub record IsRun (w : World P) (call : Call P) (now : ℕ) (completions : List (Completed P))
      (q : Planned P) : Type 0 where
    pub answers : List (Completed P)
    pub after : World P
    pub runs : Runs cmp w call now (goes answers after)
    pub same : AllZip (SameCompletion cmp) completions answers
    pub stands : StandsFor cmp q after
    pub moment : after.moment ≡ now
    pub next : IfSome (next_event q) (λ t. now < t)
    pub no_fault : (fault : Error) → ¬ Faults cmp w call fault

  -- in each world that p stands for, a call in its turn does what it did to p: it has these completions, and leads to
  -- a world that q stands for
  abbrev pub IsSimulated : Planned P → Call P → List (Completed P) → Planned P → Type 0
  IsSimulated p call completions q = (w : World P) (now : ℕ) → IsCalled p call now w → IsRun w call now completions q

  -- in each world that p stands for, that is the moment of the next event, or none ever comes
  abbrev pub IsNextInSimulation : Planned P → Option ℕ → Type 0
  IsNextInSimulation p next = (w : World P) → StandsFor cmp p w → NextIs cmp w next

  -- a call in the range leads to a planned world in the range
  abbrev pub KeepsRange : Planned P → Call P → Planned P → Type 0
  KeepsRange p call q = IsCallInRange p call → IsInRange q

  -- in each world that p stands for, a call in its turn meets that fault
  abbrev pub MeetsFault : Planned P → Call P → Error → Type 0
  MeetsFault p call fault = (w : World P) (now : ℕ) → IsCalled p call now w → Faults cmp w call fault

  -- a refusal is for memory or for a fault that the simulation meets, and in the range for memory alone
  pub record IsRefusedInSimulation (p : Planned P) (call : Call P) (why : Error) : Type 0 where
    pub cause : IsRefusedFor (MeetsFault p call) why
    pub in_range : IsCallInRange p call → why ≡ OutOfMemory

  -- time goes on from w to the first moment, and from there to the second; both together have the same completions,
  -- and q stands for the world at the end
  pub record RunsInTwo (w : World P) (first second : ℕ) (completions : List (Completed P))
      (q : Planned P) : Type 0 where
    pub first_answers : List (Completed P)
    pub between : World P
    pub runs_first : Runs cmp w (call_advance first) first (goes first_answers between)
    pub second_answers : List (Completed P)
    pub after : World P
    pub runs_second : Runs cmp between (call_advance second) second (goes second_answers after)
    pub same : AllZip (SameCompletion cmp) completions (first_answers ++ second_answers)
    pub stands : StandsFor cmp q after

  -- to advance is to advance to any moment on the way, and then on
  abbrev pub IsSplitAnywhere : Planned P → ℕ → List (Completed P) → Planned P → Type 0
  IsSplitAnywhere p now completions q =
      (w : World P) (between : ℕ) → StandsFor cmp p w → w.moment ≤ between → between ≤ now
      → RunsInTwo w between now completions q

  -- from a world that p stands for to one that q stands for, the bytes that an origin still has to send go down by no
  -- more than its egress cap lets go in the time between
  abbrev pub KeepsToCaps : Planned P → ℕ → Planned P → Type 0
  KeepsToCaps p now q =
      (w v : World P) (origin : P) (cap : ℕ) → StandsFor cmp p w → StandsFor cmp q v → w.moment ≤ now → v.moment ≡ now
      → p.caps.egress origin ≡ Some cap →
      IsAtMost (bytes_from cmp origin w) (plus (bytes_from cmp origin v) (allowance cap (now - w.moment)))
