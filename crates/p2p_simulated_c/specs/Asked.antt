-- What a call through C does to the scheduler that the handle has, if it is open.
use Rattle.std.specs.Prelude.{◌≡◌, ◌⊎◌, ℕ, length, Option, Some, None}
use Rattle.fairness.specs.Refusals.ErrorTexts.{refusal_number}
use Rattle.link_scheduler.specs.Calls.State.{IsMade, IsRefused, IsAdvanced, IsCounted, planned_of}
use Rattle.link_simulation.specs.Simulation.Calls.{Call, moment_of}
use Rattle.fairness.specs.declared.error.Error.{Error}
use Rattle.p2p_simulated_c.specs.declared.opened.Opened.{Opened}

-- a handle that is not open stays so, and the call answers so; an open one stays open, and the call does this to the
-- scheduler that is there
pub data OnHandle (if_closed : Type 0) (if_open : Opened → Opened → Type 0) (old new : Option Opened) : Type 0 where
  at_closed : old ≡ None → new ≡ None → if_closed → OnHandle if_closed if_open old new
  at_open : (before after : Opened) → old ≡ Some before → new ≡ Some after → if_open before after
      → OnHandle if_closed if_open old new

-- the call was made: the scheduler did it, and has what it completed, which is so many, and the call's moment
pub record Made (call : Call ℕ) (count : ℕ) (old new : Opened) : Type 0 where
  pub made : IsMade old.state call new.completed.items new.state
  pub counted : count ≡ length new.completed.items
  pub moment : moment_of call ≡ Some new.last

-- the call was refused for that cause, and nothing changed
pub record Refused (call : Call ℕ) (why : Error) (count : ℕ) (old new : Opened) : Type 0 where
  pub refused : IsRefused old.state call why
  pub unchanged : planned_of new.state ≡ planned_of old.state
  pub kept : new.completed ≡ old.completed
  pub counted : count ≡ 0
  pub moment : new.last ≡ old.last

-- it was made, and the status is 0; or it was refused, and the status is the number of the cause
abbrev pub Ended : Call ℕ → ℕ → ℕ → Opened → Opened → Type 0
Ended call status count old new =
    ((status ≡ 0) × Made call count old new)
    ⊎ ((why : Error) × (status ≡ refusal_number why) × Refused call why count old new)

-- what else an advance promises
abbrev pub Advanced : ℕ → ℕ → Opened → Opened → Type 0
Advanced now status old new = status ≡ 0 → IsAdvanced old.state now new.completed.items new.state

-- and one that tells how many events it handled
abbrev pub Counted : ℕ → ℕ → ℕ → Opened → Opened → Type 0
Counted now status events old new = status ≡ 0 → IsCounted old.state now events new.completed.items new.state
