-- How a planned world on the way through a list of messages stands for the one that the event rule speaks of.
use Rattle.std.specs.Prelude.{◌≡◌, ◌≢◌, ℕ, ◌<◌, ◌&&◌, List, [], ◌++◌, Bool, true, false, length, is_none}
use Rattle.std.specs.declared.cmp.Ordering.{Ordering}
use Rattle.fairness.specs.declared.error.Error.{Error}
use Rattle.link_events.specs.declared.batch.Standing.{Standing}
use Rattle.link_events.specs.declared.batch.Standing.TheVariants.{Open, Accounted, Due}
use Rattle.link_simulation.specs.Simulation.Messages.{Message}
use Rattle.link_simulation.specs.Simulation.Rates.{is_unlimited}
use Rattle.link_simulation.specs.Simulation.RefusalCauses.{IsRefusedFor}
use Rattle.link_simulation.specs.Simulation.World.{Completed, goes, meets, last_moment}
use Rattle.link_simulation.specs.Rule.Planned.{Planned, next_of, may_launch}
use Rattle.link_simulation.specs.Rule.Events.{Accounts, Enqueues}
use Rattle.link_waiting.specs.Idle.AtRest.{is_sending}

-- whether an account was made
abbrev pub is_accounted : Standing → Bool
is_accounted Open = false
is_accounted Accounted = true
is_accounted Due = true

-- how it stands once the account that was due is made, and a message was sent that starts, or waits
abbrev pub standing_after : Standing → Bool → Standing
standing_after Open false = Open
standing_after Open true = Accounted
standing_after Accounted starts = Accounted
standing_after Due starts = Accounted

module _ {P : Type 0} (cmp : P → P → Ordering) where
  -- whether limits hold, and a message that is sent starts at once
  abbrev pub does_start : ℕ → Planned P → Message P → Bool
  does_start now p m = p.limited && (is_none (next_of cmp p m) && may_launch cmp now p m)

  -- the planned world `here` stands for w at that moment: it is w; an account once more changes nothing; or w is what
  -- the account that is due makes of it, and nothing leaves at it
  abbrev pub IsStanding : ℕ → Standing → Planned P → Planned P → Type 0
  IsStanding now Open here w = w ≡ here
  IsStanding now Accounted here w = (w ≡ here) × Accounts cmp now here [] here
  IsStanding now Due here w = Accounts cmp now here [] w

  -- from each world that `here` stands for a message is sent: what completes comes out behind what came out, and `new`
  -- stands for the world that is reached
  abbrev pub SendsFrom : ℕ → Message P → Standing → Planned P → List (Completed P) → Standing → Planned P
      → List (Completed P) → Type 0
  SendsFrom now m standing here out next new more = (w : Planned P) → IsStanding now standing here w
      → (cs : List (Completed P)) × (v : Planned P) × (more ≡ out ++ cs) × Enqueues cmp now m w (goes cs v)
      × IsStanding now next new v

  -- and from each it may be refused so
  abbrev pub MayRefuseFrom : ℕ → Message P → Standing → Planned P → Error → Type 0
  MayRefuseFrom now m standing here why = (w : Planned P) → IsStanding now standing here w
      → IsRefusedFor (λ fault. Enqueues cmp now m w (meets fault)) why

  -- where limits hold, no message from the one peer to the other is in flight
  abbrev pub IsIdle : Planned P → P → P → Type 0
  IsIdle p origin recipient = p.limited ≡ true → is_sending cmp p origin recipient ≡ false

  -- a message that is sent starts at once, and is not done at the account that follows
  pub record OnlyStarts (now : ℕ) (p : Planned P) (m : Message P) : Type 0 where
    pub starts : does_start now p m ≡ true
    pub id : p.next_id < last_moment
    pub some_bytes : length m.bytes ≢ 0
    pub capped : is_unlimited cmp p.caps m ≡ false
