-- Whether a call would come in its turn.
use Rattle.std.specs.Prelude.{◌≡◌, ◌↔◌, ◌⊎◌, ℕ, ◌<◌, ◌≤◌, Bool, true, false, Option, Some, IfSome}
use Rattle.std.specs.Ordering.{nat_cmp}
use Rattle.link_scheduler.specs.Calls.State.{planned_of}
use Rattle.link_simulation.specs.Rule.Planned.{next_event}
use Rattle.link_simulation.specs.Rule.StandsFor.{StandsFor}
use Rattle.link_simulation.specs.Simulation.Calls.{Call, call_limit, call_limit_link, call_enqueue, call_enqueue_all}
use Rattle.link_simulation.specs.Simulation.Calls.{call_advance, call_next, moment_of, IsInTurn}
use Rattle.link_simulation.specs.Simulation.World.{World}
use Rattle.p2p_simulated_c.specs.declared.opened.Opened.{Opened}

-- the call sets caps or sends
abbrev pub is_act : Call ℕ → Bool
is_act (call_limit now peer egress ingress) = true
is_act (call_limit_link now origin recipient cap) = true
is_act (call_enqueue now m) = true
is_act (call_enqueue_all now ms) = true
is_act (call_advance now) = false
is_act call_next = false

-- of a call at that moment it is told, with status 0, that it comes no earlier than the last one and, if it sets caps
-- or sends, before the next event; with 6 at what moment the last one was, which is later; and with 7 at what moment
-- an event is due, which is not later
abbrev pub IsTold : (last : ℕ) → (next : Option ℕ) → (now : ℕ) → (acts : Bool) → (status at : ℕ) → Type 0
IsTold last next now acts status at =
    ((status ≡ 0) × (at ≡ now) × (last ≤ now) × (acts ≡ true → IfSome next (λ due. now < due)))
    ⊎ ((status ≡ 6) × (at ≡ last) × (now < last))
    ⊎ ((status ≡ 7) × (next ≡ Some at) × (last ≤ now) × (at ≤ now) × (acts ≡ true))

-- the scheduler stands for that world of the simulation, which is at the moment of its last call
pub record StandsAtLast (s : Opened) (w : World ℕ) : Type 0 where
  pub stands : StandsFor nat_cmp (planned_of s.state) w
  pub moment : w.moment ≡ s.last

-- what is told of a call that acts so at that moment
pub record TellsTurn (s : Opened) (now : ℕ) (acts : Bool) (status at : ℕ) : Type 0 where
  -- by the event that is planned next
  pub by_rule : IsTold s.last (next_event (planned_of s.state)) now acts status at
  -- and in the simulation: status 0 exactly where the call is in its turn
  pub simulated : (w : World ℕ) (call : Call ℕ) → StandsAtLast s w → moment_of call ≡ Some now → is_act call ≡ acts
      → (status ≡ 0) ↔ IsInTurn nat_cmp w call
