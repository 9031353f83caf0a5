-- One message alone under caps.
use Rattle.std.specs.Prelude.{◌≡◌, ℕ, ◌+◌, ◌<◌, ◌≤◌, [], ◌∷◌, All, Contains, true, Some}
use Rattle.std.specs.declared.cmp.Ordering.{Ordering}
use Rattle.fairness.specs.Numbers.Amount.{whole, IsLeastTime}
use Rattle.fairness.specs.Fairness.Fair.{Side}
use Rattle.link_simulation.specs.Simulation.Messages.{Message, Caps}
use Rattle.link_simulation.specs.Simulation.Rates.{capped_sides}
use Rattle.link_simulation.specs.Simulation.World.{World, goes, completed, is_in_order, last_moment}
use Rattle.link_simulation.specs.Simulation.Time.{NextIs}
use Rattle.link_simulation.specs.Simulation.Calls.{call_enqueue, call_advance, Runs}

-- that is the least time in nanoseconds in which so many bytes go at so many bytes a second
abbrev pub IsTimeFor : ℕ → ℕ → ℕ → Type 0
IsTimeFor bytes rate time = IsLeastTime (whole rate) (whole bytes) time

module _ {P : Type 0} (cmp : P → P → Ordering) where
  -- the least cap of the sides that a message uses
  pub record IsLeastCap (caps : Caps P) (m : Message P) (cap : ℕ) : Type 0 where
    pub side : Side
    pub used : Contains (capped_sides cmp caps (m ∷ [])) side
    pub own : side.cap ≡ cap
    pub least : All (λ other. cap ≤ other.cap) (capped_sides cmp caps (m ∷ []))

  -- under limits nothing is in flight and nothing waits, and the message may start at that moment
  pub record MayGoAlone (w : World P) (now : ℕ) (m : Message P) : Type 0 where
    pub limited : w.limited ≡ true
    pub none_sending : w.sending ≡ []
    pub none_waiting : w.waiting ≡ []
    pub in_order : is_in_order (w.last_arrival m.origin m.recipient) (now + m.latency) ≡ true
    pub has_id : w.next_id < last_moment

  -- it is sent at that moment, nothing happens for that time, and then it is done
  pub record IsDoneAfter (w : World P) (now : ℕ) (m : Message P) (time : ℕ) : Type 0 where
    pub sent : World P
    pub sends : Runs cmp w (call_enqueue now m) now (goes [] sent)
    pub next : NextIs cmp sent (Some (now + time))
    pub after : World P
    pub done : Runs cmp sent (call_advance (now + time)) (now + time) (goes (completed cmp (now + time) m ∷ []) after)
