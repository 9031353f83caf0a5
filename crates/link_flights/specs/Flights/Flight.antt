-- A message in flight, as it is kept, and as it stands at the last account.
use Rattle.std.specs.Prelude.{◌≡◌, ℕ, ◌-◌, ◌*◌, ◌≤◌, nat_le, Bool, true, false, if◌then◌else◌, List, map}
use Rattle.std.specs.Prelude.{Option, Some, None, slice_get, length, take}
use Rattle.std.specs.List.{list_all}
use Rattle.link_simulation.specs.Simulation.World.{last_moment}
use Rattle.link_flights.specs.declared.flight.Flight.{Flight}
use Rattle.link_pairs.specs.declared.message.Message.{Message}

-- the units that are left at a moment, if it goes on at its rate
abbrev pub left_by : {P : Type 0} → ℕ → Flight P → ℕ
left_by now f = f.left - f.rate * (now - f.since)

-- a message in flight under its flow id, with the units that were left at a moment, and those that drain in a
-- nanosecond from then on; and whether an account has given it this rate
pub record UnitFlight (P : Type 0) : Type 0 where
  pub id : ℕ
  pub message : Message P
  pub left : ℕ
  pub rate : ℕ
  pub updated : ℕ
  pub rated : Bool

-- a message in flight as it stands at the moment of the last account; one that has started since has no rate yet
abbrev pub flight_at : {P : Type 0} → ℕ → Flight P → UnitFlight P
flight_at at f = record {
  id = f.id;
  message = f.message.value;
  left = if f.rated then left_by at f else f.left;
  rate = if f.rated then f.rate else 0;
  updated = if f.rated then at else f.since;
  rated = f.rated;
}

-- the messages in flight as they stand at the moment of the last account
abbrev pub flights_at : {P : Type 0} → ℕ → List (Flight P) → List (UnitFlight P)
flights_at at fs = map (flight_at at) fs

-- whether a moment that may be missing has come at t
abbrev pub has_come : ℕ → Option ℕ → Bool
has_come t None = false
has_come t (Some moment) = nat_le moment t

-- the finish of so many units, that drain at a rate since a moment, is the moment from which on nothing is left
abbrev pub IsFinishOf : ℕ → ℕ → ℕ → Option ℕ → Type 0
IsFinishOf left rate since finish =
    (t : ℕ) → since ≤ t → t ≤ last_moment → nat_le left (rate * (t - since)) ≡ has_come t finish

-- the finish that is kept is right
abbrev pub IsTimed : {P : Type 0} → Flight P → Type 0
IsTimed f = IsFinishOf f.left f.rate f.since f.finish

-- those that have got a rate are timed
abbrev pub AreTimed : {P : Type 0} → List (Flight P) → Type 0
AreTimed {P} fs = (i : ℕ) (f : Flight P) → slice_get fs i ≡ Some f → f.rated ≡ true → IsTimed f

-- so many at the beginning have got a rate
abbrev pub HaveRates : {P : Type 0} → ℕ → List (Flight P) → Type 0
HaveRates n fs = (n ≤ length fs) × (list_all (λ f. f.rated) (take n fs) ≡ true)

-- it has drained to a moment
abbrev pub DrainsTo : {P : Type 0} → ℕ → UnitFlight P → UnitFlight P → Type 0
DrainsTo now old new = new ≡ record old { left = old.left - old.rate * (now - old.updated); updated = now }
