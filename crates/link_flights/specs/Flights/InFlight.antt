-- What is in flight, as it is kept.
use Rattle.std.specs.Prelude.{◌≡◌, ℕ, ◌<◌, ◌≤◌, Bool, true, false, List, [], ◌∷◌, ◌++◌, length, map, slice_index_or}
use Rattle.std.specs.Prelude.{Option, Some, None}
use Rattle.fairness.specs.Numbers.Amount.{whole}
use Rattle.link_pairs.specs.declared.message.Message as code
use Rattle.link_pairs.specs.Pairs.Messages.{message_of}
use Rattle.link_flights.specs.declared.flight_list.Flights.{Flights}
use Rattle.link_flights.specs.declared.flight_list.Mark.{Mark}
use Rattle.link_simulation.specs.Simulation.Messages.{Message}
use Rattle.link_simulation.specs.Rule.Planned.{RatedFlight}
use Rattle.link_flights.specs.Flights.Flight.{UnitFlight, flights_at, AreTimed}
use Rattle.link_flights.specs.Flights.RatedFlights.{rated_flight_of, sending_of}

-- the messages in flight in units, as they stand at the last account
abbrev pub in_units : {P : Type 0} {a : _} {b : _} {c : _} → Flights P a b c → List (UnitFlight P)
in_units flights = flights_at flights.at flights.list.items

-- the messages in flight, as they are kept
abbrev pub in_flight : {P : Type 0} {a : _} {b : _} {c : _} → Flights P a b c → List (RatedFlight P)
in_flight flights = sending_of flights.scale (in_units flights)

-- the messages that are loose
abbrev pub loose_in : {P : Type 0} {a : _} {b : _} {c : _} → Flights P a b c → List (Message P)
loose_in flights = map (λ m. message_of m) flights.loose

-- all beside the list stands so
pub record IsMarkOf {P : Type 0} {a : _} {b : _} {c : _} (flights : Flights P a b c) (mark : Mark P) : Type 0 where
  pub scale : mark.scale ≡ flights.scale
  pub at : mark.at ≡ flights.at
  pub floor : mark.floor ≡ flights.floor
  pub loose : mark.loose ≡ flights.loose
  pub counted : mark.rated_anew ≡ flights.rated_anew
  pub settled : mark.settled ≡ flights.settled
  pub unsearched : mark.unsearched ≡ flights.unsearched
  pub stood : mark.stood ≡ flights.stood

-- with that mark they can be taken back to flights that stood so
abbrev pub CanBeTakenBack : {P : Type 0} {a : _} {b : _} {c : _} → Flights P a b c → Mark P → Type 0
CanBeTakenBack {P} {a} {b} {c} old mark =
    (flights : Flights P a b c) × IsMarkOf flights mark × (old.list.before ≡ flights.list.items)

-- they are what they were at that mark, where they had been committed
abbrev pub IsTakenBack : {P : Type 0} {a : _} {b : _} {c : _} → Flights P a b c → Mark P → Flights P a b c → Type 0
IsTakenBack {P} {a} {b} {c} old mark new = (flights : Flights P a b c) → IsMarkOf flights mark
    → flights.list.items ≡ flights.list.before → old.list.before ≡ flights.list.before → new ≡ flights

-- a message is in flight under that id from a moment on, with no rate yet, and the others are as they were
pub record Joins {P : Type 0} {a : _} {b : _} {c : _} (id now : ℕ) (m : code.Message P) (old new : Flights P a b c)
    : Type 0 where
  pub unit : UnitFlight P
  pub joins : in_units new ≡ in_units old ++ unit ∷ []
  pub is : rated_flight_of new.scale unit
      ≡ record { id = id; message = message_of m; left = whole (length m.bytes); rate = Some (whole 0); updated = now }
  pub unrated : unit.rated ≡ false
  pub scale : new.scale ≡ old.scale
  pub floor : new.floor ≡ old.floor
  pub loose : new.loose ≡ old.loose
  pub at : new.at ≡ old.at
  pub timed : AreTimed old.list.items → AreTimed new.list.items

-- a test passes at no place from one on up to another
abbrev pub PassesNowhere : {X : Type 0} → (X → Bool) → List X → ℕ → ℕ → Type 0
PassesNowhere {X} test xs from to = (i : ℕ) → from ≤ i → i < to → (d : X) → test (slice_index_or xs i d) ≡ false

-- a place is the first from one on at which a test passes
pub record PassesFirstAt {X : Type 0} (test : X → Bool) (xs : List X) (from at : ℕ) : Type 0 where
  pub low : from ≤ at
  pub high : at < length xs
  pub before : PassesNowhere test xs from at
  pub here : (d : X) → test (slice_index_or xs at d) ≡ true

-- the first place from one on at which a test passes, if there is any
abbrev pub IsNextPlace : {X : Type 0} → (X → Bool) → List X → ℕ → Option ℕ → Type 0
IsNextPlace test xs from None = PassesNowhere test xs from (length xs)
IsNextPlace test xs from (Some at) = PassesFirstAt test xs from at

-- a place, or the end of the list where there is none
abbrev pub or_end : {X : Type 0} → Option ℕ → List X → ℕ
or_end None xs = length xs
or_end (Some at) xs = at
