-- How the messages in flight are read.
use Rattle.std.specs.Prelude.{ℕ, List, map}
use Rattle.std.specs.Prelude.{Some, ◌*◌}
use Rattle.link_flights.specs.Flights.Flight.{UnitFlight}
use Rattle.fairness.specs.Numbers.Amount.{reduced, billion}
use Rattle.link_pairs.specs.Pairs.Messages.{message_of}
use Rattle.link_simulation.specs.Rule.Planned.{RatedFlight}

-- a message in flight. A rate is so many units of which `scale` are one byte a second, and what is left so many of
-- which as many billions are one byte
abbrev pub rated_flight_of : {P : Type 0} → ℕ → UnitFlight P → RatedFlight P
rated_flight_of scale u = record {
  id = u.id;
  message = message_of u.message;
  left = reduced u.left (scale * billion);
  rate = Some (reduced u.rate scale);
  updated = u.updated;
}

-- the messages in flight
abbrev pub sending_of : {P : Type 0} → ℕ → List (UnitFlight P) → List (RatedFlight P)
sending_of scale us = map (rated_flight_of scale) us
