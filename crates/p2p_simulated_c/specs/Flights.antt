-- What is told of the messages in flight.
use Rattle.std.specs.Prelude.{◌≡◌, ◌⊎◌, ℕ, Bool, true, false, List, length, map}
use Rattle.std.specs.List.{AllZip}
use Rattle.std.specs.Ordering.{nat_cmp}
use Rattle.link_flights.specs.Flights.Readings.{IsReadAs}
use Rattle.link_flights.specs.declared.reading.InFlight.{InFlight}
use Rattle.link_flights.specs.declared.reading.Reading.{Reading}
use Rattle.link_scheduler.specs.Calls.State.{planned_of}
use Rattle.p2p_simulated_c.specs.Records.{wide_of}
use Rattle.p2p_simulated_c.specs.Written.{written}
use Rattle.p2p_simulated_c.specs.declared.opened.Opened.{Opened}
use Rattle.p2p_simulated_c.specs.declared.records.Amount.{Amount}
use Rattle.p2p_simulated_c.specs.declared.records.Flight.{Flight}

-- the flag that says so
abbrev pub flag_of : Bool → ℕ
flag_of true = 1
flag_of false = 0

-- the record of an amount
abbrev pub amount_read : Reading → Amount
amount_read r = record {
  numerator = wide_of r.amount.numerator;
  denominator = wide_of r.amount.denominator;
  is_exact = flag_of r.is_exact;
}

-- the record of a message in flight
abbrev pub flight_of : InFlight ℕ → Flight
flight_of f = record {
  origin = f.origin;
  recipient = f.recipient;
  channel = f.channel;
  left = amount_read f.left;
  rate = amount_read f.rate;
  since = f.since;
}

-- with status 0 each message in flight was read, in order of start, and the records of these readings were written,
-- of which there are so many; with 1 there was no memory, and nothing was written
abbrev pub TellsFlights : Opened → (status count : ℕ) → List Flight → List Flight → Type 0
TellsFlights s status count old new =
    ((status ≡ 0) × (readings : List (InFlight ℕ))
    × AllZip (IsReadAs nat_cmp) (planned_of s.state).sending readings × (count ≡ length readings)
    × (new ≡ written (map flight_of readings) old))
    ⊎ ((status ≡ 1) × (count ≡ 0) × (new ≡ old))
