use Rattle.link_scheduler.proofs.Common.{refl, arith, length-map}
use Rattle.link_flights.specs.Flights.Flight.{flight_at}
use Rattle.link_flights.specs.Flights.InFlight.{in_units}
use Rattle.link_flights.specs.Flights.RatedFlights.{rated_flight_of}
use Rattle.link_scheduler.proofs.transmitter.State.rated_anew.Goals as goal

pub returns : goal.returns
returns g c =
    let flights = c.args.self.now.ledger.flights in
    record {
      counted = refl;
      at_most_all = omega (
        arith,
        flights.counted,
        length-map flights.list.items (flight_at flights.at),
        length-map (in_units flights) (rated_flight_of flights.scale),
      );
    }
