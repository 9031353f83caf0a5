use Rattle.link_flights.proofs.Flights.LargerUnits.{IsFactorUpTo}
use Rattle.link_flights.proofs.flight_list.Flights.shared_factor.Given as goal

abbrev pub invariant-loop-at : goal.invariant-loop-at
invariant-loop-at g l = IsFactorUpTo l.self.scale l.self.list.items l.at l.by
