use Rattle.link_flights.proofs.Common.{take, AllZip, in_flight, IsReadAs}
use Rattle.link_flights.proofs.flight_list.Flights.read.Given as goal

abbrev pub invariant-loop-at : goal.invariant-loop-at
invariant-loop-at g l = AllZip (IsReadAs g.P.Ord.cmp) (take l.at (in_flight l.self)) l.readings.items
