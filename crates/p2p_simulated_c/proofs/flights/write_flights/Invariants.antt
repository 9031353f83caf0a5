use Rattle.p2p_simulated_c.proofs.Common.{◌≡◌, ◌++◌, take, drop, map, flight_of}
use Rattle.p2p_simulated_c.proofs.flights.write_flights.Given as goal

-- the records so far stand in front of what was there
abbrev pub invariant-loop-index : goal.invariant-loop-index
invariant-loop-index l = l.out ≡ take l.index (map flight_of l.readings) ++ drop l.index l.fn.out
