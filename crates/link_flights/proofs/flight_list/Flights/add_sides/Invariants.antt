use Rattle.link_flights.proofs.Common.{◌≡◌, List, map, length, side_of, caps_of, Pair, in_units, left_caps, flows_of}
use Rattle.link_flights.proofs.Common.{end_subject}
use Rattle.link_flights.proofs.Flights.AllSides.{HaveAdded}
use Rattle.link_flights.proofs.flight_list.Flights.add_sides.Given as goal

abbrev pub invariant-loop-number : goal.invariant-loop-number
invariant-loop-number g l = record {
  added : (pairs : List (Pair g.row.P.Denot)) → HaveAdded g.P.Ord.cmp
      (left_caps g.P.Ord.cmp (caps_of g.P.Ord.cmp l.peers.entries pairs) l.self.scale l.component (in_units l.self))
      (flows_of g.P.Ord.cmp l.component (in_units l.self)) (end_subject l.end)
      (map side_of l.initial.sides.items) (map side_of l.sides.items) l.has_side.items l.number;
  each : length l.has_side.items ≡ length l.places;
}
