use Rattle.link_flights.proofs.Common.{◌≡◌, [], List, map, side_of, caps_of, Component, is_of, places_of, flight_at}
use Rattle.link_flights.proofs.Common.{in_units, left_caps, flows_of, link_subject}
use Rattle.link_pairs.specs.Pairs.PeerCaps.{PeerCaps}
use Rattle.link_flights.proofs.Flights.AllSides.{HaveAdded}
use Rattle.link_flights.proofs.flight_list.Flights.add_links.Given as goal

abbrev pub invariant-loop-number : goal.invariant-loop-number
invariant-loop-number g l = (component : Component g.row.P.Denot) (peers : List (PeerCaps g.row.P.Denot))
    → l.places ≡ places_of (λ f. is_of g.P.Ord.cmp component (flight_at 0 f)) 0 l.self.list.items
    → HaveAdded g.P.Ord.cmp
    (left_caps g.P.Ord.cmp (caps_of g.P.Ord.cmp peers l.pairs.entries) l.self.scale component (in_units l.self))
    (flows_of g.P.Ord.cmp component (in_units l.self)) link_subject
    (map side_of l.initial.sides.items) (map side_of l.sides.items) [] l.number
