use Rattle.link_flights.proofs.Common.{◌≡◌, take, filter, touches, places_of}
use Rattle.link_flights.proofs.Flights.Sides.{anew_there}
use Rattle.link_flights.proofs.flight_list.Flights.places_rated.Given as goal

abbrev pub invariant-loop-number : goal.invariant-loop-number
invariant-loop-number g l =
    l.places.items ≡ filter (anew_there g.P.Ord.cmp l.component l.self.list.items)
    (take l.number (places_of (λ f. touches g.P.Ord.cmp l.component f.message.value) 0 l.self.list.items))
