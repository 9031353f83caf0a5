use Rattle.link_flights.proofs.Flights.Noted.{AreListedUpTo}
use Rattle.link_flights.proofs.component.list_again.Given as goal

abbrev pub invariant-loop-at : goal.invariant-loop-at
invariant-loop-at l = AreListedUpTo l.noted l.at l.places.items
