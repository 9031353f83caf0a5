use Rattle.link_flights.proofs.Common.{◌≡◌}
use Rattle.link_flights.proofs.Flights.Loose.{HasLoosened}
use Rattle.link_flights.proofs.Flights.Search.{behind}
use Rattle.link_flights.proofs.flight_list.Flights.loosen_end.Given as goal

abbrev pub invariant-loop-next : goal.invariant-loop-next
invariant-loop-next g l =
    HasLoosened g.P.Ord.cmp l.end l.peer l.initial.self l.self l.next
    × (l.self.list.before ≡ l.initial.self.list.before)

abbrev pub decreases-loop-next : goal.decreases-loop-next
decreases-loop-next g l = behind l.self.list.items l.next
