use Rattle.link_flights.proofs.Common.{length, ◌<◌, IfSome}
use Rattle.link_flights.proofs.Flights.Search.{behind}
use Rattle.link_flights.proofs.flight_list.Flights.count_sharing.Given as goal

abbrev pub invariant-loop-next : goal.invariant-loop-next
invariant-loop-next g l = IfSome l.next (λ at. at < length l.self.list.items)

abbrev pub decreases-loop-next : goal.decreases-loop-next
decreases-loop-next g l = behind l.self.list.items l.next
