use Rattle.link_flights.proofs.Common.{◌≡◌, Some, slice_get, Flight}
use Rattle.link_flights.proofs.Flights.Search.{behind}
use Rattle.link_flights.proofs.Flights.Sides.{HasCounted}
use Rattle.link_flights.proofs.flight_list.Flights.side_at.Given as goal

abbrev pub invariant-loop-next : goal.invariant-loop-next
invariant-loop-next g l = (one : Flight g.row.P.Denot) → slice_get l.self.list.items l.at ≡ Some one
    → HasCounted g.P.Ord.cmp l.end one.message.value l.component l.self.at l.self.list.items l.initial.left l.next
    (record { cap = l.left; users = l.users.items })

abbrev pub decreases-loop-next : goal.decreases-loop-next
decreases-loop-next g l = behind l.self.list.items l.next
