use Rattle.link_flights.proofs.Common.{◌≡◌, [], length, AreNoted, AreStillTied, caps_of}
use Rattle.link_flights.proofs.Flights.Search.{HasJoinedAll, behind}
use Rattle.link_flights.proofs.flight_list.Flights.join_end.Given as goal

abbrev pub invariant-loop-next : goal.invariant-loop-next
invariant-loop-next g l =
    HasJoinedAll g.P.Ord.cmp l.end l.message l.self.list.items l.next l.initial.component l.component
    × AreNoted l.component.near.items l.noted.items × (length l.noted.items ≡ length l.initial.noted.items)
    × AreStillTied (caps_of g.P.Ord.cmp l.peers.entries []) l.initial.component l.component

abbrev pub decreases-loop-next : goal.decreases-loop-next
decreases-loop-next g l = behind l.self.list.items l.next
