use Rattle.link_flights.proofs.Common.{◌≡◌, ◌-◌, ◌+◌, [], length, AreNoted, AreStillTied, caps_of}
use Rattle.link_flights.proofs.Flights.Search.{HasGrown}
use Rattle.link_flights.proofs.flight_list.Flights.grow.Given as goal

abbrev pub invariant-loop-next : goal.invariant-loop-next
invariant-loop-next g l =
    HasGrown g.P.Ord.cmp l.self.list.items l.self.floor l.next l.initial.component l.component
    × AreNoted l.component.near.items l.noted.items × (length l.noted.items ≡ length l.self.list.items)
    × AreStillTied (caps_of g.P.Ord.cmp l.peers.entries []) l.initial.component l.component

abbrev pub decreases-loop-next : goal.decreases-loop-next
decreases-loop-next g l = 48 + length l.self.list.items - l.next
