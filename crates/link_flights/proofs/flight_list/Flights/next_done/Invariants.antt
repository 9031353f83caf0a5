use Rattle.link_flights.proofs.Common.{flight_at, PassesNowhere, is_out, caps_of}
use Rattle.link_flights.proofs.flight_list.Flights.next_done.Given as goal

abbrev pub invariant-loop-at : goal.invariant-loop-at
invariant-loop-at g l =
    PassesNowhere (λ one. is_out g.P.Ord.cmp (caps_of g.P.Ord.cmp l.peers.entries l.pairs.entries) l.self.scale
    (flight_at l.self.at one)) l.self.list.items l.from l.at
