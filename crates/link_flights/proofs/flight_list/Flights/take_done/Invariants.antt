use Rattle.link_flights.proofs.Common.{◌≡◌, ℕ, length, AreTimed, flight_at, in_units, is_out, IsNoMore, message_of}
use Rattle.link_flights.proofs.Common.{messages, caps_of}
use Rattle.link_flights.proofs.Flights.InFlight.{HaveLeft}
use Rattle.link_flights.proofs.Flights.Floors.{AreOver}
use Rattle.link_flights.proofs.Flights.Leaving.{StayRated}
use Rattle.link_flights.proofs.flight_list.Flights.take_done.Given as goal

abbrev pub invariant-loop-next : goal.invariant-loop-next
invariant-loop-next g l =
    HaveLeft (λ f. message_of f.message.value)
    (λ f. is_out g.P.Ord.cmp (caps_of g.P.Ord.cmp l.peers.entries l.pairs.entries) l.initial.self.scale
    (flight_at l.initial.self.at f)) l.initial.self.list.items l.self.list.items (messages l.done.items) l.at
    × (l.self.scale ≡ l.initial.self.scale)
    × (l.self.at ≡ l.initial.self.at)
    × (AreTimed l.initial.self.list.items → AreTimed l.self.list.items)
    × StayRated g.P.Ord.cmp (caps_of g.P.Ord.cmp l.peers.entries l.pairs.entries) (in_units l.initial.self)
    (in_units l.self)
    × AreOver (λ f. is_out g.P.Ord.cmp (caps_of g.P.Ord.cmp l.peers.entries l.pairs.entries) l.initial.self.scale
    (flight_at l.initial.self.at f)) l.self.floor l.initial.self.list.items l.self.list.items l.at
    × (l.self.list.before ≡ l.initial.self.list.before)
    × ((rate : ℕ) → IsNoMore l.initial.self.floor rate → IsNoMore l.self.floor rate)
    × (l.self.loose ≡ l.initial.self.loose)

abbrev pub decreases-loop-next : goal.decreases-loop-next
decreases-loop-next g l = length l.self.list.items
