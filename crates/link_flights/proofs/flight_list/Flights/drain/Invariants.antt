use Rattle.link_flights.proofs.Common.{◌≡◌, IsChangedUpTo}
use Rattle.link_flights.proofs.Flights.Flight.{IsBrought}
use Rattle.link_flights.proofs.flight_list.Flights.drain.Given as goal

abbrev pub invariant-loop-at : goal.invariant-loop-at
invariant-loop-at g l =
    IsChangedUpTo (IsBrought l.initial.self.at l.now) l.initial.self.list.items l.self.list.items l.at
    × (l.self.at ≡ l.initial.self.at)
    × (l.self.scale ≡ l.initial.self.scale)
    × (l.self.list.before ≡ l.initial.self.list.before)
    × (l.self.floor ≡ l.initial.self.floor)
    × (l.self.loose ≡ l.initial.self.loose)
