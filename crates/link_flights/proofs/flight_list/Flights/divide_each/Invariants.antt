use Rattle.link_flights.proofs.Common.{◌≡◌, IsChangedUpTo, IsCountedBy}
use Rattle.link_flights.proofs.flight_list.Flights.divide_each.Given as goal

abbrev pub invariant-loop-at : goal.invariant-loop-at
invariant-loop-at g l =
    IsChangedUpTo (IsCountedBy l.by) l.initial.self.list.items l.self.list.items l.at
    × (l.self.at ≡ l.initial.self.at)
    × (l.self.scale ≡ l.initial.self.scale)
    × (l.self.floor ≡ l.initial.self.floor)
    × (l.self.rated_anew ≡ l.initial.self.rated_anew)
    × (l.self.list.before ≡ l.initial.self.list.before)
