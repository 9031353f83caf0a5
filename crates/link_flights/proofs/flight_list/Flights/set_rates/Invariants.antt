use Rattle.link_flights.proofs.Common.{◌≡◌, product, rates_of_levels}
use Rattle.link_flights.proofs.Flights.Rerating.{IsSoFar}
use Rattle.link_flights.proofs.flight_list.Flights.set_rates.Given as goal

abbrev pub invariant-loop-number : goal.invariant-loop-number
invariant-loop-number g l =
    IsSoFar g.P.Ord.cmp l.component (product l.growth) (rates_of_levels l.levels l.level_of) l.were_timed
    l.initial.self.at l.initial.self.scale l.initial.self.list.items l.self l.number
    × (l.self.list.before ≡ l.initial.self.list.before)
