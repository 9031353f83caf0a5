use Rattle.link_flights.proofs.Common.{MatchOption}
use Rattle.std.specs.Prelude.{◌≤◌, IfSome}
use Rattle.link_flights.proofs.flight_list.Flights.level.Given as goal

abbrev pub invariant-loop-at : goal.invariant-loop-at
invariant-loop-at g l = IfSome l.self.floor (λ floor. MatchOption l.level ⊥ (λ level. level ≤ floor))

abbrev pub invariant-loop-message : goal.invariant-loop-message
invariant-loop-message g l = IfSome l.self.floor (λ floor. MatchOption l.level ⊥ (λ level. level ≤ floor))
