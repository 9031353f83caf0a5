use Rattle.link_flights.proofs.Common.{◌≡◌, ◌<◌, gcd}
use Rattle.link_flights.proofs.flight.common_factor.Given as goal

abbrev pub invariant-loop-rest : goal.invariant-loop-rest
invariant-loop-rest l = (gcd l.last l.rest ≡ gcd l.fn.first l.fn.second) × (0 < l.last)

abbrev pub decreases-loop-rest : goal.decreases-loop-rest
decreases-loop-rest l = l.rest
