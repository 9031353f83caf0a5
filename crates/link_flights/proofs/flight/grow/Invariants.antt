use Rattle.link_flights.proofs.Common.{◌≡◌, ◌*◌, take, product}
use Rattle.link_flights.proofs.flight.grow.Given as goal

abbrev pub invariant-loop-factor : goal.invariant-loop-factor
invariant-loop-factor l = l.units ≡ l.initial.units * product (take l.factor-index l.growth)
