use Rattle.link_flights.proofs.Common.{arith}
use Rattle.link_flights.proofs.Flights.Listed.{ascends_by_pairs}
use Rattle.link_flights.proofs.component.ascend.Goals as goal

pub returns : goal.returns
returns c so =
    let places = c.args.places.now in
    ascends_by_pairs 0 places (λ some. omega arith)
    (λ k inside. c.loop-next.invariant k (omega (arith, inside, c.loop-next-test.false)))
