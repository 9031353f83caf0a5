use Rattle.link_flights.proofs.Common.{◌*◌, get_or, take, ap, sym, ◌∙◌, arith, mul_assoc, product}
use Rattle.link_flights.proofs.Flights.Units.{product-take}
use Rattle.link_flights.proofs.flight.grow.Goals as goal

pub loop-factor-preserved : goal.loop-factor-preserved
loop-factor-preserved c =
    let factor = get_or c.args.growth.now c.loop-factor.factor-index 0 in
    let so_far = product (take c.loop-factor.factor-index c.args.growth.now) in
    c.in_ok-multiply.ensures.value ∙ ap (λ n. n * factor) c.loop-factor.invariant
    ∙ mul_assoc c.args.units.now so_far factor
    ∙ ap (λ k. c.args.units.now * k) (sym (product-take c.args.growth.now c.loop-factor.factor-index (omega arith)))
