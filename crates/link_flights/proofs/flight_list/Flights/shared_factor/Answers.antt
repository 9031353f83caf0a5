use Rattle.link_flights.proofs.Common.{arith, subst, IsGcd}
use Rattle.link_flights.proofs.Flights.LargerUnits.{divides_whole, next_factor}
use Rattle.link_flights.proofs.flight_list.Flights.shared_factor.Goals as goal

pub loop-at-init : goal.loop-at-init
loop-at-init g c =
    let by = c.common_factor-by.result in
    record {
      some = c.common_factor-by.ensures.some;
      units =
          divides_whole _ c.args.self.now.scale by
          (subst (λ n. IsGcd _ n by) c.remainder.ensures c.common_factor-by.ensures.greatest);
      so_far = λ i f lt there. absurd (omega arith);
    }

pub loop-at-preserved : goal.loop-at-preserved
loop-at-preserved g c =
    let next = c.factor_of-by.result in
    next_factor c.args.self.now.scale c.args.self.now.list.items c.loop-at.at c.loop-at.by next c.at.result.now
    c.loop-at.invariant (omega arith) c.at.ensures c.factor_of-by.ensures.part
    c.factor_of-by.ensures.factor
