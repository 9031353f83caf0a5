use Rattle.link_flights.proofs.Common.{◌∣◌, subst, IsGcd, dvd_trans}
use Rattle.link_flights.proofs.Flights.LargerUnits.{divides_whole}
use Rattle.link_flights.proofs.flight.Flight.factor_of.Goals as goal

pub returns-clause-part : goal.returns-clause-part
returns-clause-part g c =
    dvd_trans c.common_factor.result c.common_factor.ensures.greatest.0 c.common_factor-shared.ensures.greatest.0

pub returns-clause-factor : goal.returns-clause-factor
returns-clause-factor g c =
    let f = c.args.self.now in
    let shared = c.common_factor-shared.result in
    let by = c.common_factor.result in
    let of_left : shared ∣ f.left =
    divides_whole c.args.most f.left shared
    (subst (λ n. IsGcd c.args.most n shared) c.remainder.ensures c.common_factor-shared.ensures.greatest) in
    record {
      some = c.common_factor.ensures.some;
      left = dvd_trans by c.common_factor.ensures.greatest.0 of_left;
      rate = subst (λ rate. by ∣ rate) {x = c.number.result.now} {y = f.rate} c.number.ensures (divides_whole shared c.number.result.now by
          (subst (λ n. IsGcd shared n by) c.remainder-2.ensures c.common_factor.ensures.greatest));
    }
