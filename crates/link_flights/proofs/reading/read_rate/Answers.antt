use Rattle.link_flights.proofs.Common.{◌≡◌, refl, sym, ap, ◌∙◌, arith, if◌then◌else◌, reduced, flight_at, Amount}
use Rattle.link_flights.proofs.Flights.ShortTerms.{exact_reading}
use Rattle.link_flights.proofs.Flights.Units.{no_units}
use Rattle.link_flights.proofs.reading.read_rate.Goals as goal

-- without a rate none is at any

pub returns-clause-read : goal.returns-clause-read
returns-clause-read g c =
    let f = c.args.flight.now in
    let none : (flight_at 0 f).rate ≡ 0 = ap (λ b. if b then f.rate else 0) c.if-flight.false in
    let top : c.zero.result.numerator ≡ 0 = ap (λ (a : Amount). a.num) c.zero.ensures in
    let bottom : c.zero.result.denominator ≡ 1 = ap (λ (a : Amount). a.den) c.zero.ensures in
    exact_reading _ _ refl
    (c.zero.ensures ∙ sym (ap (λ n. reduced n c.args.scale.now) none ∙ no_units c.args.scale.now c.requires))
    (omega arith) (omega arith)
