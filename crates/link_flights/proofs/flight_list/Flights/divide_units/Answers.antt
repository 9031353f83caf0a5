use Rattle.link_flights.proofs.Common.{◌≡◌, ◌*◌, ◌/◌, sym, ap, ◌∙◌, subst, AllZip, flights_at, in_units}
use Rattle.link_flights.proofs.Flights.Units.{other_factor}
use Rattle.link_flights.proofs.Flights.LargerUnits.{IsLarger, times_part, larger_units, worth_as_before}
use Rattle.link_flights.proofs.Flights.LargerUnits.{timed_as_before, fair_as_before, limited_as_before, differ_as_before}
use Rattle.link_flights.proofs.flight_list.Flights.divide_units.Goals as goal

pub invariant_of-self : goal.invariant_of-self
invariant_of-self g c =
    let old = c.args.self.now in
    let mid = c.divide_each.new.self in
    let is : old.scale ≡ c.args.by * c.divide.new.self =
    times_part c.args.by old.scale c.divide.new.self c.requires.factor.units
    (c.divide.ensures.quotient ∙ ap (λ n. n / c.args.by) c.divide_each.ensures.scale) in
    record {
      past = mid.past;
      scaled = other_factor c.args.by c.divide.new.self old.scale is old.scaled;
      counted = mid.counted;
      have_rates = mid.have_rates;
    }

pub returns-clause-sending : goal.returns-clause-sending
returns-clause-sending g c =
    let old = c.args.self.now in
    let mid = c.divide_each.new.self in
    let by = c.args.by in
    let is : old.scale ≡ by * c.divide.new.self =
    times_part by old.scale c.divide.new.self c.requires.factor.units
    (c.divide.ensures.quotient ∙ ap (λ n. n / by) c.divide_each.ensures.scale) in
    let z : AllZip (IsLarger by) (in_units old) (flights_at mid.at mid.list.items) =
    subst (λ n. AllZip (IsLarger by) (in_units old) (flights_at n mid.list.items)) (sym c.divide_each.ensures.at)
    (larger_units by old.at old.list.items mid.list.items c.requires.factor.all c.in_ok-divide_each.ensures.divided) in
    sym (worth_as_before by old.scale c.divide.new.self (in_units old) (flights_at mid.at mid.list.items)
    c.requires.factor.some (other_factor by c.divide.new.self old.scale is old.scaled) is z)

pub returns-clause-rated : goal.returns-clause-rated
returns-clause-rated g c caps were =
    let cmp = g.P.Ord.cmp in
    let old = c.args.self.now in
    let mid = c.divide_each.new.self in
    let by = c.args.by in
    let is : old.scale ≡ by * c.divide.new.self =
    times_part by old.scale c.divide.new.self c.requires.factor.units
    (c.divide.ensures.quotient ∙ ap (λ n. n / by) c.divide_each.ensures.scale) in
    let z : AllZip (IsLarger by) (in_units old) (flights_at mid.at mid.list.items) =
    subst (λ n. AllZip (IsLarger by) (in_units old) (flights_at n mid.list.items)) (sym c.divide_each.ensures.at)
    (larger_units by old.at old.list.items mid.list.items c.requires.factor.all c.in_ok-divide_each.ensures.divided) in
    record {
      was = were.was;
      of_peers = were.of_peers;
      differ = differ_as_before by cmp were.was caps (in_units old) (flights_at mid.at mid.list.items) z old.loose
          mid.loose c.requires.loose old.floor mid.floor were.differ;
      fair =
          fair_as_before by cmp were.was (in_units old) (flights_at mid.at mid.list.items) z old.scale c.divide.new.self
          c.requires.factor.some (other_factor by c.divide.new.self old.scale is old.scaled) is were.fair;
      limited =
          limited_as_before by cmp caps (in_units old) (flights_at mid.at mid.list.items) z were.limited;
      timed =
          timed_as_before by old.list.items mid.list.items c.requires.factor.all c.in_ok-divide_each.ensures.divided
          were.timed;
    }
