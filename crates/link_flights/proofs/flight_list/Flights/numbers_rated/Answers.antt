use Rattle.link_flights.proofs.Flights.Numbered.{anew_in_order, anew_within}
use Rattle.link_flights.proofs.flight_list.Flights.numbers_rated.Goals as goal

pub of-requires : goal.of-requires
of-requires g c =
    let cmp = g.P.Ord.cmp in
    let list = c.args.self.now.list.items in
    record {
      order = anew_in_order cmp c.args.component.now list c.in_ok-places.places.items c.in_ok-places.ensures.places;
      within = anew_within cmp c.args.component.now list c.in_ok-places.places.items c.in_ok-places.ensures.places
          c.len.result c.len.ensures;
    }
