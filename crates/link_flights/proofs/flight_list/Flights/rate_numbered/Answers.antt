use Rattle.link_flights.proofs.Common.{arith, ◌≡◌, [], refl, sym, ◌∙◌}
use Rattle.link_flights.proofs.Common.{nil_from_length, caps_of, in_units}
use Rattle.link_flights.proofs.Flights.OnlyRated.{none_beside, all_go_on, one_listed}
use Rattle.link_flights.proofs.Flights.Rerating.{all_kept}
use Rattle.link_flights.proofs.flight_list.Flights.rate_numbered.Goals as goal

pub returns-in-empty-clause-gives : goal.returns-in-empty-clause-gives
returns-in-empty-clause-gives g c =
    let cmp = g.P.Ord.cmp in
    let old = c.args.self.now in
    let component = c.args.touched.now in
    let none : c.args.numbers.now ≡ [] =
    sym c.places.ensures ∙ nil_from_length c.places.result.now (omega (arith, c.in-empty.len_below)) in (
      record {
        rates = [];
        fair = none_beside cmp (caps_of cmp c.args.peers.now.entries c.args.pairs.now.entries) old.scale component
            old.list.items old.at (sym c.requires.places ∙ none);
        reach = refl;
        given = sym (all_go_on cmp component old.at (in_units old));
        scale = refl;
        at = refl;
        timed = c.requires.timed;
      },
      all_kept old.list.items,
    )

pub rate_only-requires : goal.rate_only-requires
rate_only-requires g c = record {
  only = sym c.places.ensures ∙ one_listed c.places.result.now c.in-len1.len_at_least c.in-len1.len_below;
  places = c.requires.places;
  suited = c.requires.suited;
  left = c.requires.left;
  timed = c.requires.timed;
  one_each = c.requires.one_each;
}
