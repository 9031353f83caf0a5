use Rattle.link_flights.proofs.Common.{◌<◌, All, map, length, sym, ap, ◌∙◌, subst, side_of, caps_of, looked_up}
use Rattle.link_flights.proofs.Common.{in_units, left_caps, flows_of, end_subject, Origin, AddsSides}
use Rattle.link_flights.proofs.Flights.AllSides.{of_left, are_all}
use Rattle.link_flights.proofs.Flights.Sides.{places_within}
use Rattle.link_flights.proofs.flight_list.Flights.sides_of.Goals as goal

pub add_links-requires-clause-within : goal.add_links-requires-clause-within
add_links-requires-clause-within g c =
    subst (All (λ at. at < length c.args.self.now.list.items)) (sym (c.places.ensures ∙ c.requires.places))
    (places_within g.P.Ord.cmp c.args.component.now c.args.self.now.list.items)

pub returns-clause-sides : goal.returns-clause-sides
returns-clause-sides g c =
    let cmp = g.P.Ord.cmp in
    let order = g.met.P.Ord.total in
    let self = c.args.self.now in
    let component = c.args.component.now in
    let us = in_units self in
    let peers = c.args.peers.now.entries in
    let pairs = c.args.pairs.now.entries in
    let caps = caps_of cmp peers pairs in
    let of = of_left cmp order caps (looked_up cmp order peers pairs) self.scale component us in
    are_all cmp order (left_caps cmp caps self.scale component us) of (flows_of cmp component us)
    (map side_of c.add_sides.new.sides.items) (map side_of c.add_sides-2.new.sides.items)
    (map side_of c.add_links.new.sides.items)
    (subst (λ l. AddsSides cmp (left_caps cmp caps self.scale component us) (flows_of cmp component us) (end_subject Origin)
    l (map side_of c.add_sides.new.sides.items)) (ap (map side_of) c.clear.ensures.items)
    (c.in_ok-add_sides.ensures.adds pairs))
    (c.in_ok-add_sides-2.ensures.adds pairs) (c.in_ok-add_links.ensures.adds component peers (c.places.ensures ∙ c.requires.places))
