use Rattle.link_flights.proofs.Common.{◌<◌, All, map, length, sym, ap, ◌∙◌, subst, arith, get_or, slice_index}
use Rattle.link_flights.proofs.Common.{slice_get-get_or, limits, contains_from_in, in_map, in_get, side_of, caps_of}
use Rattle.link_flights.proofs.Common.{looked_up, in_units, left_caps, flows_of, flow_in_flight, length-map, those_of}
use Rattle.link_flights.proofs.Common.{rates_found, places_below, flow_parts}
use Rattle.fairness.proofs.Fairness.ByMembers.{fair_of_members}
use Rattle.link_flights.proofs.Flights.AllSides.{of_left, parts_found}
use Rattle.link_flights.proofs.Flights.Components.{fair_alike}
use Rattle.link_flights.proofs.Flights.Sides.{as_many}
use Rattle.link_flights.proofs.flight_list.Flights.rates_at.Goals as goal

pub fair_parts_in-requires : goal.fair_parts_in-requires
fair_parts_in-requires g c = record {
  users = λ k d low i e within.
      let cmp = g.P.Ord.cmp in
      let self = c.args.self.now in
      let component = c.args.component.now in
      let sides = c.in_ok-sides.sides.items in
      let side = get_or sides k d in
      let flows = flows_of cmp component (in_units self) in
      let d = (c.in_ok-sides.ensures.sides (side_of side)).0
      (contains_from_in (map side_of sides) (side_of side) (in_map side_of sides side (in_get sides k side (slice_get-get_or sides k d low)))) in
      let below : get_or side.users.items i e < length flows =
      subst (All (λ user. user < length flows)) (sym d.users)
      (places_below (limits cmp d.subject) flows (length flows) (omega arith)) i e within in
      omega (arith, below, as_many cmp component self.list.items self.at, ap length (c.places-count.ensures ∙ c.requires.places));
}

pub returns-clause-fair : goal.returns-clause-fair
returns-clause-fair g c =
    let cmp = g.P.Ord.cmp in
    let order = g.met.P.Ord.total in
    let self = c.args.self.now in
    let component = c.args.component.now in
    let us = in_units self in
    let peers = c.args.peers.now.entries in
    let pairs = c.args.pairs.now.entries in
    let caps = caps_of cmp peers pairs in
    let of = of_left cmp order caps (looked_up cmp order peers pairs) self.scale component us in
    let found = c.in_ok-found.found in
    let filled = c.in_ok-found.ensures.filled in
    record {
      grown = filled.grown;
      one_each = filled.one_each ∙ ap length (c.places-count.ensures ∙ c.requires.places) ∙ sym (as_many cmp component self.list.items self.at)
          ∙ length-map (those_of cmp component us) (flow_in_flight cmp);
      fair = fair_of_members cmp order (left_caps cmp caps self.scale component us) of (flows_of cmp component us)
          (map side_of c.in_ok-sides.sides.items) c.in_ok-sides.ensures.sides found.scale (slice_index (rates_found found))
          (fair_alike (flow_parts found.levels.items found.level_of.items) (slice_index (rates_found found))
          (parts_found found.levels.items found.level_of.items) (map side_of c.in_ok-sides.sides.items) found.scale
          filled.fair);
    }
