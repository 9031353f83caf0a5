use Rattle.link_flights.proofs.Common.{◌≡◌, ◌*◌, Bool, Option, Some, ℕ, slice_get, sym, ap, ap₂, ◌∙◌, option_map}
use Rattle.link_flights.proofs.Common.{unwrap_or, get_or_from_slice_get, slice_get_within, caps_of, Flight, is_of}
use Rattle.link_flights.proofs.Common.{places_of, flight_at, in_units, left_of, flow_sent, link_subject}
use Rattle.fairness.specs.Sides.Alone.{least_of}
use Rattle.link_flights.proofs.Flights.AllSides.{link_left}
use Rattle.link_flights.proofs.Flights.OnlyRated.{only_beside}
use Rattle.link_flights.proofs.Flights.Sides.{place_is_of, those_at}
use Rattle.link_flights.proofs.flight_list.Flights.left_for.Goals as goal

pub at-requires : goal.at-requires
at-requires g c =
    let list = c.args.self.now.list.items in
    let rated : Flight g.row.P.Denot → Bool = λ f. is_of g.P.Ord.cmp c.args.component.now (flight_at 0 f) in
    let p =
    place_is_of rated list 0 c.args.at (ap (λ ps. slice_get ps 0) (sym c.requires.places ∙ c.requires.only)) in
    slice_get_within list c.args.at p.x p.there

pub returns-clause-fair : goal.returns-clause-fair
returns-clause-fair g c =
    let cmp = g.P.Ord.cmp in
    let order = g.met.P.Ord.total in
    let self = c.args.self.now in
    let list = self.list.items in
    let component = c.args.component.now in
    let us = in_units self in
    let pairs = c.args.pairs.now.entries in
    let caps = caps_of cmp c.args.peers.now.entries pairs in
    let rated : Flight g.row.P.Denot → Bool = λ f. is_of cmp component (flight_at 0 f) in
    let placed : slice_get (places_of rated 0 list) 0 ≡ Some c.args.at =
    ap (λ ps. slice_get ps 0) (sym c.requires.places ∙ c.requires.only) in
    let p = place_is_of rated list 0 c.args.at placed in
    let m = p.x.message.value in
    let s = link_subject (flow_sent cmp m) in
    let is : c.at.result.now ≡ p.x = c.at.ensures ∙ get_or_from_slice_get list c.args.at p.x c.at.result.now p.there in
    let cap_is : c.cap.result ≡ caps.link m.origin m.recipient =
    c.cap.ensures.cap
    ∙ ap (λ m. caps.link m.origin c.deref-2.result.now.recipient)
    (c.deref.ensures ∙ ap (λ (f : Flight _). f.message.value) is)
    ∙ ap (λ n. caps.link m.origin n.recipient) (c.deref-2.ensures ∙ ap (λ (f : Flight _). f.message.value) is) in
    let whole : left_of cmp caps self.scale component us s ≡ option_map (λ cap. cap * self.scale) c.cap.result =
    link_left cmp order caps self.scale component us c.requires.one_each 0 (flight_at self.at p.x)
    (those_at cmp component list self.at 0 c.args.at p.x placed p.there) c.cap.result (sym cap_is) in
    let between = c.in_ok-between.ensures.units ∙ sym whole in
    only_beside cmp caps self.scale component list self.at c.args.at p.x (sym c.requires.places ∙ c.requires.only) p.there
    c.unwrap_or.result
    (c.unwrap_or.ensures ∙ ap (unwrap_or c.least.result) c.from_u64-none.ensures
    ∙ ap (λ (o : Option ℕ). unwrap_or o 0)
    (c.least.ensures ∙ ap₂ least_of (c.in_ok-ends.ensures.left p.x pairs p.there) between))
