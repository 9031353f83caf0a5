use Rattle.link_flights.proofs.Common.{◌≡◌, ◌+◌, ◌-◌, ◌*◌, ◌++◌, ◌∷◌, [], true, Bool, Some, get_or, slice_get, length}
use Rattle.link_flights.proofs.Common.{map, sym, ap, ◌∙◌, subst, arith, option_map, map-append, slice_get-get_or}
use Rattle.link_flights.proofs.Common.{get_or_from_slice_get, none-some, and_from, side_of, same_peer, same_peer_itself}
use Rattle.link_flights.proofs.Common.{caps_of, looked_up, Flight, is_of, places_of, flight_at, in_units, left_caps}
use Rattle.link_flights.proofs.Common.{flows_of, flow_sent, link_subject, kept_load}
use Rattle.link_flights.proofs.Flights.AllSides.{HaveAdded, of_left, cap_left, link_kind, none_there, side_added}
use Rattle.link_flights.proofs.Flights.AllSides.{sides_added, link_side}
use Rattle.link_flights.proofs.Flights.Sides.{place_is_of, flow_at, those_at, as_many}
use Rattle.link_flights.proofs.flight_list.Flights.add_links.Goals as goal
use Rattle.link_flights.proofs.flight_list.Flights.add_links.Goals.{in-Some+in_ok-cap+in_ok-push+in_ok-push-2, in_default}

pub returns-clause-adds : goal.returns-clause-adds
returns-clause-adds g c component peers places =
    let cmp = g.P.Ord.cmp in
    let order = g.met.P.Ord.total in
    let self = c.args.self.now in
    let us = in_units self in
    let caps = caps_of cmp peers c.args.pairs.now.entries in
    let of = of_left cmp order caps (looked_up cmp order peers c.args.pairs.now.entries) self.scale component us in
    sides_added cmp order (left_caps cmp caps self.scale component us) of (flows_of cmp component us) link_subject
    (link_kind cmp) (map side_of c.args.sides.now.items) (map side_of c.loop-number.sides.items) [] c.loop-number.number
    (c.loop-number.invariant component peers places)
    (omega (arith, c.loop-number-test.false, as_many cmp component self.list.items self.at, ap length places))

pub loop-number-preserved : goal.loop-number-preserved
loop-number-preserved g c component peers places =
    let cmp = g.P.Ord.cmp in
    let order = g.met.P.Ord.total in
    let self = c.args.self.now in
    let us = in_units self in
    let caps = caps_of cmp peers c.args.pairs.now.entries in
    let of = of_left cmp order caps (looked_up cmp order peers c.args.pairs.now.entries) self.scale component us in
    let left = left_caps cmp caps self.scale component us in
    let number = c.loop-number.number in
    let at = get_or c.args.places.now number 0 in
    let rated : Flight g.row.P.Denot → Bool = λ f. is_of cmp component (flight_at 0 f) in
    let placed : slice_get (places_of rated 0 self.list.items) number ≡ Some at =
    subst (λ ps. slice_get ps number ≡ Some at) places (slice_get-get_or c.args.places.now number 0 c.loop-number-test.true) in
    let p = place_is_of rated self.list.items number at placed in
    let u = flight_at self.at p.x in
    let there = flow_at cmp component self.list.items self.at number at p.x placed p.there in
    let is : c.at.result.now ≡ p.x =
    c.at.ensures ∙ get_or_from_slice_get self.list.items at p.x c.at.result.now p.there in
    let cap_is : c.cap.result ≡ caps.link u.message.origin u.message.recipient =
    c.cap.ensures.cap
    ∙ ap (λ m. caps.link m.origin c.deref-in-loop-number.result.now.recipient)
    (c.deref.ensures ∙ ap (λ (f : Flight _). f.message.value) is)
    ∙ ap (λ m. caps.link u.message.origin m.recipient)
    (c.deref-in-loop-number.ensures ∙ ap (λ (f : Flight _). f.message.value) is) in
    let before = c.loop-number.invariant component peers places in
    let olds = map side_of c.args.sides.now.items in
    let sides = map side_of c.loop-number.sides.items in
    elim c.match-cap.branch [
      | in-Some+in_ok-cap+in_ok-push+in_ok-push-2 w ↦
          let has : caps.link u.message.origin u.message.recipient ≡ Some w.in-Some.cap = sym cap_is ∙ w.in-Some.is in
          let pushed : map side_of c.match-cap.sides.items
          ≡ sides ++ record { cap = w.in_ok-cap.cap; users = w.push.new.self.items } ∷ [] =
          ap (λ v. map side_of v.items) w.sides-is ∙ ap (map side_of) w.in_ok-push-2.ensures.items
          ∙ map-append side_of c.loop-number.sides.items _ in
          subst (λ v. HaveAdded cmp left (flows_of cmp component us) link_subject olds v [] (number + 1)) (sym pushed)
          (side_added cmp order left of (flows_of cmp component us) link_subject (link_kind cmp) olds sides [] number before
          (flow_sent cmp p.x.message.value) there
          (and_from (same_peer cmp u.message.origin u.message.origin) (same_peer cmp u.message.recipient u.message.recipient)
          (same_peer_itself cmp order u.message.origin) (same_peer_itself cmp order u.message.recipient))
          (record { cap = w.in_ok-cap.cap; users = w.push.new.self.items })
          (link_side cmp order caps self.scale component us c.requires.one_each number u
          (those_at cmp component self.list.items self.at number at p.x placed p.there) w.in-Some.cap has
          (record { cap = w.in_ok-cap.cap; users = w.push.new.self.items })
          (omega (arith, w.in_ok-cap.ensures.value)) (w.in_ok-push.ensures.items ∙ ap (λ users. users ++ number ∷ []) w.take_list-users.ensures))
          [] (λ k marked. absurd (none-some true marked)))
      | in_default w ↦
          let m = p.x.message.value in
          let s = link_subject (flow_sent cmp m) in
          subst (λ v. HaveAdded cmp left (flows_of cmp component us) link_subject olds (map side_of v) [] (number + 1))
          (sym (ap (λ v. v.items) w.sides-is))
          (none_there cmp order left of (flows_of cmp component us) link_subject (link_kind cmp) olds sides [] number before
          (flow_sent cmp m) there
          (λ l. cap_left cmp caps self.scale component us s
          ∙ ap (option_map (λ cap. cap * self.scale - kept_load cmp component us s)) (sym cap_is ∙ w.in_default.is)))
    ]
