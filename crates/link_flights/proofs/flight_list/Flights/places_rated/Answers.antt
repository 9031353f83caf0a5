use Rattle.link_flights.proofs.Common.{◌≡◌, ◌<◌, ◌++◌, ◌∷◌, [], Bool, Some, slice_get, length, sym, ap, ◌∙◌, arith}
use Rattle.link_flights.proofs.Common.{filter, take_all, slice_get-get_or, get_or_from_slice_get, slice_get_within}
use Rattle.link_flights.proofs.Common.{Flight, keeps, touches, places_of, those_near, flight_at}
use Rattle.link_flights.proofs.Flights.Near.{count_part, place_is}
use Rattle.link_flights.proofs.Flights.Places.{places_length}
use Rattle.link_flights.proofs.Flights.Sides.{place_is_of, anew_there, anew_places, anew_listed, kept_unlisted}
use Rattle.link_flights.proofs.flight_list.Flights.places_rated.Goals as goal
use Rattle.link_flights.proofs.flight_list.Flights.places_rated.Goals.{then-not-keeps+in_ok-push, else-not-keeps}

pub place-at-requires : goal.place-at-requires
place-at-requires g c part =
    let as_many = count_part g.P.Ord.cmp c.args.component.now c.args.self.now.list.items (c.requires.near part) in
    omega (arith, c.loop-number-test.true, c.count-number-end.ensures, as_many)

pub at-requires : goal.at-requires
at-requires g c =
    let cmp = g.P.Ord.cmp in
    let component = c.args.component.now in
    let list = c.args.self.now.list.items in
    let number = c.loop-number.number in
    let near : Flight g.row.P.Denot → Bool = λ f. touches cmp component f.message.value in
    let low : number < length (those_near cmp component list) =
    omega (arith, c.loop-number-test.true, c.count-number-end.ensures) in
    let placed : slice_get (places_of near 0 list) number ≡ Some c.place-at.result =
    slice_get-get_or (places_of near 0 list) number 0 (omega (arith, low, places_length near 0 list))
    ∙ ap Some (sym (c.place-at.ensures ∙ place_is cmp component list c.requires.near number low)) in
    let p = place_is_of near list number c.place-at.result placed in
    slice_get_within list c.place-at.result p.x p.there

pub loop-number-preserved : goal.loop-number-preserved
loop-number-preserved g c =
    let cmp = g.P.Ord.cmp in
    let component = c.args.component.now in
    let self = c.args.self.now in
    let list = self.list.items in
    let number = c.loop-number.number in
    let at = c.place-at.result in
    let near : Flight g.row.P.Denot → Bool = λ f. touches cmp component f.message.value in
    let low : number < length (those_near cmp component list) =
    omega (arith, c.loop-number-test.true, c.count-number-end.ensures) in
    let placed : slice_get (places_of near 0 list) number ≡ Some at =
    slice_get-get_or (places_of near 0 list) number 0 (omega (arith, low, places_length near 0 list))
    ∙ ap Some (sym (c.place-at.ensures ∙ place_is cmp component list c.requires.near number low)) in
    let p = place_is_of near list number at placed in
    let is = c.at.ensures ∙ get_or_from_slice_get list at p.x c.at.result.now p.there in
    let kept = ap (λ (f : Flight _). keeps component (flight_at 0 f)) is in
    elim c.if-not-keeps.branch [
      | then-not-keeps+in_ok-push w ↦
          ap (λ v. v.items) w.places-is ∙ w.in_ok-push.ensures.items ∙ ap (λ l. l ++ at ∷ []) c.loop-number.invariant
          ∙ sym (anew_listed cmp component list self.at c.requires.suited number at placed p.x p.there
          (sym (c.keeps.ensures ∙ kept) ∙ w.if-not-keeps.true))
      | else-not-keeps w ↦
          ap (λ v. v.items) w.places-is ∙ c.loop-number.invariant
          ∙ sym (kept_unlisted cmp component list self.at c.requires.suited number at placed p.x p.there
          (sym (c.keeps.ensures ∙ kept) ∙ w.if-not-keeps.false))
    ]

pub returns-clause-places : goal.returns-clause-places
returns-clause-places g c =
    let cmp = g.P.Ord.cmp in
    let component = c.args.component.now in
    let list = c.args.self.now.list.items in
    let near : Flight g.row.P.Denot → Bool = λ f. touches cmp component f.message.value in
    c.loop-number.invariant
    ∙ ap (filter (anew_there cmp component list))
    (take_all c.loop-number.number (places_of near 0 list)
    (omega (arith, c.loop-number-test.false, c.count-number-end.ensures, places_length near 0 list)))
    ∙ anew_places cmp component list
