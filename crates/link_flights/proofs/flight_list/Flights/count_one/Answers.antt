use Rattle.link_flights.proofs.Common.{◌≡◌, ◌+◌, ◌-◌, Bool, true, false, Some, slice_get, sym, ap, ◌∙◌, subst}
use Rattle.link_flights.proofs.Common.{get_or_from_slice_get, same_Some, Side, Flight, is_of, places_of, flight_at}
use Rattle.link_flights.proofs.Common.{flow_sent, uses_end, end_subject, IsCounted}
use Rattle.link_flights.proofs.Flights.Sides.{count_passed, count_user, count_rate, rated_rate}
use Rattle.link_flights.proofs.Flights.Numbered.{rated_unlisted}
use Rattle.link_flights.proofs.Flights.Sides.{place_is_of}
use Rattle.link_flights.proofs.flight_list.Flights.count_one.Goals as goal

pub returns-then-not-uses-clause-counted : goal.returns-then-not-uses-clause-counted
returns-then-not-uses-clause-counted g c m one all there shares h =
    let cmp = g.P.Ord.cmp in
    let self = c.args.self.now in
    let uses : uses_end cmp c.args.end one.message.value ≡ false =
    sym (c.uses.ensures one ∙ ap (λ (f : Flight _). uses_end cmp c.args.end f.message.value)
    (get_or_from_slice_get self.list.items c.args.at one one there))
    ∙ c.if-not-uses.true in
    count_passed cmp c.args.end c.args.component.now self.at self.list.items m one all c.args.at there shares
    (record { cap = c.args.left.now; users = c.args.users.now.items }) uses h

pub returns-in-Some-clause-counted : goal.returns-in-Some-clause-counted
returns-in-Some-clause-counted g c m one all there shares h =
    let cmp = g.P.Ord.cmp in
    let self = c.args.self.now in
    let component = c.args.component.now in
    let side : Side = record { cap = c.args.left.now; users = c.args.users.now.items } in
    let uses : uses_end cmp c.args.end one.message.value ≡ true =
    sym (c.uses.ensures one ∙ ap (λ (f : Flight _). uses_end cmp c.args.end f.message.value)
    (get_or_from_slice_get self.list.items c.args.at one one there))
    ∙ c.if-not-uses.false in
    let rated : Flight g.row.P.Denot → Bool = λ f. is_of cmp component (flight_at 0 f) in
    let number = c.in-Some.number in
    let placed : slice_get (places_of rated 0 self.list.items) number ≡ Some c.args.at =
    subst (λ ps. slice_get ps number ≡ Some c.args.at) c.requires.places c.in-Some.ensures.some in
    let p = place_is_of rated self.list.items number c.args.at placed in
    let of : is_of cmp component (flight_at self.at one) ≡ true =
    ap rated (same_Some one p.x (sym there ∙ p.there)) ∙ p.passes in
    subst (λ users. IsCounted cmp component self.at self.list.items (end_subject c.args.end (flow_sent cmp m)) all
    (c.args.at + 1) (record { cap = side.cap; users = users })) (sym c.in_ok-push.ensures.items)
    (count_user cmp c.args.end component self.at self.list.items m one all c.args.at there shares side uses of number placed h)

pub returns-clause-counted : goal.returns-clause-counted
returns-clause-counted g c m one all there shares h =
    let cmp = g.P.Ord.cmp in
    let self = c.args.self.now in
    let component = c.args.component.now in
    let side : Side = record { cap = c.args.left.now; users = c.args.users.now.items } in
    let is : c.at.result.now ≡ one =
    c.at.ensures ∙ get_or_from_slice_get self.list.items c.args.at one c.at.result.now there in
    let uses : uses_end cmp c.args.end one.message.value ≡ true =
    sym (c.uses.ensures one ∙ ap (λ (f : Flight _). uses_end cmp c.args.end f.message.value)
    (get_or_from_slice_get self.list.items c.args.at one one there))
    ∙ c.if-not-uses.false in
    let rated =
    rated_unlisted cmp component self.list.items c.args.numbers.now c.requires.places self.at c.requires.suited c.args.at
    one there (c.number.ensures.none c.in_default.is) in
    let rate : (flight_at self.at one).rate ≡ c.at.result.now.rate =
    rated_rate one rated.1 ∙ ap (λ (f : Flight _). f.rate) (sym is) in
    count_rate cmp c.args.end component self.at self.list.items m one all c.args.at there shares side uses rated.0
    c.subtract.new.self (c.subtract.ensures.value ∙ ap (λ n. side.cap - n) (c.number-2.ensures ∙ sym rate)) h
