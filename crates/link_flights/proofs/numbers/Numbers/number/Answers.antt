use Rattle.link_flights.proofs.Common.{arith, ◌≡◌, ◌<◌, Some, Contains, get_or, slice_get, length, sym, ap, ◌∙◌, subst}
use Rattle.link_flights.proofs.Common.{slice_get_within, slice_get-get_or, get_or_from_slice_get}
use Rattle.link_flights.proofs.Flights.Numbered.{unlisted}
use Rattle.link_flights.proofs.numbers.Numbers.number.Goals as goal

pub returns-in_err-number-clause-none : goal.returns-in_err-number-clause-none
returns-in_err-number-clause-none c none =
    let inside = c.self.inside in
    subst (λ places. Contains places c.args.at → ⊥) c.self.view_is
    (unlisted inside.places.items inside.number_at.items c.self.invariant c.args.at
    (λ k noted there. omega (
      arith,
      slice_get_within inside.number_at.items c.args.at k noted,
      ap length c.deref.ensures.value,
      c.in_err-number.ensures.lookup.3,
    )))

pub returns-in_err-place-clause-none : goal.returns-in_err-place-clause-none
returns-in_err-place-clause-none c none =
    let inside = c.self.inside in
    let number = c.in_ok-number.field-0.now in
    subst (λ places. Contains places c.args.at → ⊥) c.self.view_is
    (unlisted inside.places.items inside.number_at.items c.self.invariant c.args.at
    (λ k noted there.
    let same : number ≡ k = c.in_ok-number.ensures.lookup.1 ∙ ap (λ l. get_or l c.args.at number) c.deref.ensures.value
    ∙ get_or_from_slice_get inside.number_at.items c.args.at k number noted in
    omega (
      arith,
      slice_get_within inside.places.items k c.args.at there,
      same,
      ap length c.deref-2.ensures.value,
      c.in_err-place.ensures.lookup.3,
    )))

pub returns-then-place-at-clause-some : goal.returns-then-place-at-clause-some
returns-then-place-at-clause-some c =
    let number = c.in_ok-number.field-0.now in
    let places = c.deref-2.result.now in
    let within : number < length places = c.in_ok-place.ensures.lookup.3.0 in
    subst (λ places. slice_get places number ≡ Some c.args.at) (c.deref-2.ensures.value ∙ c.self.view_is)
    (slice_get-get_or places number 0 within
    ∙ ap Some (sym (c.in_ok-place.ensures.lookup.3.1 0) ∙ c.if-place-at.true))

pub returns-else-place-at-clause-none : goal.returns-else-place-at-clause-none
returns-else-place-at-clause-none c none =
    let inside = c.self.inside in
    let number = c.in_ok-number.field-0.now in
    subst (λ places. Contains places c.args.at → ⊥) c.self.view_is
    (unlisted inside.places.items inside.number_at.items c.self.invariant c.args.at
    (λ k noted there.
    let same : number ≡ k = c.in_ok-number.ensures.lookup.1 ∙ ap (λ l. get_or l c.args.at number) c.deref.ensures.value
    ∙ get_or_from_slice_get inside.number_at.items c.args.at k number noted in
    c.if-place-at.false (c.in_ok-place.ensures.lookup.3.1 0 ∙ ap (λ l. get_or l number 0) c.deref-2.ensures.value
    ∙ ap (λ n. get_or inside.places.items n 0) same
    ∙ get_or_from_slice_get inside.places.items k c.args.at 0 there)))
