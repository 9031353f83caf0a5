use Rattle.link_flights.proofs.Common.{◌≡◌, ◌+◌, ◌<◌, ◌≤◌, not, ◌||◌, nat_le, get_or, length, refl, sym, ap, ◌∙◌, subst}
use Rattle.link_flights.proofs.Common.{arith, get_or_default, IsChangedUpTo, IsCountedBy, unchanged, one_more}
use Rattle.link_flights.proofs.Common.{all_changed}
use Rattle.link_flights.proofs.Flights.Flight.{is_past, all_there, changed_length}
use Rattle.link_flights.proofs.flight_list.Flights.divide_each.Goals as goal

pub loop-at-init : goal.loop-at-init
loop-at-init g c =
    let old = c.args.self.now in
    (unchanged (IsCountedBy c.args.by) old.list.items, refl, refl, refl, refl, refl)

pub put-requires-clause-past : goal.put-requires-clause-past
put-requires-clause-past g c =
    let so_far = c.loop-at.self in
    let x = c.at.result.now in
    let lt : c.loop-at.at < length so_far.list.items = omega (arith, changed_length _ _ _ _ c.loop-at.invariant.0) in
    let one = c.in_ok-one.one in
    let counted = c.in_ok-one.ensures.counted in
    ap (λ b. not b || nat_le one.since so_far.at) counted.rated
    ∙ ap (λ n. not x.rated || nat_le n so_far.at) counted.since
    ∙ all_there (is_past so_far.at) so_far.list.items c.loop-at.at x so_far.past lt c.at.ensures

pub put-requires-clause-still_rated : goal.put-requires-clause-still_rated
put-requires-clause-still_rated g c d is =
    let so_far = c.loop-at.self in
    let x = c.at.result.now in
    let lt : c.loop-at.at < length so_far.list.items = omega (arith, changed_length _ _ _ _ c.loop-at.invariant.0) in
    let one = c.in_ok-one.one in
    let counted = c.in_ok-one.ensures.counted in
    let here : x ≡ get_or so_far.list.items c.loop-at.at d =
    c.at.ensures ∙ get_or_default so_far.list.items c.loop-at.at x d lt in
    counted.rated ∙ ap (λ (r : _). r.rated) here ∙ is

pub put-requires-clause-message : goal.put-requires-clause-message
put-requires-clause-message g c d =
    let so_far = c.loop-at.self in
    let x = c.at.result.now in
    let lt : c.loop-at.at < length so_far.list.items = omega (arith, changed_length _ _ _ _ c.loop-at.invariant.0) in
    let one = c.in_ok-one.one in
    let counted = c.in_ok-one.ensures.counted in
    let here : x ≡ get_or so_far.list.items c.loop-at.at d =
    c.at.ensures ∙ get_or_default so_far.list.items c.loop-at.at x d lt in
    counted.message ∙ ap (λ (r : _). r.message.value) here

pub loop-at-preserved : goal.loop-at-preserved
loop-at-preserved g c =
    let old = c.args.self.now in
    let so_far = c.loop-at.self in
    let x = c.at.result.now in
    let h = c.loop-at.invariant in
    let lt : c.loop-at.at < length so_far.list.items = omega (arith, changed_length _ _ _ _ h.0) in
    let one = c.in_ok-one.one in
    let counted = c.in_ok-one.ensures.counted in (
      subst
          (λ l. IsChangedUpTo (IsCountedBy c.args.by) old.list.items l (c.loop-at.at + 1))
          (sym c.in_ok-put.ensures.list)
          (one_more (IsCountedBy c.args.by) old.list.items so_far.list.items c.loop-at.at h.0 x
          one lt c.at.ensures counted),
      c.put.ensures.at ∙ h.1,
      c.put.ensures.scale ∙ h.2,
      c.put.ensures.floor ∙ h.3,
      c.in_ok-put.ensures.counted ∙ h.4,
      c.put.ensures.before ∙ h.5,
    )

pub returns-clause-divided : goal.returns-clause-divided
returns-clause-divided g c =
    let old = c.args.self.now in
    let now = c.loop-at.self in
    let end : length now.list.items ≤ c.loop-at.at = omega (arith, changed_length _ _ _ _ c.loop-at.invariant.0) in
    all_changed (IsCountedBy c.args.by) old.list.items now.list.items c.loop-at.at
    c.loop-at.invariant.0 end
