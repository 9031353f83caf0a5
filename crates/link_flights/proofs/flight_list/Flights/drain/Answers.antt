use Rattle.link_flights.proofs.Common.{◌≡◌, ◌+◌, ◌<◌, ◌≤◌, false, get_or, length, refl, sym, ap, ◌∙◌, subst, inl, inr}
use Rattle.link_flights.proofs.Common.{◌⊎◌, arith, list_all, get_or_default, IsChangedUpTo, flight_at, unchanged}
use Rattle.link_flights.proofs.Common.{all_changed}
use Rattle.link_flights.proofs.Flights.Flight.{IsBrought, is_past, changed_length, is_brought, next_brought, next_stands}
use Rattle.link_flights.proofs.Flights.Flight.{all_drained, all_past, all_timed}
use Rattle.link_flights.proofs.Flights.Settled.{counted_from}
use Rattle.link_flights.proofs.flight_list.Flights.drain.Goals as goal
use Rattle.link_flights.proofs.flight_list.Flights.drain.Goals.{
  then-goes_back,
  else-goes_back,
  then-goes_back-2+in_ok-one+in_ok-put,
  else-goes_back-2+else-not-stands_at,
  then-goes_back-2-via-then-goes_back-2,
  then-goes_back-2-via-else-goes_back-2+then-not-stands_at,
}

pub loop-at-init : goal.loop-at-init
loop-at-init g c =
    let old = c.args.self.now in
    let R = IsBrought old.at c.args.now in (
      elim c.if-goes_back.branch [
        | then-goes_back w ↦
            subst (IsChangedUpTo R old.list.items old.list.items) (sym w.from-is) (unchanged R old.list.items)
        | else-goes_back w ↦
            subst (IsChangedUpTo R old.list.items old.list.items) (sym w.from-is)
            (counted_from old.at c.args.now old.settled old.list.items old.have_rates old.past w.if-goes_back.false)
      ],
      refl,
      refl,
      refl,
      refl,
      refl,
    )

pub put-requires-clause-place : goal.put-requires-clause-place
put-requires-clause-place g c = omega (arith, changed_length _ _ _ _ c.loop-at.invariant.0)

pub put-requires-clause-past : goal.put-requires-clause-past
put-requires-clause-past g c =
    let e = c.in_ok-one.ensures in
    (is_brought c.loop-at.self.at c.args.now c.at-one.result.now c.in_ok-one.one (elim c.then-goes_back-2.branch [
      | then-goes_back-2-via-then-goes_back-2 v ↦ inl (omega (arith, v.if-goes_back-2.true, c.loop-at.invariant.1))
      | then-goes_back-2-via-else-goes_back-2+then-not-stands_at v ↦ inr
          (v.stands_at.ensures.unrated v.if-not-stands_at.true)
    ]) e.id e.message e.left e.rate e.since e.rated).past_at

pub loop-at-preserved : goal.loop-at-preserved
loop-at-preserved g c =
    let old = c.args.self.now in
    let so_far = c.loop-at.self in
    let at_is = c.loop-at.invariant.1 in
    let lt : c.loop-at.at < length so_far.list.items = omega (arith, changed_length _ _ _ _ c.loop-at.invariant.0) in
    elim c.if-goes_back-2.branch [
      | then-goes_back-2+in_ok-one+in_ok-put w ↦
          let x = c.at-one.result.now in
          let is : x ≡ get_or so_far.list.items c.loop-at.at x = c.at-one.ensures in
          let back : c.args.now < old.at ⊎ x.rated ≡ false = elim w.then-goes_back-2.branch [
            | then-goes_back-2-via-then-goes_back-2 v ↦ inl v.if-goes_back-2.true
            | then-goes_back-2-via-else-goes_back-2+then-not-stands_at v ↦ inr
                (ap (λ r. r.rated)
                (is ∙ get_or_default so_far.list.items c.loop-at.at x c.at-one.result.now lt ∙ sym c.at-one.ensures)
                ∙ v.stands_at.ensures.unrated v.if-not-stands_at.true)
          ] in (
            subst
                (λ (s : _). IsChangedUpTo (IsBrought old.at c.args.now) old.list.items s.list.items (c.loop-at.at + 1))
                (sym w.self-is)
                (next_brought old.at c.args.now old.list.items so_far.list.items c.loop-at.at c.loop-at.invariant.0 x lt
                is w.in_ok-one.one w.put.new.self.list.items w.in_ok-put.ensures.list back
                w.in_ok-one.ensures.id
                w.in_ok-one.ensures.message
                (w.in_ok-one.ensures.left ∙ ap (λ n. (flight_at n x).left) at_is)
                w.in_ok-one.ensures.rate
                w.in_ok-one.ensures.since
                w.in_ok-one.ensures.rated),
            ap (λ s. s.at) w.self-is ∙ w.put.ensures.at ∙ at_is,
            ap (λ s. s.scale) w.self-is ∙ w.put.ensures.scale ∙ c.loop-at.invariant.2,
            ap (λ s. s.list.before) w.self-is ∙ w.put.ensures.before ∙ c.loop-at.invariant.3,
            ap (λ s. s.floor) w.self-is ∙ w.put.ensures.floor ∙ c.loop-at.invariant.4,
            ap (λ s. s.loose) w.self-is ∙ w.put.ensures.loose ∙ c.loop-at.invariant.5,
          )
      | else-goes_back-2+else-not-stands_at w ↦
          let x = c.at-one.result.now in
          let is : x ≡ get_or so_far.list.items c.loop-at.at x = c.at-one.ensures in (
            subst
                (λ (s : _). IsChangedUpTo (IsBrought old.at c.args.now) old.list.items s.list.items (c.loop-at.at + 1))
                (sym w.self-is)
                (next_stands old.at c.args.now old.list.items so_far.list.items c.loop-at.at c.loop-at.invariant.0 x lt
                is x.rated refl
                (λ none. w.stands_at.ensures.started w.if-not-stands_at.false none)
                (ap (λ n. list_all (is_past n) so_far.list.items) (sym at_is) ∙ so_far.past) w.if-goes_back-2.false),
            ap (λ s. s.at) w.self-is ∙ at_is,
            ap (λ s. s.scale) w.self-is ∙ c.loop-at.invariant.2,
            ap (λ s. s.list.before) w.self-is ∙ c.loop-at.invariant.3,
            ap (λ s. s.floor) w.self-is ∙ c.loop-at.invariant.4,
            ap (λ s. s.loose) w.self-is ∙ c.loop-at.invariant.5,
          )
    ]

pub invariant_of-self : goal.invariant_of-self
invariant_of-self g c =
    let old = c.args.self.now in
    let now = c.loop-at.self in
    let end : length now.list.items ≤ c.loop-at.at = omega (arith, changed_length _ _ _ _ c.loop-at.invariant.0) in
    record {
      past = all_past old.at c.args.now old.list.items now.list.items
          (all_changed (IsBrought old.at c.args.now) old.list.items now.list.items c.loop-at.at c.loop-at.invariant.0 end);
      scaled = now.scaled;
      counted = now.counted;
      have_rates = now.have_rates;
    }

pub returns-clause-drained : goal.returns-clause-drained
returns-clause-drained g c =
    let old = c.args.self.now in
    let now = c.loop-at.self in
    let end : length now.list.items ≤ c.loop-at.at = omega (arith, changed_length _ _ _ _ c.loop-at.invariant.0) in
    all_drained old.at c.args.now old.list.items now.list.items
    (all_changed (IsBrought old.at c.args.now) old.list.items now.list.items c.loop-at.at c.loop-at.invariant.0 end)

pub returns-clause-timed : goal.returns-clause-timed
returns-clause-timed g c later timed =
    let old = c.args.self.now in
    let now = c.loop-at.self in
    let end : length now.list.items ≤ c.loop-at.at = omega (arith, changed_length _ _ _ _ c.loop-at.invariant.0) in
    all_timed old.at c.args.now old.list.items now.list.items
    (all_changed (IsBrought old.at c.args.now) old.list.items now.list.items c.loop-at.at c.loop-at.invariant.0 end) later timed
