use Rattle.link_flights.proofs.Common.{◌≡◌, ◌+◌, ◌*◌, None, get_or, length, refl, sym, ap, ◌∙◌, subst, arith}
use Rattle.link_flights.proofs.Common.{length-map, product, parts_of_level, flight_at, flights_at, rates_of_levels}
use Rattle.link_flights.proofs.Common.{IsReratedAt, IsCountedAt, in_units, those_of, flow_in_flight}
use Rattle.std.proofs.Math.ListN.{get_or-map}
use Rattle.link_flights.proofs.Flights.Rerating.{none_rerated, something_left, has_rate, one_rerated}
use Rattle.link_flights.proofs.Flights.Rerating.{all_rerated, timed_set, all_kept, one_counted, by_one, to_end}
use Rattle.link_flights.proofs.Flights.Rerating.{next_in, none_more, stands_within, stands_here}
use Rattle.link_flights.proofs.Flights.Rerating.{all_to_come, rerated_to_come}
use Rattle.link_flights.proofs.Flights.Sides.{as_many}
use Rattle.link_flights.proofs.flight_list.Flights.set_rates.Goals as goal

pub loop-number-init : goal.loop-number-init
loop-number-init g c =
    let old = c.args.self.now in
    let levels = c.args.levels.now in
    let level_of = c.args.level_of.now in
    let rates = rates_of_levels c.args.levels.now level_of in
    let component = c.args.component.now in
    let times = product c.args.growth.now in
    let one_each = length-map level_of (parts_of_level levels) ∙ c.requires.one_each in (
      record {
        place = 0;
        up_to = none_rerated g.P.Ord.cmp component old.at times rates old.list.items one_each
            c.requires.left c.requires.others;
        to_come = all_to_come g.P.Ord.cmp component old.at times rates old.list.items old.list.items
            old.list.items one_each c.requires.left c.requires.others;
        at = refl;
        scale = refl;
        timed = c.requires.timed;
        kept = all_kept old.list.items;
        counted = omega arith;
        behind = omega arith;
      },
      refl,
    )

pub bounds-level_of-number : goal.bounds-level_of-number
bounds-level_of-number g c =
    let n = next_in c.loop-number.invariant.0
    (omega (arith, c.loop-number-test.true, ap length c.requires.places)) in
    omega (arith, has_rate n.up_to n.x n.stands n.of, length-map c.args.level_of.now (parts_of_level c.args.levels.now))

pub rerate-requires-clause-place : goal.rerate-requires-clause-place
rerate-requires-clause-place g c =
    let n = next_in c.loop-number.invariant.0
    (omega (arith, c.loop-number-test.true, ap length c.requires.places)) in
    omega (arith, ap (λ ps. get_or ps c.loop-number.number 0) c.requires.places, n.place, stands_within n.up_to n.x n.stands)

pub rerate-requires-clause-left : goal.rerate-requires-clause-left
rerate-requires-clause-left g c d none =
    let n = next_in c.loop-number.invariant.0
    (omega (arith, c.loop-number-test.true, ap length c.requires.places)) in
    let place : get_or c.args.places.now c.loop-number.number 0 ≡ n.at =
    ap (λ ps. get_or ps c.loop-number.number 0) c.requires.places ∙ n.place in
    let old = c.args.self.now in
    let so_far = c.loop-number.self in
    let growth = product c.args.growth.now in
    let same : (flight_at old.at n.x).left * growth
    ≡ (flight_at so_far.at (get_or so_far.list.items (get_or c.args.places.now c.loop-number.number 0) d)).left * growth =
    ap (λ m. (flight_at m n.x).left * growth) (sym c.loop-number.invariant.0.at)
    ∙ ap (λ (r : _). (flight_at so_far.at r).left * growth)
    (stands_here n.up_to n.x n.stands d ∙ ap (λ p. get_or so_far.list.items p d) (sym place)) in
    something_left n.up_to n.x n.stands (same ∙ none)

pub rerate-requires-clause-counted : goal.rerate-requires-clause-counted
rerate-requires-clause-counted g c =
    let n = next_in c.loop-number.invariant.0
    (omega (arith, c.loop-number-test.true, ap length c.requires.places)) in
    omega (arith, ap (λ ps. get_or ps c.loop-number.number 0) c.requires.places, n.place, n.after, c.loop-number.invariant.0.counted, c.loop-number.invariant.0.behind)

pub loop-number-preserved : goal.loop-number-preserved
loop-number-preserved g c =
    let n = next_in c.loop-number.invariant.0
    (omega (arith, c.loop-number-test.true, ap length c.requires.places)) in
    let place : get_or c.args.places.now c.loop-number.number 0 ≡ n.at =
    ap (λ ps. get_or ps c.loop-number.number 0) c.requires.places ∙ n.place in
    let cmp = g.P.Ord.cmp in
    let component = c.args.component.now in
    let old = c.args.self.now in
    let levels = c.args.levels.now in
    let level_of = c.args.level_of.now in
    let rates = rates_of_levels c.args.levels.now level_of in
    let number = c.loop-number.number in
    let h = c.loop-number.invariant.0 in
    let growth = product c.args.growth.now in
    let so_far = c.loop-number.self in
    let now = c.rerate.new.self in
    let new = now.list.items in
    let is_rate = c.rate_at-rate.result.now in
    let rate : is_rate ≡ get_or rates number 0 =
    c.rate_at-rate.ensures ∙ sym (get_or-map (parts_of_level levels) level_of number None) in
    let put : IsReratedAt old.at n.at growth is_rate so_far.list.items new =
    subst (λ m. IsReratedAt m n.at growth is_rate so_far.list.items new) h.at
    (subst (λ m. IsReratedAt so_far.at m growth is_rate so_far.list.items new) place c.in_ok-rerate.ensures.rerated) in
    let counted : IsCountedAt n.at so_far now =
    subst (λ m. IsCountedAt m so_far now) place c.in_ok-rerate.ensures.counted in
    let here : n.x ≡ get_or so_far.list.items n.at n.x = stands_here n.up_to n.x n.stands n.x in (
      record {
        place = n.at + 1;
        up_to = one_rerated n.up_to n.x n.stands is_rate new put here rate n.of;
        to_come = rerated_to_come cmp component old.at growth rates old.list.items so_far.list.items
            new number h.place n is_rate put here rate;
        at = c.rerate.ensures.at ∙ h.at;
        scale = c.rerate.ensures.scale ∙ h.scale;
        timed = λ timed. timed_set put (h.timed timed);
        kept = one_counted n.at so_far now old.list.items counted h.kept;
        counted = omega (arith, h.counted, by_one n.at so_far now counted);
        behind = omega (arith, n.after, h.behind);
      },
      c.rerate.ensures.before ∙ c.loop-number.invariant.1,
    )

pub returns-clause-rerated : goal.returns-clause-rerated
returns-clause-rerated g c =
    let now = c.loop-number.self in
    let h = c.loop-number.invariant.0 in
    let none = none_more g.P.Ord.cmp c.args.component.now c.args.self.now.at (product c.args.growth.now)
    (rates_of_levels c.args.levels.now c.args.level_of.now) c.args.self.now.list.items now.list.items
    c.loop-number.number h.place h.up_to h.to_come
    (omega (arith, c.loop-number-test.false, ap length c.requires.places)) in
    let all = to_end (length h.up_to.rest) h.place c.loop-number.number h.up_to refl none in
    ap (λ n. flights_at n now.list.items) h.at ∙ (all_rerated all (omega arith)).units

pub returns-clause-timed : goal.returns-clause-timed
returns-clause-timed g c =
    let h = c.loop-number.invariant.0 in
    let none = none_more g.P.Ord.cmp c.args.component.now c.args.self.now.at (product c.args.growth.now)
    (rates_of_levels c.args.levels.now c.args.level_of.now) c.args.self.now.list.items c.loop-number.self.list.items
    c.loop-number.number h.place h.up_to h.to_come
    (omega (arith, c.loop-number-test.false, ap length c.requires.places)) in
    let all = to_end (length h.up_to.rest) h.place c.loop-number.number h.up_to refl none in
    (all_rerated all (omega arith)).timed

pub returns-clause-counted : goal.returns-clause-counted
returns-clause-counted g c =
    let cmp = g.P.Ord.cmp in
    let old = c.args.self.now in
    let component = c.args.component.now in
    let us = in_units old in
    let each : length c.args.places.now ≡ length (those_of cmp component us) =
    ap length c.requires.places ∙ sym (as_many cmp component old.list.items old.at)
    ∙ length-map (those_of cmp component us) (flow_in_flight cmp) in
    omega (arith, each, c.loop-number.invariant.0.counted, c.loop-number.auto.number-end)
