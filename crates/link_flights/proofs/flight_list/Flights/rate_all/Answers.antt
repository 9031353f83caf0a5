use Rattle.std.proofs.Math.Nat.{mul-pos}
use Rattle.link_flights.proofs.Common.{◌≡◌, ◌*◌, ◌<◌, All, [], sym, ap, ap₂, ◌∙◌, subst, product, caps_of}
use Rattle.link_flights.proofs.Common.{looked_up, UnitFlight, in_units, rates_found, rates_of_levels, rerated}
use Rattle.link_flights.proofs.Common.{true≢false}
use Rattle.std.specs.Prelude.{◌≢◌}
use Rattle.link_flights.proofs.Flights.ComponentFlows.{closed_whole}
use Rattle.link_flights.proofs.Flights.RatesGiven.{whole_given, left_given}
use Rattle.link_flights.proofs.flight_list.Flights.rate_all.Goals as goal

pub numbers_rated-requires : goal.numbers_rated-requires
numbers_rated-requires g c = record {
  near = λ part. absurd (true≢false (sym c.whole-all.ensures.whole ∙ part));
  suited = closed_whole g.P.Ord.cmp c.whole-all.result c.whole-all.ensures.whole [] (in_units c.args.self.now);
}

pub rates_at-requires : goal.rates_at-requires
rates_at-requires g c = record {
  places = c.in_ok-numbers.ensures.places;
  suited = closed_whole g.P.Ord.cmp c.whole-all.result c.whole-all.ensures.whole [] (in_units c.args.self.now);
  one_each = c.requires.one_each;
}

pub set_rates-requires-clause-left : goal.set_rates-requires-clause-left
set_rates-requires-clause-left g c =
    let old = c.args.self.now in
    subst (λ growth. All (λ (u : UnitFlight g.row.P.Denot). u.left * product growth ≢ 0) (in_units old))
    (sym c.deref-5.ensures.value)
    (left_given g.P.Ord.cmp (caps_of g.P.Ord.cmp c.args.peers.now.entries c.args.pairs.now.entries) c.whole-all.result
    c.in_ok-rates.rates old.scale (in_units old) c.in_ok-rates.ensures.fair c.requires.left)

pub returns-clause-rated : goal.returns-clause-rated
returns-clause-rated g c =
    let cmp = g.P.Ord.cmp in
    let old = c.args.self.now in
    let caps = caps_of cmp c.args.peers.now.entries c.args.pairs.now.entries in
    let all = c.whole-all.result in
    let rates = c.in_ok-rates.rates in
    let e = c.in_ok-set_rates.ensures in
    let times = product rates.growth.items in
    let same : rates_of_levels c.deref-3.result.now c.deref-4.result.now ≡ rates_found rates =
    ap (λ ls. rates_of_levels ls c.deref-4.result.now)
    (c.deref-3.ensures.value ∙ c.in_ok-given.ensures.rates ∙ c.deref-2.ensures.value)
    ∙ ap (rates_of_levels rates.levels.items) c.deref-4.ensures.value in
    let given : in_units c.set_rates.new.self ≡ rerated cmp all old.at times (rates_found rates) (in_units old) =
    e.rerated
    ∙ ap (λ ns. rerated cmp all old.at (product ns) (rates_of_levels c.deref-3.result.now c.deref-4.result.now)
    (in_units old)) c.deref-5.ensures.value
    ∙ ap (λ rs. rerated cmp all old.at times rs (in_units old)) same in
    let fair = c.in_ok-rates.ensures.fair in
    let grown : c.grow.new.units ≡ old.scale * times =
    c.in_ok-grow.ensures.grown ∙ ap₂ (λ n ns. n * product ns) c.in_ok-scale.ensures.value c.deref.ensures.value in
    let scaled : 0 < c.grow.new.units =
    subst (λ n. 0 < n) (sym grown) (mul-pos old.scaled (subst (λ n. 0 < n) fair.grown fair.fair.some_part)) in
    let h =
    whole_given cmp caps all rates old (record c.set_rates.new.self { scale = c.grow.new.units; scaled = scaled })
    g.met.P.Ord.total (looked_up cmp g.met.P.Ord.total c.args.peers.now.entries c.args.pairs.now.entries) old.scaled
    fair given grown e.at e.timed c.whole-all.ensures.whole c.whole-all.ensures.level in
    record { times = h.times; scale = h.scale; at = h.at; each = h.each; fair = h.fair; timed = h.timed }

pub invariant_of-self : goal.invariant_of-self
invariant_of-self g c =
    let old = c.args.self.now in
    let new = c.set_rates.new.self in
    let fair = c.in_ok-rates.ensures.fair in
    let grown : c.grow.new.units ≡ old.scale * product c.in_ok-rates.rates.growth.items =
    c.in_ok-grow.ensures.grown ∙ ap₂ (λ n ns. n * product ns) c.in_ok-scale.ensures.value c.deref.ensures.value in
    record {
      past = new.past;
      scaled = subst (λ n. 0 < n) (sym grown) (mul-pos old.scaled (subst (λ n. 0 < n) fair.grown fair.fair.some_part));
      counted = new.counted;
      have_rates = new.have_rates;
    }
