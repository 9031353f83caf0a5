use Rattle.link_flights.proofs.Common.{arith, ◌≡◌, [], true, sym, ap, ◌∙◌, subst, nat_le, list_all}
use Rattle.link_flights.proofs.Common.{nil_from_length, caps_of, in_units, AreRatedBeside, rates_found, rates_of_levels}
use Rattle.link_flights.proofs.Common.{rerated, product, IsFair, slice_index, sides_under, left_caps, flows_of}
use Rattle.std.proofs.lemmas.Bool.Decides.{nat_tests}
use Rattle.std.proofs.lemmas.Grind.{common_steps}
use Rattle.link_flights.proofs.Flights.Components.{found_each}
use Rattle.link_flights.proofs.flight_list.Flights.rate_some.Goals as goal

pub returns-clause-gives : goal.returns-clause-gives
returns-clause-gives g c =
    let cmp = g.P.Ord.cmp in
    let old = c.args.self.now in
    let component = c.args.touched.now in
    let part = c.in_ok-part.part in
    let e = c.in_ok-set_rates.ensures in
    let none : part.growth.items ≡ [] =
    nil_from_length part.growth.items
    (grind (arith, common_steps, nat_tests, c.is_empty.ensures, c.if-not-is_empty.false, part.growth.ok.0)) in
    let reach : list_all (λ rate. nat_le component.level rate) (rates_found part) ≡ true =
    ap (λ n. list_all (nat_le n) (rates_found part)) (sym c.number.ensures) ∙ sym c.all_reach.ensures
    ∙ c.if-not-all_reach.false in
    let same : rates_of_levels c.deref-2.result.now c.deref-3.result.now ≡ rates_found part =
    ap (λ ls. rates_of_levels ls c.deref-3.result.now)
    (c.deref-2.ensures.value ∙ c.in_ok-given.ensures.rates ∙ c.deref.ensures.value)
    ∙ ap (rates_of_levels part.levels.items) c.deref-3.ensures.value in
    let fair = c.in_ok-part.ensures.fair in
    let rated : AreRatedBeside cmp (caps_of cmp c.args.peers.now.entries c.args.pairs.now.entries) component old
    c.set_rates.new.self = record {
      rates = rates_found part;
      fair = record {
        one_each = found_each cmp component (caps_of cmp c.args.peers.now.entries c.args.pairs.now.entries) old.scale
            (in_units old) part fair.one_each;
        fair = subst (λ n. IsFair (sides_under cmp (left_caps cmp (caps_of cmp c.args.peers.now.entries c.args.pairs.now.entries)
            old.scale component (in_units old)) (flows_of cmp component (in_units old))) n (slice_index (rates_found part)))
            (fair.grown ∙ ap product none) fair.fair;
      };
      reach = reach;
      given = e.rerated ∙ ap (λ rs. rerated cmp component old.at 1 rs (in_units old)) same;
      scale = e.scale;
      at = e.at;
      timed = e.timed;
    } in (rated, e.kept)
