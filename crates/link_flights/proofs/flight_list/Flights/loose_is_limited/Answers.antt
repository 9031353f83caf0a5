use Rattle.link_flights.proofs.Common.{rules, ◌∙◌, sym, ap, not, list_all-map, list_all, is_unlimited, message_of}
use Rattle.link_flights.proofs.Common.{caps_of, tests, YieldsList-from_slice, all_from_yields_List}
use Rattle.link_flights.proofs.flight_list.Flights.loose_is_limited.Goals as goal

pub returns : goal.returns
returns g c =
    let caps = caps_of g.P.Ord.cmp c.args.peers.now.entries c.args.pairs.now.entries in
    all_from_yields_List (λ m. not (is_unlimited g.P.Ord.cmp caps (message_of m.value))) _ _ c.all.result
    c.all.ensures.ran (YieldsList-from_slice _ c.iter.ensures.rest)
    (λ x b q k. search (rules, tests))
    ∙ sym (list_all-map (λ m. not (is_unlimited g.P.Ord.cmp caps (message_of m))) (λ m. m.value) c.as_slice.result.now)
    ∙ ap (list_all (λ m. not (is_unlimited g.P.Ord.cmp caps (message_of m)))) c.as_slice.ensures
