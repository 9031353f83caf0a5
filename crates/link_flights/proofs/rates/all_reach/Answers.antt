use Rattle.link_flights.proofs.Common.{rules, ◌∙◌, sym, nat_le, list_all-map, parts_of_level, tests}
use Rattle.link_flights.proofs.Common.{YieldsList-from_slice, all_from_yields_List}
use Rattle.link_flights.proofs.rates.all_reach.Goals as goal

pub returns : goal.returns
returns c =
    let rates = c.args.rates.now in
    let level = c.args.level.now in
    all_from_yields_List (λ place. nat_le level (parts_of_level rates.levels.items place)) _ _ c.all.result
    c.all.ensures.ran (YieldsList-from_slice rates.level_of.items (c.iter.ensures.rest ∙ c.deref.ensures.value))
    (λ x b q k. search (rules, tests))
    ∙ sym (list_all-map (λ rate. nat_le level rate) (parts_of_level rates.levels.items) rates.level_of.items)
