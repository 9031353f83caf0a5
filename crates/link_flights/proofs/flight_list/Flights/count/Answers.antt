use Rattle.link_flights.proofs.Common.{◌∙◌, arith}
use Rattle.link_flights.proofs.Flights.Near.{count_whole, count_part}
use Rattle.link_flights.proofs.flight_list.Flights.count.Goals as goal

pub returns-then-component : goal.returns-then-component
returns-then-component g c =
    c.len.ensures
    ∙ count_whole g.P.Ord.cmp c.args.component.now c.args.self.now.list.items c.if-component.true

pub returns-else-component : goal.returns-else-component
returns-else-component g c =
    c.len-else-component.ensures ∙ omega (arith, c.args.component.now.near.ok.0)
    ∙ count_part g.P.Ord.cmp c.args.component.now c.args.self.now.list.items (c.requires.near c.if-component.false)
