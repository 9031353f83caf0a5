use Rattle.link_flights.proofs.Common.{◌||◌, sym, ap, ◌∙◌, same_Some, Flight, flight_at, has_both, keeps}
use Rattle.link_flights.proofs.flight_list.Flights.join_one.Goals as goal

pub returns-else-not-keeps-clause-suited : goal.returns-else-not-keeps-clause-suited
returns-else-not-keeps-clause-suited g c one there =
    let component = c.args.component.now in
    let same = same_Some c.in-Some.one.now one (rw c.in-Some.is at c.get.ensures ∙ there) in
    ap (λ b. b || has_both g.P.Ord.cmp component one.message.value)
    (ap (λ (f : Flight g.row.P.Denot). keeps component (flight_at 0 f)) (sym same) ∙ sym c.keeps.ensures ∙ c.if-not-keeps.false)
