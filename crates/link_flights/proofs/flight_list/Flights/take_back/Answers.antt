use Rattle.link_flights.proofs.Common.{refl, sym, ◌∙◌}
use Rattle.link_flights.proofs.Flights.Alike.{same_flights, same_line}
use Rattle.link_flights.proofs.flight_list.Flights.take_back.Goals as goal

pub returns-clause-back : goal.returns-clause-back
returns-clause-back g c flights mark committed before =
    same_flights _ flights refl
    (same_line c.undo.new.self flights.list (c.undo.ensures.items ∙ before ∙ sym committed)
    (c.undo.ensures.before ∙ before)) mark.scale mark.at mark.floor mark.loose mark.counted mark.settled mark.unsearched
    mark.stood
