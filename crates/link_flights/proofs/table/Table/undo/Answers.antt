use Rattle.link_flights.proofs.Flights.Rows.{taken_back}
use Rattle.link_flights.proofs.table.Table.undo.Goals as goal

pub invariant_of-self : goal.invariant_of-self
invariant_of-self g c =
    taken_back g.P.Ord.cmp c.self.inside.numbers c.self.inside.rows c.undo.new.self c.self.invariant c.undo.ensures.now
    c.undo.ensures.before
