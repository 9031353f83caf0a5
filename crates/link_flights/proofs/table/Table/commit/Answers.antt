use Rattle.link_flights.proofs.Flights.Rows.{committed}
use Rattle.link_flights.proofs.table.Table.commit.Goals as goal

pub invariant_of-self : goal.invariant_of-self
invariant_of-self g c =
    committed g.P.Ord.cmp c.self.inside.numbers c.self.inside.rows c.commit.new.self c.self.invariant c.commit.ensures.now
    c.commit.ensures.before
