use Rattle.std.proofs.Common.{sym}
use Rattle.peer_numbers.proofs.EndPlaces.{itself, number_there}
use Rattle.peer_numbers.proofs.ends.EndNumbers.at.Goals as goal

pub returns-in-Some : goal.returns-in-Some
returns-in-Some c =
    rw (← c.self.view_is)
    (number_there c.self.inside.known.keys c.args.number c.in-Some.ends.now c.in-Some.ends.now
    c.len-count.ensures.unique (sym c.in-Some.ensures.key) (itself c.in-Some.ends.now))
