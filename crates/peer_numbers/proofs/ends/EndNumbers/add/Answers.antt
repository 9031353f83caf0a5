use Rattle.std.proofs.Common.{◌≡◌, Some}
use Rattle.peer_numbers.specs.Ends.{number_of_ends, IsWithEnds}
use Rattle.peer_numbers.proofs.EndPlaces.{with_number}
use Rattle.peer_numbers.proofs.ends.EndNumbers.add.Goals as goal

told : (c : goal.In-Ok)
    → (number_of_ends c.insert_full.new.self.keys c.args.ends ≡ Some c.in-Ok.number)
    × IsWithEnds c.self.inside.known.keys c.args.ends c.insert_full.new.self.keys
told c =
    with_number c.self.inside.known.keys c.insert_full.new.self.keys c.args.ends c.in-Ok.number c.in-Ok.ensures.index
    c.in-Ok.ensures.keys

pub returns-clause-number : goal.returns-clause-number
returns-clause-number c = (told c).0

pub returns-clause-ends : goal.returns-clause-ends
returns-clause-ends c = rw (← c.self.view_is) (told c).1
