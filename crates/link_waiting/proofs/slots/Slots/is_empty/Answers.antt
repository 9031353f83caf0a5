use Rattle.link_waiting.proofs.Common.{arith, eqb-true, live}
use Rattle.std.proofs.lemmas.List.{nil_from_length}
use Rattle.link_waiting.proofs.Idle.Slots.{gaps_and_live}
use Rattle.link_waiting.proofs.slots.Slots.is_empty.Goals as goal

pub returns : goal.returns
returns g c = λ same.
    let items = c.args.self.now.slots.items in
    let all = gaps_and_live items in
    let even = eqb-true c.len.result c.args.self.now.gaps same in
    nil_from_length (live items) (omega (arith, all, even, c.len.ensures.items, c.requires.gaps))
