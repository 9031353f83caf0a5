use Rattle.link_waiting.proofs.Common.{arith}
use Rattle.link_waiting.proofs.Idle.Slots.{gaps_and_live}
use Rattle.link_waiting.proofs.slots.Slots.len.Goals as goal

pub returns : goal.returns
returns g c =
    let all = gaps_and_live c.args.self.now.slots.items in
    omega (arith, all, c.len.ensures.items, c.requires.gaps)
