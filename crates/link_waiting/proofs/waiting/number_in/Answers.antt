use Rattle.link_waiting.proofs.Common.{sym, all_of_each, live}
use Rattle.link_waiting.proofs.Idle.Numbered.{of_number}
use Rattle.link_waiting.proofs.waiting.number_in.Goals as goal

pub returns-clause-alike : goal.returns-clause-alike
returns-clause-alike g c =
    let ws = live c.args.slots.now.slots.items in
    all_of_each _ ws
    (of_number g.P.Ord.cmp g.met.P.Ord.total c.args.pairs.now c.args.origin.now c.args.recipient.now c.number.result
    (sym c.number.ensures) ws c.requires.now)
