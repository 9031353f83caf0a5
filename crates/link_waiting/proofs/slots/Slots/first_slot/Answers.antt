use Rattle.link_waiting.proofs.Common.{arith}
use Rattle.link_waiting.proofs.Idle.Slots.{first_some, first_none, none_owned}
use Rattle.link_waiting.proofs.slots.Slots.first_slot.Goals as goal

pub returns-then-pair-owners-clause-none : goal.returns-then-pair-owners-clause-none
returns-then-pair-owners-clause-none g c =
    let slots = c.args.self.now in
    none_owned c.args.pair slots.slots.items slots.chains.now.stands c.requires.chains
    (λ at is. absurd (omega (arith, c.owners.ensures.all c.args.pair at is)))

pub returns-clause-some : goal.returns-clause-some
returns-clause-some g c =
    let slots = c.args.self.now in
    first_some c.args.pair slots.slots.items slots.chains.now.stands c.requires.chains c.first.result c.first.ensures.first

pub returns-clause-none : goal.returns-clause-none
returns-clause-none g c =
    let slots = c.args.self.now in
    first_none c.args.pair slots.slots.items slots.chains.now.stands c.requires.chains c.first.result c.first.ensures.first
