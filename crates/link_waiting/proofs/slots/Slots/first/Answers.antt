use Rattle.link_waiting.proofs.Common.{Some, sym, ap, ◌∙◌, waiter_of, Slot, same_Some}
use Rattle.link_waiting.proofs.Idle.Slots.{found, held_there}
use Rattle.link_waiting.proofs.slots.Slots.first.Goals as goal

pub returns : goal.returns
returns g c =
    let items = c.args.self.now.slots.items in
    let at = c.in_ok-first_slot.field-0 in
    let first = c.in_ok-first_slot.ensures.some in
    ap (λ (slot : Slot g.row.P.Denot). Some (waiter_of slot))
    (same_Some c.slot.result.now first.slot (sym c.slot.ensures ∙ held_there c.args.pair items at first))
    ∙ sym (found c.args.pair items at first)
