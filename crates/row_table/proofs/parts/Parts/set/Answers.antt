use Rattle.row_table.proofs.Common.{common_steps, refl, Row, arith}
use Rattle.row_table.proofs.Slots.{IsSlot, slot_at, held_at, live_changed}
use Rattle.row_table.proofs.Finding.{stands_changed, with_owners}
use Rattle.row_table.proofs.parts.Parts.set.Given as given
use Rattle.row_table.proofs.parts.Parts.set.Goals as goal

module _ (g : given.Over) (c : goal.After-set-2 g) where
  is_slot : IsSlot c.args.self.now.slots.items c.args.at c.slot_at-slot.result
  is_slot = grind (arith, common_steps, slot_at)

  abbrev other : Row g.row.T.Denot
  other = let owners = c.owners_in-sender.result in
      record { item = c.args.item; sender = owners.0; receiver = owners.1; moment = c.args.moment }

pub returns-clause-rows : goal.returns-clause-rows
returns-clause-rows g c = grind (arith, common_steps, live_changed, is_slot, with_owners, held_at)

pub returns-clause-stands : goal.returns-clause-stands
returns-clause-stands g c =
    stands_changed c.args.self.now _ c.args.at c.slot_at-slot.result (other g c) c.requires.stands (is_slot g c)
    c.owners_in-sender.ensures.sender c.owners_in-sender.ensures.receiver c.in_ok-set.ensures.items refl refl refl c.set-2.ensures
