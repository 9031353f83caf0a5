use Rattle.row_table.proofs.Common.{common_steps, ◌≡◌, [], ◌∷◌, ◌++◌, refl, subst, arith, Parts, SlotVersions}
use Rattle.row_table.proofs.Popping.{sent_gone, received_gone, live_popped, stands_popped}
use Rattle.row_table.proofs.parts.Parts.pop.Goals as goal

pub pop-requires-clause-sent_empty : goal.pop-requires-clause-sent_empty
pop-requires-clause-sent_empty g c = grind (arith, common_steps, sent_gone)

pub pop-requires-clause-received_empty : goal.pop-requires-clause-received_empty
pop-requires-clause-received_empty g c = grind (arith, common_steps, received_gone)

pub returns-clause-rows : goal.returns-clause-rows
returns-clause-rows g c = grind (arith, common_steps, live_popped)

pub returns-clause-stands : goal.returns-clause-stands
returns-clause-stands g c =
    let now : Parts g.row.T.Denot = c.args.self.now in
    stands_popped c.forget.new.self _ now.slots.items _ c.pop-2.result
    (omega (arith, c.len-slot.ensures.items, c.requires.after))
    (subst (λ (slots : SlotVersions g.row.T.Denot). slots.items ≡ c.pop-2.new.self.items ++ c.pop-2.result ∷ [])
    c.forget.ensures.slots c.pop-2.ensures.item)
    c.in_ok-forget.ensures.found c.in_ok-forget.ensures.filled refl c.pop.ensures.sent c.pop.ensures.received c.pop.ensures.moments
