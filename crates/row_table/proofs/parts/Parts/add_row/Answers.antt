use Rattle.row_table.proofs.Common.{common_steps, [], ◌∷◌, ◌++◌, ap, ◌∙◌, arith}
use Rattle.row_table.proofs.Slots.{live_append}
use Rattle.row_table.proofs.Finding.{stands_added, on_ok, on_all}
use Rattle.row_table.proofs.parts.Parts.add_row.Goals as goal

pub returns-clause-rows : goal.returns-clause-rows
returns-clause-rows g c = grind (arith, common_steps, on_ok, live_append)

pub returns-clause-stands : goal.returns-clause-stands
returns-clause-stands g c =
    on_all c.add.result c.add.ensures.sent c.add.ensures.received c.add.ensures.moments
    (λ sent received moments.
    stands_added c.args.self.now _ c.args.row c.requires.stands c.in_ok-push-2.ensures.items
    (c.in_ok-push.ensures.items ∙ ap (λ slot. c.args.self.now.filled.items ++ slot ∷ []) c.len.ensures.items) sent received moments)
