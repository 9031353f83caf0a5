use Rattle.row_table.proofs.Common.{common_steps, sym, arith}
use Rattle.row_table.proofs.Finding.{found_taken}
use Rattle.row_table.proofs.Popping.{none_there, found_empty, filled_none, filled_rest}
use Rattle.row_table.proofs.parts.Parts.forget.Goals as goal

pub returns-then-not-is_filled-clause-found : goal.returns-then-not-is_filled-clause-found
returns-then-not-is_filled-clause-found g c = grind (arith, common_steps, found_empty, none_there)

pub returns-then-not-is_filled-clause-filled : goal.returns-then-not-is_filled-clause-filled
returns-then-not-is_filled-clause-filled g c = grind (arith, common_steps, filled_none, none_there)

pub owners_in-sender-requires : goal.owners_in-sender-requires
owners_in-sender-requires g c = sym c.if-not-is_filled.ensures

pub returns-clause-found : goal.returns-clause-found
returns-clause-found g c =
    found_taken c.args.self.now.index c.take.new.self c.args.self.now.slots.items c.requires.stands.found c.args.slot
    c.in_ok-take.ensures.sent c.in_ok-take.ensures.received c.in_ok-take.ensures.moments

pub returns-clause-filled : goal.returns-clause-filled
returns-clause-filled g c = grind (arith, common_steps, filled_rest)
