use Rattle.link_waiting.proofs.Common.{◌≡◌, Some, None, refl, sym, ap, ◌∙◌, option_map, message_of, Rows, Waiter, live, Slot}
use Rattle.link_waiting.proofs.Common.{has_pair, same_Some}
use Rattle.link_pairs.specs.declared.message.Message.{Message}
use Rattle.link_waiting.proofs.Idle.Slots.{found, held_there, live_taken, without_missing}
use Rattle.link_waiting.proofs.Idle.Stands.{stands_taken, pair_low, told_already}
use Rattle.link_waiting.proofs.slots.Slots.take_first.Goals as goal

pub returns-in_default-clause-now : goal.returns-in_default-clause-now
returns-in_default-clause-now g c = sym (without_missing (has_pair c.args.pair) _ c.in_default.ensures.none)

pub returns-in_default-clause-told : goal.returns-in_default-clause-told
returns-in_default-clause-told g c =
    told_already c.args.self.now.sinces.items c.args.pair None
    (c.requires.stands.told.only c.args.pair c.in_default.ensures.none)

pub tell-requires-clause-room : goal.tell-requires-clause-room
tell-requires-clause-room g c =
    pair_low c.args.self.now c.args.self.now c.requires.stands c.args.pair c.in-Some.at c.in-Some.ensures.some

pub returns-clause-taken : goal.returns-clause-taken
returns-clause-taken g c =
    let items = c.args.self.now.slots.items in
    let first = c.in-Some.ensures.some in
    let slot : c.slot.result.now ≡ first.slot =
    same_Some _ _ (sym c.slot.ensures ∙ held_there c.args.pair items c.in-Some.at first) in
    ap (λ (m : Message g.row.P.Denot). Some (message_of m)) c.in_ok-message.ensures.cases
    ∙ ap (λ (s : Slot g.row.P.Denot). Some (message_of s.message.value)) slot
    ∙ sym (ap (option_map (λ (w : Waiter g.row.P.Denot). w.message)) (found c.args.pair items c.in-Some.at first))

pub returns-clause-now : goal.returns-clause-now
returns-clause-now g c =
    ap live c.in_ok-set.ensures.items ∙ live_taken c.args.pair c.args.self.now.slots.items c.in-Some.at c.in-Some.ensures.some

pub returns-clause-stands : goal.returns-clause-stands
returns-clause-stands g c =
    stands_taken c.args.self.now _ c.requires.stands c.args.pair c.in-Some.at c.in-Some.ensures.some
    c.in_ok-set.ensures.items (ap (λ (rows : Rows). rows.stands) c.in_ok-take.ensures.now) c.in_ok-tell.ensures.told
    c.tell.ensures.long c.in_ok-tell.ensures.moments refl
