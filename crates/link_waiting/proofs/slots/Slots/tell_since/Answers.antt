use Rattle.link_waiting.proofs.Common.{◌≡◌, Some, None, refl, sym, ap, ◌∙◌, option_map, first_moment, Waiter}
use Rattle.link_waiting.proofs.Common.{Slot, same_Some}
use Rattle.link_pairs.specs.declared.message.Message.{Message}
use Rattle.link_waiting.proofs.Idle.Slots.{found, held_there}
use Rattle.link_waiting.proofs.Idle.Stands.{stands_told, pair_low, told_already}
use Rattle.link_waiting.proofs.slots.Slots.tell_since.Goals as goal

pub returns-in_default-clause-told : goal.returns-in_default-clause-told
returns-in_default-clause-told g c =
    told_already c.args.self.now.sinces.items c.args.pair None
    (c.requires.stands.told.only c.args.pair c.in_default.ensures.none)

pub tell-requires-clause-room : goal.tell-requires-clause-room
tell-requires-clause-room g c =
    pair_low c.args.self.now c.args.self.now c.requires.stands c.args.pair c.in-Some.at c.in-Some.ensures.some

pub returns-clause-answer : goal.returns-clause-answer
returns-clause-answer g c =
    let items = c.args.self.now.slots.items in
    let first = c.in-Some.ensures.some in
    let slot : c.slot.result.now ≡ first.slot =
    same_Some _ _ (sym c.slot.ensures ∙ held_there c.args.pair items c.in-Some.at first) in
    ap Some c.ready_moment.ensures
    ∙ ap (λ (m : Message g.row.P.Denot). Some (first_moment c.args.last_arrival m.latency)) c.deref.ensures
    ∙ ap (λ (s : Slot g.row.P.Denot). Some (first_moment c.args.last_arrival s.message.value.latency)) slot
    ∙ sym (ap (option_map (λ (w : Waiter g.row.P.Denot). first_moment c.args.last_arrival w.message.latency))
    (found c.args.pair items c.in-Some.at first))

pub returns-clause-stands : goal.returns-clause-stands
returns-clause-stands g c =
    stands_told c.args.self.now _ c.requires.stands c.args.pair c.in-Some.at c.in-Some.ensures.some (Some c.ready_moment.result) refl refl
    c.in_ok-tell.ensures.told c.tell.ensures.long c.in_ok-tell.ensures.moments refl
