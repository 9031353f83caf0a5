use Rattle.link_waiting.proofs.Common.{Some, [], ◌∷◌, refl, ap, ◌∙◌, Slot, live}
use Rattle.link_waiting.proofs.Idle.Slots.{live_append}
use Rattle.link_waiting.proofs.Idle.Stands.{stands_added, on_ok, on_both}
use Rattle.link_waiting.proofs.slots.Slots.push.Given as given
use Rattle.link_waiting.proofs.slots.Slots.push.Goals as goal

module _ (g : given.Over) (c : goal.After-make_room g) where
  abbrev slot : Slot g.row.P.Denot
  slot = record { message = c.args.message; pair = c.args.pair }

pub returns-clause-now : goal.returns-clause-now
returns-clause-now g c = on_ok c.make_room.result
    (ap live c.in_ok-push.ensures.items ∙ live_append c.args.self.now.slots.items (Some (slot g c) ∷ []))

pub returns-clause-stands : goal.returns-clause-stands
returns-clause-stands g c = on_both c.make_room.result c.make_room.ensures.room c.make_room.ensures.moments
    (λ low moments. stands_added c.args.self.now _ c.requires.stands (slot g c) c.in_ok-push.ensures.items
    c.in_ok-link.ensures.now c.make_room.ensures.same c.make_room.ensures.more low moments refl)
