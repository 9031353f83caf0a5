use Rattle.link_waiting.proofs.Common.{◌≡◌, Option, Some, None, refl, sym, ap, ◌∙◌, option_map}
use Rattle.link_waiting.proofs.Common.{message_of, Slot, Waiter, waiter_of, live}
use Rattle.std.proofs.Common.{Bor}
use Rattle.link_waiting.proofs.Idle.Numbered.{find_false}
use Rattle.link_waiting.proofs.Idle.View.{first_seen}
use Rattle.link_waiting.proofs.waiting.Waiting.slot_of.Goals as goal

through : {P : Type 0} (o : Option (Bor (Slot P)))
    → option_map (λ slot. message_of slot.now.message.value) o
    ≡ option_map (λ w. w.message) (option_map (λ slot. waiter_of slot.now) o)
through None = refl
through (Some slot) = refl

pub returns-in_err-number_in : goal.returns-in_err-number_in
returns-in_err-number_in g c =
    let inside = c.self.inside in
    ap (option_map (λ (slot : Bor (Slot g.row.P.Denot)). message_of slot.now.message.value)) c.from_residual.ensures
    ∙ sym (first_seen g.P.Ord.cmp g.met.P.Ord.total c.args.origin.now c.args.recipient.now None inside.given_up inside.slots
    c.args.self.now c.self.view_is c.if-self.false c.in_err-number_in.ensures.alike
    ∙ ap (option_map (λ (w : Waiter g.row.P.Denot). w.message)) (find_false (live inside.slots.slots.items)))

pub returns : goal.returns
returns g c =
    let inside = c.self.inside in
    through c.first.result ∙ ap (option_map (λ (w : Waiter g.row.P.Denot). w.message)) c.first.ensures
    ∙ sym (first_seen g.P.Ord.cmp g.met.P.Ord.total c.args.origin.now c.args.recipient.now (Some c.in_ok-number_in.field-0)
    inside.given_up inside.slots c.args.self.now c.self.view_is c.if-self.false c.in_ok-number_in.ensures.alike)
