use Rattle.link_waiting.proofs.Common.{◌≡◌, Option, List, Some, None, refl, sym, ap, ◌∙◌, subst, option_map}
use Rattle.link_waiting.proofs.Common.{without_first, Slot, Waiter, live, has_number, has_pair, AreKept, AreNumbered}
use Rattle.link_waiting.proofs.Common.{queue_of, waits_of}
use Rattle.link_waiting.proofs.Idle.Slots.{without_missing}
use Rattle.link_waiting.proofs.Idle.Numbered.{find_false, numbered_without}
use Rattle.link_waiting.proofs.Idle.View.{messages_are, first_seen, rest_seen, none_told, anew_told, kept_changed, kept_back}
use Rattle.link_waiting.proofs.waiting.Waiting.take_first.Given as given
use Rattle.link_waiting.proofs.waiting.Waiting.take_first.Goals as goal

module _ (g : given.Over) (c : goal.In_default g) where
  stays : without_first (has_number None) (live c.self.inside.slots.slots.items) ≡ live c.self.inside.slots.slots.items
  stays = without_missing (has_number None) (live c.self.inside.slots.slots.items)
      (find_false (live c.self.inside.slots.slots.items))

pub returns-in_default-clause-taken : goal.returns-in_default-clause-taken
returns-in_default-clause-taken g c =
    let inside = c.self.inside in
    sym (first_seen g.P.Ord.cmp g.met.P.Ord.total c.args.origin.now c.args.recipient.now None inside.given_up inside.slots
    c.args.self.now c.self.view_is c.if-self.false c.in_default.ensures.alike
    ∙ ap (option_map (λ (w : Waiter g.row.P.Denot). w.message)) (find_false (live inside.slots.slots.items)))

pub returns-in_default-clause-others : goal.returns-in_default-clause-others
returns-in_default-clause-others g c =
    let inside = c.self.inside in
    sym (messages_are g.P.Ord.cmp inside.given_up inside.slots c.args.self.now c.self.view_is c.if-self.false)
    ∙ ap (queue_of g.P.Ord.cmp) (sym (stays g c))
    ∙ rest_seen g.P.Ord.cmp g.met.P.Ord.total c.args.origin.now c.args.recipient.now None inside.given_up inside.slots
    c.args.self.now c.self.view_is c.if-self.false c.in_default.ensures.alike

pub returns-in_default-clause-since : goal.returns-in_default-clause-since
returns-in_default-clause-since g c =
    let inside = c.self.inside in
    none_told g.P.Ord.cmp g.met.P.Ord.total inside.pairs c.args.origin.now c.args.recipient.now inside.given_up inside.slots
    c.args.self.now c.self.view_is c.if-self.false c.self.invariant c.in_default.ensures.alike

module _ (g : given.Over) (c : goal.In-Ok g) where
  kept : AreKept g.P.Ord.cmp c.self.inside.pairs c.take_first.new.self
  kept =
      let inside = c.self.inside in
      kept_changed g.P.Ord.cmp inside.pairs inside.slots c.take_first.new.self c.self.invariant c.in-Ok.ensures.stands
      c.take_first.ensures.marked
      (subst (AreNumbered g.P.Ord.cmp inside.pairs) (sym c.in-Ok.ensures.now)
      (numbered_without g.P.Ord.cmp g.met.P.Ord.total inside.pairs (has_pair c.in-Some.pair) (live inside.slots.slots.items)
      c.self.invariant.now))
      c.take_first.ensures.before

pub invariant_of-self : goal.invariant_of-self
invariant_of-self g c = kept g c

pub invariant_of-self-in-Err : goal.invariant_of-self-in-Err
invariant_of-self-in-Err g c =
    let inside = c.self.inside in
    kept_back g.P.Ord.cmp inside.pairs c.take_first.new.self c.undo.new.self
    (subst (λ (slots : List (Option (Slot g.row.P.Denot))). AreNumbered g.P.Ord.cmp inside.pairs (live slots))
    (sym c.take_first.ensures.before) c.self.invariant.before)
    c.undo.ensures.stands c.undo.ensures.marked c.undo.ensures.now c.undo.ensures.before

pub returns-in-Ok-clause-taken : goal.returns-in-Ok-clause-taken
returns-in-Ok-clause-taken g c =
    let inside = c.self.inside in
    c.in-Ok.ensures.taken
    ∙ sym (first_seen g.P.Ord.cmp g.met.P.Ord.total c.args.origin.now c.args.recipient.now (Some c.in-Some.pair)
    inside.given_up inside.slots c.args.self.now c.self.view_is c.if-self.false c.in-Some.ensures.alike)

pub returns-in-Ok-clause-others : goal.returns-in-Ok-clause-others
returns-in-Ok-clause-others g c =
    let inside = c.self.inside in
    sym (messages_are g.P.Ord.cmp inside.given_up c.take_first.new.self
    (waits_of g.P.Ord.cmp inside.given_up c.take_first.new.self) refl c.if-self.false)
    ∙ ap (queue_of g.P.Ord.cmp) c.in-Ok.ensures.now
    ∙ rest_seen g.P.Ord.cmp g.met.P.Ord.total c.args.origin.now c.args.recipient.now (Some c.in-Some.pair)
    inside.given_up inside.slots c.args.self.now c.self.view_is c.if-self.false c.in-Some.ensures.alike

pub returns-in-Ok-clause-since : goal.returns-in-Ok-clause-since
returns-in-Ok-clause-since g c =
    let inside = c.self.inside in
    anew_told g.P.Ord.cmp g.met.P.Ord.total inside.pairs c.args.origin.now c.args.recipient.now inside.given_up inside.slots
    c.args.self.now c.self.view_is c.if-self.false c.self.invariant c.take_first.new.self c.in-Some.pair None (kept g c)
    c.in-Some.ensures.number c.in-Ok.ensures.told
