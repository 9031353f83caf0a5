use Rattle.link_waiting.proofs.Common.{◌≡◌, ℕ, Option, List, Some, None, refl, sym, ap, ◌∙◌, subst, find, option_map}
use Rattle.link_waiting.proofs.Common.{Message, Slot, first_moment, Waiter, live, has_pair, AreKept, AreNumbered}
use Rattle.link_waiting.proofs.Common.{queue_of, waits_of}
use Rattle.undo_list.specs.Versions.{Versions}
use Rattle.link_waiting.proofs.Idle.Numbered.{find_false}
use Rattle.link_waiting.proofs.Idle.View.{messages_are, none_told, anew_told, first_seen, kept_changed, kept_back}
use Rattle.link_waiting.proofs.waiting.Waiting.tell_since.Given as given
use Rattle.link_waiting.proofs.waiting.Waiting.tell_since.Goals as goal

module _ {P : Type 0} (last : Option ℕ) where
  -- of the message of a waiter
  of_message : (found : Option (Waiter P)) → option_map (λ w. first_moment last w.message.latency) found
      ≡ option_map (λ (m : Message P). first_moment last m.latency) (option_map (λ (w : Waiter P). w.message) found)
  of_message None = refl
  of_message (Some w) = refl

pub returns-in_default-clause-answer : goal.returns-in_default-clause-answer
returns-in_default-clause-answer g c =
    let inside = c.self.inside in
    let ws : List (Waiter g.row.P.Denot) = live inside.slots.slots.items in
    sym
    (ap (option_map (λ (m : Message g.row.P.Denot). first_moment c.args.last_arrival m.latency))
    (first_seen g.P.Ord.cmp g.met.P.Ord.total c.args.origin.now c.args.recipient.now None inside.given_up inside.slots
    c.args.self.now c.self.view_is c.if-self.false c.in_default.ensures.alike
    ∙ ap (option_map (λ (w : Waiter g.row.P.Denot). w.message)) (find_false ws)))

pub returns-in_default-clause-since : goal.returns-in_default-clause-since
returns-in_default-clause-since g c =
    let inside = c.self.inside in
    none_told g.P.Ord.cmp g.met.P.Ord.total inside.pairs c.args.origin.now c.args.recipient.now inside.given_up inside.slots
    c.args.self.now c.self.view_is c.if-self.false c.self.invariant c.in_default.ensures.alike

pub invariant_of-self-in-Err : goal.invariant_of-self-in-Err
invariant_of-self-in-Err g c =
    let inside = c.self.inside in
    kept_back g.P.Ord.cmp inside.pairs c.tell_since.new.self c.undo.new.self
    (subst (λ (slots : Versions (Option (Slot g.row.P.Denot))). AreNumbered g.P.Ord.cmp inside.pairs (live slots.before))
    (sym c.tell_since.ensures.slots) c.self.invariant.before)
    c.undo.ensures.stands c.undo.ensures.marked c.undo.ensures.now c.undo.ensures.before

module _ (g : given.Over) (c : goal.In-Ok g) where
  kept : AreKept g.P.Ord.cmp c.self.inside.pairs c.tell_since.new.self
  kept =
      let inside = c.self.inside in
      kept_changed g.P.Ord.cmp inside.pairs inside.slots c.tell_since.new.self c.self.invariant c.in-Ok.ensures.stands
      c.tell_since.ensures.marked
      (subst (λ (slots : Versions (Option (Slot g.row.P.Denot))). AreNumbered g.P.Ord.cmp inside.pairs (live slots.items))
      (sym c.tell_since.ensures.slots) c.self.invariant.now)
      (ap (λ (slots : Versions (Option (Slot g.row.P.Denot))). slots.before) c.tell_since.ensures.slots)

pub invariant_of-self : goal.invariant_of-self
invariant_of-self g c = kept g c

pub returns-in-Ok-clause-answer : goal.returns-in-Ok-clause-answer
returns-in-Ok-clause-answer g c =
    let inside = c.self.inside in
    c.in-Ok.ensures.answer
    ∙ of_message c.args.last_arrival (find (has_pair c.in-Some.pair) (live inside.slots.slots.items))
    ∙ sym
    (ap (option_map (λ (m : Message g.row.P.Denot). first_moment c.args.last_arrival m.latency))
    (first_seen g.P.Ord.cmp g.met.P.Ord.total c.args.origin.now c.args.recipient.now (Some c.in-Some.pair) inside.given_up
    inside.slots c.args.self.now c.self.view_is c.if-self.false c.in-Some.ensures.alike))

pub returns-in-Ok-clause-messages : goal.returns-in-Ok-clause-messages
returns-in-Ok-clause-messages g c =
    let inside = c.self.inside in
    sym (messages_are g.P.Ord.cmp inside.given_up c.tell_since.new.self
    (waits_of g.P.Ord.cmp inside.given_up c.tell_since.new.self) refl c.if-self.false)
    ∙ ap (λ (slots : Versions (Option (Slot g.row.P.Denot))). queue_of g.P.Ord.cmp (live slots.items)) c.tell_since.ensures.slots
    ∙ messages_are g.P.Ord.cmp inside.given_up inside.slots c.args.self.now c.self.view_is c.if-self.false

pub returns-in-Ok-clause-since : goal.returns-in-Ok-clause-since
returns-in-Ok-clause-since g c =
    let inside = c.self.inside in
    anew_told g.P.Ord.cmp g.met.P.Ord.total inside.pairs c.args.origin.now c.args.recipient.now inside.given_up inside.slots
    c.args.self.now c.self.view_is c.if-self.false c.self.invariant c.tell_since.new.self c.in-Some.pair c.in-Ok.since (kept g c)
    c.in-Some.ensures.number c.in-Ok.ensures.told
