use Rattle.link_waiting.proofs.Common.{refl, sym, ap, ◌∙◌, live, AreNumbered, since_of, waits_of}
use Rattle.link_waiting.proofs.Idle.View.{kept_back, on_ok, told_are}
use Rattle.link_waiting.proofs.waiting.Waiting.push.Given as given
use Rattle.link_waiting.proofs.waiting.Waiting.push.Goals as goal
use Rattle.link_waiting.proofs.waiting.Waiting.push.Goals.{then-self-via-then-self, then-self-via-else-self+then-is_err}

numbered : (g : given.Over) (c : goal.Joined-drop g)
    → AreNumbered g.P.Ord.cmp c.then-self.self-inside.pairs (live c.then-self.self-inside.slots.slots.before)
numbered g c = elim c.then-self.branch [
  | then-self-via-then-self w ↦ rw w.self-inside-is c.self.invariant.before
  | then-self-via-else-self+then-is_err w ↦ rw w.self-inside-is w.add.ensures.numbered
]

pub invariant_of-self-then-self : goal.invariant_of-self-then-self
invariant_of-self-then-self g c =
    kept_back g.P.Ord.cmp c.then-self.self-inside.pairs c.then-self.self-inside.slots c.undo.new.self (numbered g c)
    c.undo.ensures.stands c.undo.ensures.marked c.undo.ensures.now c.undo.ensures.before

pub returns-clause-since : goal.returns-clause-since
returns-clause-since g c =
    let inside = c.self.inside in
    ap (since_of g.P.Ord.cmp)
    (sym (told_are g.P.Ord.cmp inside.given_up c.add.new.slots (waits_of g.P.Ord.cmp inside.given_up c.add.new.slots) refl
    c.if-self.false))
    ∙ on_ok c.add.result (sym c.if-is_err.ensures.value) c.add.ensures.told
    ∙ ap (since_of g.P.Ord.cmp)
    (told_are g.P.Ord.cmp inside.given_up inside.slots c.args.self.now c.self.view_is c.if-self.false)
