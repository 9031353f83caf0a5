use Rattle.link_waiting.proofs.Idle.View.{kept_back}
use Rattle.link_waiting.proofs.waiting.Waiting.undo.Goals as goal

pub invariant_of-self : goal.invariant_of-self
invariant_of-self g c =
    kept_back g.P.Ord.cmp c.self.inside.pairs c.self.inside.slots c.undo.new.self c.self.invariant.before c.undo.ensures.stands
    c.undo.ensures.marked c.undo.ensures.now c.undo.ensures.before
