use Rattle.link_waiting.proofs.Idle.View.{kept_marked}
use Rattle.link_waiting.proofs.waiting.Waiting.commit.Goals as goal

pub invariant_of-self : goal.invariant_of-self
invariant_of-self g c =
    kept_marked g.P.Ord.cmp c.self.inside.pairs c.self.inside.slots c.commit.new.self c.self.invariant c.commit.ensures.stands
    c.commit.ensures.marked c.commit.ensures.now c.commit.ensures.before
