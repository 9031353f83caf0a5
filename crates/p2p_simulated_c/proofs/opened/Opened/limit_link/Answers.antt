use Rattle.p2p_simulated_c.proofs.Common.{refl, Opened}
use Rattle.p2p_simulated_c.proofs.Ending.{ended, same_plan}
use Rattle.p2p_simulated_c.proofs.opened.Opened.limit_link.Goals as goal

pub returns : goal.returns
returns c =
    let between : Opened = record c.args.self.now { state = c.limit_link-answer.new.self } in
    ended (λ done. done.items) c.limit_link-answer.result _ c.keep.result c.keep.new.count c.args.self.now between
    c.keep.new.self
    c.keep.ensures.state c.keep.ensures.status c.keep.ensures.completed c.keep.ensures.counted c.keep.ensures.moment refl refl refl
    c.limit_link-answer.ensures.made c.limit_link-answer.ensures.refused
    (same_plan c.limit_link-answer.result c.args.self.now between c.limit_link-answer.ensures.unchanged)
