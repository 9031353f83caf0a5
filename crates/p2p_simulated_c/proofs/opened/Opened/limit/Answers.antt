use Rattle.p2p_simulated_c.proofs.Common.{refl, Opened}
use Rattle.p2p_simulated_c.proofs.Ending.{ended, same_plan}
use Rattle.p2p_simulated_c.proofs.opened.Opened.limit.Goals as goal

pub returns : goal.returns
returns c =
    let between : Opened = record c.args.self.now { state = c.limit-answer.new.self } in
    ended (λ done. done.items) c.limit-answer.result _ c.keep.result c.keep.new.count c.args.self.now between
    c.keep.new.self
    c.keep.ensures.state c.keep.ensures.status c.keep.ensures.completed c.keep.ensures.counted c.keep.ensures.moment refl refl refl
    c.limit-answer.ensures.made c.limit-answer.ensures.refused
    (same_plan c.limit-answer.result c.args.self.now between c.limit-answer.ensures.unchanged)
