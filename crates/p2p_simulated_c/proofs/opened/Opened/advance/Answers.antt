use Rattle.p2p_simulated_c.proofs.Common.{refl, Opened}
use Rattle.p2p_simulated_c.proofs.Ending.{ended, advanced, same_plan}
use Rattle.p2p_simulated_c.proofs.opened.Opened.advance.Goals as goal

pub returns-clause-ended : goal.returns-clause-ended
returns-clause-ended c =
    let between : Opened = record c.args.self.now { state = c.advance-answer.new.self } in
    ended (λ done. done.items) c.advance-answer.result _ c.keep.result c.keep.new.count c.args.self.now between
    c.keep.new.self
    c.keep.ensures.state c.keep.ensures.status c.keep.ensures.completed c.keep.ensures.counted c.keep.ensures.moment refl refl refl
    c.advance-answer.ensures.made c.advance-answer.ensures.refused
    (same_plan c.advance-answer.result c.args.self.now between c.advance-answer.ensures.unchanged)

pub returns-clause-advanced : goal.returns-clause-advanced
returns-clause-advanced c =
    let between : Opened = record c.args.self.now { state = c.advance-answer.new.self } in
    advanced (λ done. done.items) c.advance-answer.result c.args.now c.keep.result c.args.self.now between
    c.keep.new.self
    c.keep.ensures.state c.keep.ensures.status c.keep.ensures.completed c.advance-answer.ensures.advanced
