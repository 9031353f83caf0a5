use Rattle.p2p_simulated_c.proofs.Common.{List, IfOk, IfErr, refl, subst, IsMade, IsRefused, call_enqueue_all, Opened}
use Rattle.link_simulation.specs.Simulation.Messages.{Message}
use Rattle.p2p_simulated_c.proofs.Ending.{ended, same_plan}
use Rattle.p2p_simulated_c.proofs.opened.Opened.enqueue_all.Goals as goal

pub returns : goal.returns
returns c =
    let old = c.args.self.now.state in
    let between : Opened = record c.args.self.now { state = c.enqueue_all-answer.new.self } in
    let answer = c.enqueue_all-answer.result in
    ended (λ done. done.items) answer _ c.keep.result c.keep.new.count c.args.self.now between c.keep.new.self
    c.keep.ensures.state c.keep.ensures.status c.keep.ensures.completed c.keep.ensures.counted c.keep.ensures.moment
    refl refl refl
    (subst
    (λ (ms : List (Message _)). IfOk answer
    (λ done. IsMade old (call_enqueue_all c.args.now ms) done.items c.enqueue_all-answer.new.self))
    c.in-Ok.ensures.messages c.enqueue_all-answer.ensures.as_one)
    (subst (λ (ms : List (Message _)). IfErr answer (IsRefused old (call_enqueue_all c.args.now ms)))
    c.in-Ok.ensures.messages c.enqueue_all-answer.ensures.refused_as_one)
    (same_plan answer c.args.self.now between c.enqueue_all-answer.ensures.unchanged)
