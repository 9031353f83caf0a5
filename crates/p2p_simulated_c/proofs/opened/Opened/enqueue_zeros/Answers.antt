use Rattle.p2p_simulated_c.proofs.Common.{refl, sym, Opened}
use Rattle.p2p_simulated_c.proofs.Ending.{ended, same_plan}
use Rattle.p2p_simulated_c.proofs.opened.Opened.enqueue_zeros.Goals as goal

pub returns : goal.returns
returns c =
    let between : Opened = record c.args.self.now { state = c.enqueue-answer.new.self } in
    rw (sym c.zeros.ensures)
    (ended (λ done. done.items) c.enqueue-answer.result _ c.keep.result c.keep.new.count c.args.self.now between
    c.keep.new.self
    c.keep.ensures.state c.keep.ensures.status c.keep.ensures.completed c.keep.ensures.counted c.keep.ensures.moment refl refl refl
    c.enqueue-answer.ensures.made c.enqueue-answer.ensures.refused (same_plan c.enqueue-answer.result c.args.self.now between c.enqueue-answer.ensures.unchanged))
