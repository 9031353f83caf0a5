use Rattle.p2p_simulated_c.proofs.Common.{ℕ, List, refl, Ok, Err, Completion, Opened}
use Rattle.p2p_simulated_c.proofs.Ending.{ended, same_plan}
use Rattle.p2p_simulated_c.proofs.opened.Opened.advance_counted.Goals as goal

pub returns-in-Ok-clause-ended : goal.returns-in-Ok-clause-ended
returns-in-Ok-clause-ended c =
    let between : Opened = record c.args.self.now { state = c.advance_counted.new.self } in
    ended (λ done. done.items) (Ok c.in-Ok.done) _ c.keep.result c.keep.new.count c.args.self.now between
    c.keep.new.self
    c.keep.ensures.state c.keep.ensures.status c.keep.ensures.completed c.keep.ensures.counted c.keep.ensures.moment refl
    refl refl c.in-Ok.ensures.made
    tt tt

pub returns-in-Err-clause-ended : goal.returns-in-Err-clause-ended
returns-in-Err-clause-ended c =
    let between : Opened = record c.args.self.now { state = c.advance_counted.new.self } in
    ended {V = List (Completion ℕ (List ℕ))} (λ done. done) (Err c.in-Err.why) _ c.keep-in-Err.result c.keep-in-Err.new.count
    c.args.self.now between c.keep-in-Err.new.self
    c.keep-in-Err.ensures.state c.keep-in-Err.ensures.status c.keep-in-Err.ensures.completed
    c.keep-in-Err.ensures.counted c.keep-in-Err.ensures.moment refl refl refl tt c.in-Err.ensures.refused
    (same_plan {V = List (Completion ℕ (List ℕ))} (Err c.in-Err.why) c.args.self.now between c.in-Err.ensures.unchanged)
