use Rattle.p2p_simulated_c.proofs.Common.{refl}
use Rattle.p2p_simulated_c.proofs.Ending.{on_open}
use Rattle.p2p_simulated_c.proofs.scheduler.p2p_advance.Goals as goal

pub returns : goal.returns
returns c =
    on_open _ _ _ _ _ _ _ c.in-Some.ensures.taken c.deref_mut.ensures.value c.of.ensures refl
    (c.advance-status.ensures.ended, c.advance-status.ensures.advanced)
