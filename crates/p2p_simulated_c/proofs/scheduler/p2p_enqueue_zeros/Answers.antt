use Rattle.p2p_simulated_c.proofs.Common.{refl}
use Rattle.p2p_simulated_c.proofs.Ending.{on_open}
use Rattle.p2p_simulated_c.proofs.scheduler.p2p_enqueue_zeros.Goals as goal

pub returns : goal.returns
returns c =
    on_open _ _ _ _ _ _ _ c.in-Some.ensures.taken c.deref_mut.ensures.value c.of.ensures refl
    c.enqueue_zeros-status.ensures
