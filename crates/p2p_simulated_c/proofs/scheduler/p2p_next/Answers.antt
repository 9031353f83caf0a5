use Rattle.p2p_simulated_c.proofs.Common.{refl}
use Rattle.p2p_simulated_c.proofs.Ending.{on_open}
use Rattle.p2p_simulated_c.proofs.scheduler.p2p_next.Goals as goal

pub returns : goal.returns
returns c =
    on_open _ _ _ _ _ _ _ c.in-Some.ensures.taken refl c.of-2.ensures refl
    (refl, refl, rw c.deref.ensures at c.next.ensures)
