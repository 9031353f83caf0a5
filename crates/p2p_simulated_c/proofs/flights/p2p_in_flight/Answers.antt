use Rattle.p2p_simulated_c.proofs.Common.{refl}
use Rattle.p2p_simulated_c.proofs.Ending.{on_open}
use Rattle.p2p_simulated_c.proofs.flights.p2p_in_flight.Goals as goal

pub returns : goal.returns
returns c =
    on_open _ _ _ _ _ _ _ c.in-Some.ensures.taken refl c.of.ensures refl
    (refl, rw c.deref.ensures at c.in_flight-status.ensures)
