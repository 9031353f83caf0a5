use Rattle.link_simulation.proofs.Common.{◌≡◌, ℕ, Option, Some, None, refl}
use Rattle.link_laws.proofs.model.meanings.a_world_that_tells_equal_peers_apart_is_told.Goals as goal

pub returns-clause-caps : goal.returns-clause-caps
returns-clause-caps c h = let clash : ◌≡◌ {A = Option ℕ} (Some 1) None = h.caps.egress 1 2 refl in cc

pub returns-clause-arrivals : goal.returns-clause-arrivals
returns-clause-arrivals c h = let clash : ◌≡◌ {A = Option ℕ} (Some 1) None = h.last_arrival 1 2 3 3 refl refl in cc
