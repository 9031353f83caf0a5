-- Worlds of the simulation that a scheduler stands for.
use Rattle.std.specs.Prelude.{◌≡◌, ℕ}
use Rattle.std.specs.declared.cmp.Ordering.{Ordering}
use Rattle.p2p_simulated.specs.Simulation.World.{World}
use Rattle.p2p_simulated.specs.Rule.Planned.{Planned}
use Rattle.p2p_simulated.specs.Rule.StandsFor.{StandsFor}

-- the planned world stands for a world of the simulation at that moment
pub record IsAWorldAt {P : Type 0} (cmp : P → P → Ordering) (p : Planned P) (now : ℕ) : Type 0 where
  pub world : World P
  pub stands : StandsFor cmp p world
  pub moment : world.moment ≡ now
