-- Rates over routes of which there is one list.
use Rattle.std.specs.Prelude.{ℕ, List, Option, length}
use Rattle.p2p_simulated.specs.Fairness.Laws.{IsTheOnlyFair}
use Rattle.p2p_simulated.specs.Fairness.Rates.{AreFairRates}
use Rattle.p2p_simulated.specs.Network.Sides.{sides_over}
use Rattle.p2p_simulated.specs.declared.bandwidth.Rate.{Rate}

-- the rates are fair, and no others are
pub record HaveTheOnlyRates (caps : List (Option ℕ)) (routes : List (List ℕ)) (rates : List Rate) : Type 0 where
  pub fair : AreFairRates (sides_over caps routes) (length routes) rates
  pub only : IsTheOnlyFair (sides_over caps routes) (length routes) rates
