-- What is found on some sides: rates by the ids of the flows, and how many rounds that took.
use Rattle.std.specs.Prelude.{◌≡◌, ℕ, ◌≤◌, List, length, Option}
use Rattle.fairness.specs.Fairness.Fair.{Side}
use Rattle.fairness.specs.Fairness.Rates.{AreFairRates, HasDifferentRates, last_rate}
use Rattle.fairness.specs.declared.bandwidth.Flow.{Flow}
use Rattle.fairness.specs.declared.bandwidth.Rate.{Rate}

-- the rates are fair, each id has that of the last flow that has it, and there are as many rounds as different finite
-- rates, and no more than sides
pub record AreCountedRates {P : Type 0} (sides : List Side) (flows : List (Flow P)) (rate_of : ℕ → Option Rate)
    (rounds : ℕ) : Type 0 where
  pub rates : List Rate
  pub fair : AreFairRates sides (length flows) rates
  pub by_id : (id : ℕ) → rate_of id ≡ last_rate id flows rates
  pub different : HasDifferentRates rates rounds
  pub few : rounds ≤ length sides
