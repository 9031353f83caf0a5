-- Lists of rates: which of them are fair, and which rate is an id's.
use Rattle.std.specs.Prelude.{◌≡◌, ◌≢◌, ◌↔◌, ℕ, ◌<◌, ◌==◌, cond, List, [], ◌∷◌, length, AllPairs}
use Rattle.std.specs.Prelude.{Contains, Option, Some, None, slice_index_or}
use Rattle.fairness.specs.declared.bandwidth.Flow.{Flow}
use Rattle.fairness.specs.declared.bandwidth.Rate.{Rate}
use Rattle.fairness.specs.declared.bandwidth.Rate.TheVariants.{Unlimited, Finite}
use Rattle.fairness.specs.Fairness.Fair.{Side, IsLimited, IsFair}
use Rattle.fairness.specs.Numbers.Ratio.{IsWorth}
use Rattle.fairness.specs.declared.ratio.Ratio.{Ratio}
use Rattle.fairness.specs.Numbers.Amount.{parts_over}

-- the rate of a flow: unlimited where it uses no side, and else its parts over `per`
abbrev pub IsRateOf : List Side → ℕ → (ℕ → ℕ) → ℕ → Rate → Type 0
IsRateOf sides per parts flow Unlimited = ¬ IsLimited sides flow
IsRateOf sides per parts flow (Finite ratio) = IsLimited sides flow × IsWorth ratio (parts_over per (parts flow))

-- one rate for each of so many flows, and over some common denominator they are max-min fair
pub record AreFairRates (sides : List Side) (flows : ℕ) (rates : List Rate) : Type 0 where
  pub one_each : length rates ≡ flows
  pub per : ℕ
  pub parts : ℕ → ℕ
  pub fair : IsFair sides per parts
  pub rated : (flow : ℕ) (d : Rate) → flow < flows → IsRateOf sides per parts flow (slice_index_or rates flow d)

-- these are the finite rates of the list, each once
pub record AreItsRates (rates : List Rate) (values : List Ratio) : Type 0 where
  pub different : AllPairs (λ a b. a ≢ b) values
  pub each : (ratio : Ratio) → Contains rates (Finite ratio) ↔ Contains values ratio

-- the list has so many different finite rates
abbrev pub HasDifferentRates : List Rate → ℕ → Type 0
HasDifferentRates rates n = (values : List Ratio) × AreItsRates rates values × (length values ≡ n)

-- the first if it is there, and else the second
abbrev pub or_else : {X : Type 0} → Option X → Option X → Option X
or_else None other = other
or_else (Some x) other = Some x

-- the rate of the last flow that has the id
abbrev pub last_rate : {P : Type 0} → ℕ → List (Flow P) → List Rate → Option Rate
last_rate id [] rates = None
last_rate id (f ∷ flows) [] = None
last_rate id (f ∷ flows) (r ∷ rates) = or_else (last_rate id flows rates) (cond (f.id == id) (Some r) None)
