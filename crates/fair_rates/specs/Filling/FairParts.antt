-- Fair rates as whole parts of one unit of the caps. Equal rates share a level.
use Rattle.std.specs.Prelude.{◌≡◌, ◌↔◌, ℕ, ◌<◌, List, All, length, Option, Some, None, IsSome, IfSome}
use Rattle.std.specs.Prelude.{slice_index, slice_index_or}
use Rattle.fairness.specs.Fairness.Exists.{product}
use Rattle.fairness.specs.Numbers.Amount.{parts_over}
use Rattle.fairness.specs.Fairness.Fair.{Side, IsLimited, IsFair}
use Rattle.fairness.specs.Numbers.Fits.{ReducedFits}
use Rattle.fairness.specs.Numbers.Ratio.{IsWorth}
use Rattle.fairness.specs.declared.bandwidth.Rate.{Rate}
use Rattle.fairness.specs.declared.bandwidth.Rate.TheVariants.{Unlimited, Finite}
use Rattle.fair_rates.specs.declared.bandwidth.parts.FairParts.{FairParts}
use Rattle.fairness.specs.declared.ratio.Ratio.{Ratio}

-- the place of a flow's level among the levels, if it has one
abbrev pub level_at : List (Option ℕ) → ℕ → Option ℕ
level_at level_of flow = slice_index_or level_of flow None

-- the parts of the level at that place, and none where there is no place
abbrev pub parts_of_level : List ℕ → Option ℕ → ℕ
parts_of_level levels None = 0
parts_of_level levels (Some place) = slice_index levels place

-- the parts of a flow: those of its level
abbrev pub flow_parts : List ℕ → List (Option ℕ) → ℕ → ℕ
flow_parts levels level_of flow = parts_of_level levels (level_at level_of flow)

-- ---- as fractions

-- one fraction for each of the levels
pub record AreLevelRates (scale : ℕ) (levels : List ℕ) (fractions : List Ratio) : Type 0 where
  pub one_each : length fractions ≡ length levels
  pub worth : (place : ℕ) (d : Ratio) → place < length fractions
      → IsWorth (slice_index_or fractions place d) (parts_over scale (slice_index levels place))

-- the rate at the place of a level: its fraction, or no limit where there is no place
abbrev pub IsRateAt : List Ratio → Option ℕ → Rate → Type 0
IsRateAt fractions None rate = rate ≡ Unlimited
IsRateAt fractions (Some place) rate =
    (place < length fractions) × ((d : Ratio) → rate ≡ Finite (slice_index_or fractions place d))

-- each flow has the rate of its level
pub record AreRatesAt (found : FairParts) (rates : List Rate) : Type 0 where
  pub fractions : List Ratio
  pub levels : AreLevelRates found.scale found.levels.items fractions
  pub one_each : length rates ≡ length found.level_of.items
  pub rated : (flow : ℕ) (d : Rate) → flow < length rates
      → IsRateAt fractions (level_at found.level_of.items flow) (slice_index_or rates flow d)

-- one of the levels, in lowest terms, is no fraction of 128 bits
pub record HasLargeLevel (found : FairParts) : Type 0 where
  pub place : ℕ
  pub inside : place < length found.levels.items
  pub large : ¬ ReducedFits (parts_over found.scale (slice_index found.levels.items place))

-- ---- what is answered

-- the levels of so many flows are fair on the sides, and the scale is the product of the factors by which it grew
pub record AreFairPartsOn (sides : List Side) (flows : ℕ) (found : FairParts) : Type 0 where
  pub grown : found.scale ≡ product found.growth.items
  pub factors : All (λ factor. 0 < factor) found.growth.items
  pub one_each : length found.level_of.items ≡ flows
  pub inside : All (λ level. IfSome level (λ place. place < length found.levels.items)) found.level_of.items
  pub fair : IsFair sides found.scale (flow_parts found.levels.items found.level_of.items)
  pub limited : (flow : ℕ) → IsSome (level_at found.level_of.items flow) ↔ IsLimited sides flow
