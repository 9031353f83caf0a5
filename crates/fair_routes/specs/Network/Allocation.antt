-- What is allocated to flows over routes, and when they are refused.
use Rattle.std.specs.Prelude.{◌≡◌, ◌⊎◌, ℕ, ◌^◌, ◌<◌, ◌≤◌, List, length, Option, Some, Contains}
use Rattle.fairness.specs.declared.bandwidth.Rate.{Rate}
use Rattle.fairness.specs.declared.error.Error.TheVariants.{OutOfMemory, NumberTooLarge}
use Rattle.fairness.specs.Fairness.Laws.{IsTheOnlyFair, AreMaxMin, AreZeroWhereClosed}
use Rattle.fairness.specs.Fairness.Rates.{AreFairRates, HasDifferentRates}
use Rattle.fairness.specs.Refusals.FairRatesFit.{FairRatesFit, AreWholeOver}
use Rattle.fairness.specs.Refusals.TooLarge.{HasLargeRate}
use Rattle.fair_routes.specs.Network.Sides.{sides_over, AreListed, IsUnlisted}
use Rattle.fair_routes.specs.declared.routes.error.RouteError.{RouteError}
use Rattle.fair_routes.specs.declared.routes.error.RouteError.TheVariants.{Refused, NoSuchLink}

-- these rates are the one max-min fair allocation on the sides of the links
pub record IsAllocated (caps : List (Option ℕ)) (routes : List (List ℕ)) (rates : List Rate) : Type 0 where
  pub listed : AreListed (length caps) routes
  pub fair : AreFairRates (sides_over caps routes) (length routes) rates
  pub only : IsTheOnlyFair (sides_over caps routes) (length routes) rates
  pub max_min : AreMaxMin (sides_over caps routes) rates
  pub zero : AreZeroWhereClosed (sides_over caps routes) rates
  pub of_four : length routes ≤ 4 → AreWholeOver 12 rates
  pub of_sixteen : length routes ≤ 16 → AreWholeOver 54486432000 rates

-- and it took so many rounds of filling: as many as the list has different finite rates, and no more than there are
-- sides
pub record IsCounted (caps : List (Option ℕ)) (routes : List (List ℕ)) (rates : List Rate) (rounds : ℕ) : Type 0 where
  pub allocated : IsAllocated caps routes rates
  pub different : HasDifferentRates rates rounds
  pub few : rounds ≤ length (sides_over caps routes)

-- a cap of 2^64 or more is listed
abbrev pub HasLargeCap : List (Option ℕ) → Type 0
HasLargeCap caps = (cap : ℕ) × Contains caps (Some cap) × (2 ^ 64 ≤ cap)

-- a fair rate is no fraction of 128 bits; so no fair rates fit, and there are more than sixteen flows, or a cap is
-- large
pub record AreTooLarge (caps : List (Option ℕ)) (routes : List (List ℕ)) : Type 0 where
  pub listed : AreListed (length caps) routes
  pub large_rate : HasLargeRate (sides_over caps routes)
  pub nothing_fits : ¬ FairRatesFit (sides_over caps routes) (length routes)
  pub many_or_large : (16 < length routes) ⊎ HasLargeCap caps

-- why flows over routes are refused
abbrev pub IsRefusal : List (Option ℕ) → List (List ℕ) → RouteError → Type 0
IsRefusal caps routes (Refused e) = (e ≡ OutOfMemory) ⊎ ((e ≡ NumberTooLarge) × AreTooLarge caps routes)
IsRefusal caps routes (NoSuchLink flow link) = IsUnlisted (length caps) routes flow link
