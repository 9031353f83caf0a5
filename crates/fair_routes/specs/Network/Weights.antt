-- Flows with weights: what is fair among them, what is allocated to them, and when they are refused.
-- A flow counts at each side as often as its weight says, and has what it gets there for each time together.
use Rattle.std.specs.Prelude.{◌≡◌, ◌≢◌, ◌⊎◌, ℕ, ◌*◌, ◌^◌, ◌<◌, ◌≤◌, List, [], ◌∷◌, ◌++◌}
use Rattle.std.specs.Prelude.{All, Contains, Option, Some}
use Rattle.std.specs.Prelude.{length, map, replicate, slice_get, slice_index, slice_index_or, sum_by}
use Rattle.fairness.specs.declared.bandwidth.Rate.{Rate}
use Rattle.fairness.specs.declared.error.Error.TheVariants.{OutOfMemory, NumberTooLarge}
use Rattle.fairness.specs.Fairness.Fair.{Side, IsLimited, IsWithinCaps, IsFair}
use Rattle.fairness.specs.Fairness.Laws.{AreZeroWhereClosed, HasRate, IsLess, IsAtMost}
use Rattle.fairness.specs.Fairness.Rates.{IsRateOf}
use Rattle.fairness.specs.Numbers.Amount.{Amount, parts_over}
use Rattle.fairness.specs.Numbers.Fits.{ReducedFits}
use Rattle.fairness.specs.Numbers.Ratio.{amount_of}
use Rattle.fairness.specs.declared.ratio.Ratio.{Ratio}
use Rattle.fair_routes.specs.Network.Sides.{sides_over, AreListed, IsUnlisted}
use Rattle.fair_routes.specs.declared.routes.error.RouteError.TheVariants.{Refused, NoSuchLink}
use Rattle.fair_routes.specs.declared.routes.weighted.error.WeightError.{WeightError}
use Rattle.fair_routes.specs.declared.routes.weighted.error.WeightError.TheVariants.{Routes, OtherCount, NoWeight, TooMuchWeight}

-- the weight of the flow at that place
abbrev pub weight_at : List ℕ → ℕ → ℕ
weight_at weights flow = slice_index weights flow

-- these users, each as often as its weight says
abbrev pub as_often : List ℕ → List ℕ → List ℕ
as_often weights [] = []
as_often weights (user ∷ users) = replicate (weight_at weights user) user ++ as_often weights users

-- the side, at which each user counts so often
abbrev pub weighted : List ℕ → Side → Side
weighted weights side = record { cap = side.cap; users = as_often weights side.users }

-- what each flow has together: so many parts for each one of its weight
abbrev pub by_weight : List ℕ → (ℕ → ℕ) → ℕ → ℕ
by_weight weights parts flow = weight_at weights flow * parts flow

-- one rate for each weight, and over the weights they are max-min fair
pub record AreWeightedRates (sides : List Side) (weights : List ℕ) (rates : List Rate) : Type 0 where
  pub one_each : length rates ≡ length weights
  pub per : ℕ
  pub parts : ℕ → ℕ
  pub fair : IsFair (map (weighted weights) sides) per parts
  pub rated : (flow : ℕ) (d : Rate) → flow < length weights
      → IsRateOf sides per (by_weight weights parts) flow (slice_index_or rates flow d)

-- every list of such rates equals this one
abbrev pub IsTheOnlyWeighted : List Side → List ℕ → List Rate → Type 0
IsTheOnlyWeighted sides weights rates = (others : List Rate) → AreWeightedRates sides weights others → others ≡ rates

-- ---- max-min by weight

-- what each one of so much weight has of an amount
abbrev pub each_of : ℕ → Amount → Amount
each_of weight a = record { num = a.num; den = a.den * weight }

-- a flow that gets less than its rate, which is for each one of its weight no greater than that of the given flow
pub record PaysByWeight (weights : List ℕ) (rates : List Rate) (per : ℕ) (parts : ℕ → ℕ) (flow : ℕ)
    (rate : Ratio) : Type 0 where
  pub payer : ℕ
  pub own : Ratio
  pub has : HasRate rates payer own
  pub no_greater : IsAtMost (each_of (weight_at weights payer) (amount_of own))
      (each_of (weight_at weights flow) (amount_of rate))
  pub loses : IsLess (parts_over per (parts payer)) (amount_of own)

-- in any amounts within the caps, where a limited flow gets more than its rate some flow pays for it
abbrev pub AreMaxMinByWeight : List Side → List ℕ → List Rate → Type 0
AreMaxMinByWeight sides weights rates =
    (per : ℕ) (parts : ℕ → ℕ)
    → IsWithinCaps sides per parts
    → (flow : ℕ) (rate : Ratio)
    → HasRate rates flow rate
    → IsLess (amount_of rate) (parts_over per (parts flow))
    → PaysByWeight weights rates per parts flow rate

-- ---- weights

-- a weight above zero for each of so many flows
pub record AreWeights (flows : ℕ) (weights : List ℕ) : Type 0 where
  pub one_each : length weights ≡ flows
  pub positive : All (λ weight. 0 < weight) weights

-- the users of each side have a weight below 2^64 together
abbrev pub HaveLittleWeight : List ℕ → List Side → Type 0
HaveLittleWeight weights sides = All (λ side. sum_by (weight_at weights) side.users < 2 ^ 64) sides

-- those of some side have not
pub record HasMuchWeight (weights : List ℕ) (sides : List Side) : Type 0 where
  pub side : Side
  pub listed : Contains sides side
  pub much : 2 ^ 64 ≤ sum_by (weight_at weights) side.users

-- ---- what is allocated

-- these rates are the one list that is fair by weight on the sides of the links
pub record IsWeightedAllocation (caps : List (Option ℕ)) (routes : List (List ℕ)) (weights : List ℕ)
    (rates : List Rate) : Type 0 where
  pub listed : AreListed (length caps) routes
  pub weights_of : AreWeights (length routes) weights
  pub little : HaveLittleWeight weights (sides_over caps routes)
  pub fair : AreWeightedRates (sides_over caps routes) weights rates
  pub only : IsTheOnlyWeighted (sides_over caps routes) weights rates
  pub max_min : AreMaxMinByWeight (sides_over caps routes) weights rates
  pub zero : AreZeroWhereClosed (sides_over caps routes) rates

-- ---- when flows with weights are refused

-- the fair rate of a flow by its weight, in lowest terms, is no fraction of 128 bits
pub record HasLargeWeightedRate (sides : List Side) (weights : List ℕ) : Type 0 where
  pub per : ℕ
  pub parts : ℕ → ℕ
  pub fair : IsFair (map (weighted weights) sides) per parts
  pub flow : ℕ
  pub limited : IsLimited sides flow
  pub large : ¬ ReducedFits (parts_over per (by_weight weights parts flow))

-- the weights are not those of so many flows, or one of them is zero
abbrev pub IsOfWeights : ℕ → List ℕ → WeightError → Type 0
IsOfWeights flows weights (Routes e) = ⊥
IsOfWeights flows weights (OtherCount of many) = (of ≡ flows) × (many ≡ length weights) × (many ≢ of)
IsOfWeights flows weights (NoWeight flow) = slice_get weights flow ≡ Some 0
IsOfWeights flows weights TooMuchWeight = ⊥

-- why flows with weights are refused
abbrev pub IsWeightRefusal : List (Option ℕ) → List (List ℕ) → List ℕ → WeightError → Type 0
IsWeightRefusal caps routes weights (Routes (Refused e)) = (e ≡ OutOfMemory)
    ⊎ ((e ≡ NumberTooLarge) × AreListed (length caps) routes × HasLargeWeightedRate (sides_over caps routes) weights)
IsWeightRefusal caps routes weights (Routes (NoSuchLink flow link)) = IsUnlisted (length caps) routes flow link
IsWeightRefusal caps routes weights (OtherCount of many) = IsOfWeights (length routes) weights (OtherCount of many)
IsWeightRefusal caps routes weights (NoWeight flow) = IsOfWeights (length routes) weights (NoWeight flow)
IsWeightRefusal caps routes weights TooMuchWeight = HasMuchWeight weights (sides_over caps routes)
