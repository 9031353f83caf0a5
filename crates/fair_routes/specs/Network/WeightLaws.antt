-- What follows for flows with weights.
use Rattle.std.specs.Prelude.{◌↔◌, ◌==◌, ℕ, ◌<◌, List, Option, All, length, map}
use Rattle.std.specs.Prelude.{replicate, slice_index, slice_index_or, sum_by}
use Rattle.std.specs.List.{range_with_len}
use Rattle.std.specs.List.Sorted.{IsPermutation}
use Rattle.fairness.specs.Fairness.Fair.{IsLimited, IsFair}
use Rattle.fairness.specs.Fairness.Laws.{HaveUsersBelow}
use Rattle.fairness.specs.Fairness.Rates.{AreFairRates}
use Rattle.fairness.specs.Lists.Places.{places_from}
use Rattle.fairness.specs.Numbers.Amount.{parts_over}
use Rattle.fairness.specs.Numbers.Ratio.{IsWorth}
use Rattle.fairness.specs.declared.bandwidth.Rate.{Rate}
use Rattle.fairness.specs.declared.bandwidth.Rate.TheVariants.{Unlimited, Finite}
use Rattle.fairness.specs.Fairness.Fair.{Side}
use Rattle.fair_routes.specs.Network.Laws.{AreRenamed, routes_at, rates_at}
use Rattle.fair_routes.specs.Network.Sides.{sides_over}
use Rattle.fair_routes.specs.Network.Weights.{as_often, AreWeights, AreWeightedRates, AreMaxMinByWeight}

-- ---- as many flows of weight one

-- the flows by their places, each as often as its weight says
abbrev pub copies : List ℕ → List ℕ
copies weights = as_often weights (range_with_len 0 (length weights))

-- the places among these at which the flow stands
abbrev pub copies_of : List ℕ → ℕ → List ℕ
copies_of weights flow = places_from 0 (λ other. other == flow) (copies weights)

-- the rate is what flows of these places have together, or none of them is limited
abbrev pub IsTogether : List Side → ℕ → (ℕ → ℕ) → List ℕ → Rate → Type 0
IsTogether sides per parts places Unlimited = All (λ place. ¬ IsLimited sides place) places
IsTogether sides per parts places (Finite ratio) = IsWorth ratio (parts_over per (sum_by parts places))

-- a flow of some weight has what as many flows of weight one have together: whatever amounts are fair for these, the
-- rates by weight are their sums
abbrev pub WeightsAreCopies : Type 0
WeightsAreCopies =
    (caps : List (Option ℕ)) (routes : List (List ℕ)) (weights : List ℕ) (rates : List Rate)
    → AreWeights (length routes) weights
    → AreWeightedRates (sides_over caps routes) weights rates
    → (per : ℕ) (parts : ℕ → ℕ)
    → IsFair (sides_over caps (routes_at routes (copies weights))) per parts
    → (flow : ℕ) (d : Rate) → flow < length weights
    → IsTogether (sides_over caps (routes_at routes (copies weights))) per parts (copies_of weights flow)
    (slice_index_or rates flow d)

-- with all weights one the rates are those without weights
abbrev pub WeightsOfOneChangeNothing : Type 0
WeightsOfOneChangeNothing =
    (caps : List (Option ℕ)) (routes : List (List ℕ)) (rates : List Rate)
    → AreWeightedRates (sides_over caps routes) (replicate (length routes) 1) rates
    ↔ AreFairRates (sides_over caps routes) (length routes) rates

-- ---- max-min

-- rates by weight are max-min: no flow can get more unless one gets less that has no more for each one of its weight
abbrev pub RatesByWeightAreMaxMin : Type 0
RatesByWeightAreMaxMin =
    (sides : List Side) (weights : List ℕ) (rates : List Rate)
    → All (λ weight. 0 < weight) weights
    → HaveUsersBelow (length weights) sides
    → AreWeightedRates sides weights rates
    → AreMaxMinByWeight sides weights rates

-- ---- the same network said otherwise

-- under other numbers of the links the flows have the same rates
abbrev pub OrderOfLinksDoesNotMatterByWeight : Type 0
OrderOfLinksDoesNotMatterByWeight =
    (caps others : List (Option ℕ)) (name : ℕ → ℕ) (routes : List (List ℕ)) (weights : List ℕ) (rates : List Rate)
    → AreRenamed caps others name
    → AreWeightedRates (sides_over caps routes) weights rates
    → AreWeightedRates (sides_over others (map (map name) routes)) weights rates

-- the weights of the flows that stand at these places, in turn
abbrev pub weights_at : List ℕ → List ℕ → List ℕ
weights_at weights order = map (λ place. slice_index weights place) order

-- in another order each flow has the same rate
abbrev pub OrderOfFlowsDoesNotMatterByWeight : Type 0
OrderOfFlowsDoesNotMatterByWeight =
    (caps : List (Option ℕ)) (routes : List (List ℕ)) (weights : List ℕ) (rates : List Rate) (order : List ℕ)
    → AreWeights (length routes) weights
    → IsPermutation (range_with_len 0 (length routes)) order
    → AreWeightedRates (sides_over caps routes) weights rates
    → AreWeightedRates (sides_over caps (routes_at routes order)) (weights_at weights order) (rates_at rates order)
