-- A network that is told bit by bit, whose flows and links go by any numbers, and the rates of its flows.
use Rattle.std.specs.Prelude.{◌≡◌, ◌⊎◌, ℕ, ◌<◌, ◌==◌, List, [], ◌∷◌, ◌++◌, All}
use Rattle.std.specs.Prelude.{Option, Some, None, length, map}
use Rattle.std.specs.Prelude.{option_map, unwrap_or, slice_get, if◌then◌else◌}
use Rattle.std.specs.BTreeMap.{get, keys, values}
use Rattle.std.specs.Int.NonZero.{non_zero_u64_get}
use Rattle.std.specs.List.{flat_map}
use Rattle.std.specs.Ordering.{nat_cmp}
use Rattle.fairness.specs.Fairness.Fair.{Side}
use Rattle.fairness.specs.declared.bandwidth.Rate.{Rate}
use Rattle.fairness.specs.declared.error.Error.{Error}
use Rattle.fairness.specs.declared.error.Error.TheVariants.{OutOfMemory, NumberTooLarge}
use Rattle.fair_routes.specs.Network.Sides.{has_link, side_of_link}
use Rattle.fair_routes.specs.Network.Weights.{AreWeightedRates, HasLargeWeightedRate, HasMuchWeight}
use Rattle.fair_routes.specs.declared.routes.error.RouteError.TheVariants.{Refused, NoSuchLink}
use Rattle.fair_routes.specs.declared.routes.network.Network.{Network}
use Rattle.fair_routes.specs.declared.routes.weighted.error.WeightError.{WeightError}
use Rattle.fair_routes.specs.declared.routes.weighted.error.WeightError.TheVariants.{Routes, OtherCount, NoWeight, TooMuchWeight}

-- the links of a flow's route, as they were told, if it has any
abbrev pub told_route : Network → ℕ → Option (List ℕ)
told_route n flow = option_map (λ route. route.items) (get nat_cmp n.routes flow)

-- the cap of a link
abbrev pub told_cap : Network → ℕ → Option ℕ
told_cap n link = get nat_cmp n.caps link

-- the weight of a flow, which is 1 as long as none is told
abbrev pub told_weight : Network → ℕ → ℕ
told_weight n flow = unwrap_or (option_map non_zero_u64_get (get nat_cmp n.weights flow)) 1

-- the flows have these routes and weights, and the links these caps
pub record IsTold (n : Network) (routes : ℕ → Option (List ℕ)) (caps : ℕ → Option ℕ) (weights : ℕ → ℕ) : Type 0 where
  pub routes_are : (flow : ℕ) → told_route n flow ≡ routes flow
  pub caps_are : (link : ℕ) → told_cap n link ≡ caps link
  pub weights_are : (flow : ℕ) → told_weight n flow ≡ weights flow

-- nothing is told
abbrev pub IsToldNothing : Network → Type 0
IsToldNothing n = IsTold n (λ _. None) (λ _. None) (λ _. 1)

-- the same is told
abbrev pub IsToldTheSame : Network → Network → Type 0
IsToldTheSame old new = IsTold new (told_route old) (told_cap old) (told_weight old)

-- these with one set anew
abbrev pub with_one : {X : Type 0} → (ℕ → X) → ℕ → X → ℕ → X
with_one old at new n = if n == at then new else old n

-- the route with one more link
abbrev pub and_link : Option (List ℕ) → ℕ → List ℕ
and_link route link = unwrap_or route [] ++ link ∷ []

-- what is told with one more link of a flow's route
abbrev pub IsToldLink : ℕ → ℕ → Network → Network → Type 0
IsToldLink flow link old new =
    IsTold new (with_one (told_route old) flow (Some (and_link (told_route old flow) link))) (told_cap old)
    (told_weight old)

-- what is told with another cap of a link
abbrev pub IsToldCap : ℕ → Option ℕ → Network → Network → Type 0
IsToldCap link cap old new = IsTold new (told_route old) (with_one (told_cap old) link cap) (told_weight old)

-- what is told with another weight of a flow
abbrev pub IsToldWeight : ℕ → ℕ → Network → Network → Type 0
IsToldWeight flow weight old new =
    IsTold new (told_route old) (told_cap old) (with_one (told_weight old) flow weight)

-- ---- the rates of the flows that have a route, by ascending number

-- their routes
abbrev pub told_routes : Network → List (List ℕ)
told_routes n = map (λ route. route.items) (values n.routes)

-- their weights
abbrev pub told_weights : Network → List ℕ
told_weights n = map (told_weight n) (keys n.routes)

-- the sides of the links that have a cap
abbrev pub told_sides : Network → List Side
told_sides n = flat_map (λ entry. side_of_link (told_routes n) entry.0 (Some entry.1)) n.caps.entries

-- a rate for each of these flows, and over the weights the rates are max-min fair
pub record AreRatesTold (n : Network) (rates : List (ℕ × Rate)) : Type 0 where
  pub flows : map (λ entry. entry.0) rates ≡ keys n.routes
  pub fair : AreWeightedRates (told_sides n) (told_weights n) (map (λ entry. entry.1) rates)

-- they are refused for want of memory, or for a number: a fair rate is no fraction of 128 bits, or the flows of a link
-- with a cap have a weight of 2^64 or more together
abbrev pub MayRefuseTold : Network → Error → Type 0
MayRefuseTold n why =
    (why ≡ OutOfMemory)
    ⊎ ((why ≡ NumberTooLarge)
    × (HasLargeWeightedRate (told_sides n) (told_weights n) ⊎ HasMuchWeight (told_weights n) (told_sides n)))

-- ---- how they are reckoned

-- a route whose links go by their places among those
pub record IsNumbered (links : List ℕ) (route numbered : List ℕ) : Type 0 where
  pub below : All (λ place. place < length links) numbered
  pub same : (place link : ℕ) → slice_get links place ≡ Some link → has_link link route ≡ has_link place numbered

-- the error, where what is reckoned with cannot be at fault
abbrev pub error_of : WeightError → Error
error_of (Routes (Refused e)) = e
error_of (Routes (NoSuchLink flow link)) = NumberTooLarge
error_of (OtherCount of many) = NumberTooLarge
error_of (NoWeight flow) = NumberTooLarge
error_of TooMuchWeight = NumberTooLarge
