-- What a plan over routes is: weights, hops and caps as C lists them, and what is answered for them.
use Rattle.std.specs.Prelude.{◌≡◌, ◌⊎◌, ◌==◌, ℕ, ◌<◌, ◌≤◌, if◌then◌else◌, List, All, Contains, Option, Some, None, length, map}
use Rattle.std.specs.List.{filter, range_with_len}
use Rattle.std.specs.declared.alloc.Global.{Global}
use Rattle.std.specs.declared.vec.Vec.{Vec}
use Rattle.fairness.specs.Refusals.ErrorTexts.{refusal_number}
use Rattle.fairness.specs.declared.bandwidth.Rate.{Rate}
use Rattle.fair_routes.specs.Network.Weights.{IsWeightRefusal, IsWeightedAllocation}
use Rattle.fair_routes.specs.declared.routes.error.RouteError.TheVariants.{Refused, NoSuchLink}
use Rattle.fair_routes.specs.declared.routes.weighted.error.WeightError.{WeightError}
use Rattle.fair_routes.specs.declared.routes.weighted.error.WeightError.TheVariants.{Routes, OtherCount, NoWeight, TooMuchWeight}
use Rattle.p2p_simulated_c.specs.Plan.{record_of_rate}
use Rattle.p2p_simulated_c.specs.Records.{value_of}
use Rattle.p2p_simulated_c.specs.Written.{written}
use Rattle.p2p_simulated_c.specs.declared.records.PlanRate.{PlanRate}
use Rattle.p2p_simulated_c.specs.declared.routes.Hop.{Hop}
use Rattle.p2p_simulated_c.specs.declared.routes.RouteCap.{RouteCap}

-- the links that the flow uses, in the order of the hops
abbrev pub links_of : List Hop → ℕ → List ℕ
links_of hops flow = map (λ hop. hop.link) (filter (λ hop. hop.flow == flow) hops)

-- the routes of so many flows
abbrev pub routes_of : ℕ → List Hop → List (List ℕ)
routes_of flows hops = map (links_of hops) (range_with_len 0 flows)

-- routes in the code
abbrev pub lists : List (Vec ℕ Global) → List (List ℕ)
lists routes = map (λ route. route.items) routes

-- the cap of a link, if there is one
abbrev pub link_cap_of : RouteCap → Option ℕ
link_cap_of c = if c.is_some == 0 then None else Some (value_of c.bytes)

-- some hop of a flow that is none of so many, or there is none
abbrev pub IsStrayHop : List Hop → ℕ → Option Hop → Type 0
IsStrayHop hops flows None = All (λ hop. hop.flow < flows) hops
IsStrayHop hops flows (Some hop) = Contains hops hop × (flows ≤ hop.flow)

-- the number of a refusal
abbrev pub route_status : WeightError → ℕ
route_status (Routes (Refused e)) = refusal_number e
route_status (Routes (NoSuchLink flow link)) = 8
route_status (OtherCount of many) = 9
route_status (NoWeight flow) = 10
route_status TooMuchWeight = 11

-- the flow and the link that it is for, where it is for one
abbrev pub fault_of : WeightError → Hop
fault_of (Routes (Refused e)) = record { flow = 0; link = 0 }
fault_of (Routes (NoSuchLink flow link)) = record { flow = flow; link = link }
fault_of (OtherCount of many) = record { flow = 0; link = 0 }
fault_of (NoWeight flow) = record { flow = flow; link = 0 }
fault_of TooMuchWeight = record { flow = 0; link = 0 }

-- with status 0 the rates were written, which are those of the flows by weight; with another they were refused for
-- the cause of that number, as is a hop of a flow that has no weight, and nothing was written
abbrev pub IsPlannedOver : List (Option ℕ) → List ℕ → List Hop → ℕ → Hop → List PlanRate → List PlanRate → Type 0
IsPlannedOver caps weights hops status fault old new =
    ((status ≡ 0) × (rates : List Rate) × IsWeightedAllocation caps (routes_of (length weights) hops) weights rates
    × (new ≡ written (map (λ rate. record_of_rate (Some rate)) rates) old))
    ⊎ ((why : WeightError) × (status ≡ route_status why) × (fault ≡ fault_of why)
    × IsWeightRefusal caps (routes_of (length weights) hops) weights why × (new ≡ old))
    ⊎ ((status ≡ 9) × Contains hops fault × (length weights ≤ fault.flow) × (new ≡ old))
