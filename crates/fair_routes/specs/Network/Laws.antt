-- What follows for flows over routes.
use Rattle.std.specs.Prelude.{◌≡◌, ◌↔◌, ◌==◌, ℕ, ◌≤◌, Bool, true, cond, List, [], ◌∷◌, Option, Some, None, Contains, length}
use Rattle.std.specs.Prelude.{map, slice_index_or}
use Rattle.std.specs.List.{AllZip, list_any, range_with_len}
use Rattle.std.specs.List.Sorted.{IsPermutation}
use Rattle.std.specs.declared.cmp.Ordering.{Ordering}
use Rattle.fairness.specs.Fairness.Fair.{Side}
use Rattle.fairness.specs.Fairness.Part.{flagged, SharesNoSide}
use Rattle.fairness.specs.Fairness.Rates.{AreFairRates}
use Rattle.fairness.specs.Fairness.UnderCaps.{AreOfPeers, AreFairUnder, cap_of}
use Rattle.fairness.specs.Numbers.Ratio.{IsWorth}
use Rattle.fairness.specs.Sides.Caps.{Caps}
use Rattle.fairness.specs.Sides.Subjects.{Subject, sent_by, received_by, sent_between, same_subject}
use Rattle.fairness.specs.declared.bandwidth.Flow.{Flow}
use Rattle.fairness.specs.declared.bandwidth.Rate.{Rate}
use Rattle.fairness.specs.declared.bandwidth.Rate.TheVariants.{Unlimited, Finite}
use Rattle.fair_routes.specs.Network.Sides.{has_link, users_of, sides_over}

-- the cap of a link, if it has one
abbrev pub cap_at : List (Option ℕ) → ℕ → Option ℕ
cap_at caps link = slice_index_or caps link None

-- the side of a link that has a cap and that some flow uses: its users are all flows that use it
pub record IsLinkSide (caps : List (Option ℕ)) (routes : List (List ℕ)) (side : Side) : Type 0 where
  pub link : ℕ
  pub capped : cap_at caps link ≡ Some side.cap
  pub used : list_any (has_link link) routes ≡ true
  pub users : side.users ≡ users_of link routes

-- the sides are exactly these
abbrev pub SidesAreOfTheLinks : Type 0
SidesAreOfTheLinks =
    (caps : List (Option ℕ)) (routes : List (List ℕ)) (side : Side)
    → Contains (sides_over caps routes) side ↔ IsLinkSide caps routes side

-- ---- the same network said otherwise

-- one by one the routes have the same links, in any order and however often
abbrev pub HaveTheSameLinks : List (List ℕ) → List (List ℕ) → Type 0
HaveTheSameLinks routes others =
    AllZip (λ (route other : List ℕ). (link : ℕ) → has_link link route ≡ has_link link other) routes others

-- such routes make the same sides
abbrev pub RoutesAreSetsOfLinks : Type 0
RoutesAreSetsOfLinks =
    (caps : List (Option ℕ)) (routes others : List (List ℕ)) → HaveTheSameLinks routes others
    → sides_over caps routes ≡ sides_over caps others

-- the links go by other numbers, each by one of its own, and keep their caps
pub record AreRenamed (caps others : List (Option ℕ)) (name : ℕ → ℕ) : Type 0 where
  pub apart : (link other : ℕ) → name link ≡ name other → link ≡ other
  pub same_cap : (link : ℕ) → cap_at others (name link) ≡ cap_at caps link

-- under other numbers of the links the flows have the same rates
abbrev pub OrderOfLinksDoesNotMatter : Type 0
OrderOfLinksDoesNotMatter =
    (caps others : List (Option ℕ)) (name : ℕ → ℕ) (routes : List (List ℕ)) (rates : List Rate)
    → AreRenamed caps others name
    → AreFairRates (sides_over caps routes) (length routes) rates
    → AreFairRates (sides_over others (map (map name) routes)) (length routes) rates

-- the routes of the flows that stand at these places, in turn
abbrev pub routes_at : List (List ℕ) → List ℕ → List (List ℕ)
routes_at routes order = map (λ place. slice_index_or routes place []) order

-- and their rates
abbrev pub rates_at : List Rate → List ℕ → List Rate
rates_at rates order = map (λ place. slice_index_or rates place Unlimited) order

-- in another order each flow has the same rate
abbrev pub OrderOfFlowsDoesNotMatter : Type 0
OrderOfFlowsDoesNotMatter =
    (caps : List (Option ℕ)) (routes : List (List ℕ)) (rates : List Rate) (order : List ℕ)
    → IsPermutation (range_with_len 0 (length routes)) order
    → AreFairRates (sides_over caps routes) (length routes) rates
    → AreFairRates (sides_over caps (routes_at routes order)) (length order) (rates_at rates order)

-- ---- flows apart, and one alone

-- where each link has all its flows in a part of the flows or none, the rates of the part's flows are fair for these
-- flows alone
abbrev pub RoutesApartAreFair : Type 0
RoutesApartAreFair =
    (flags : List Bool) (caps : List (Option ℕ)) (routes : List (List ℕ)) (rates : List Rate)
    → length flags ≡ length routes
    → SharesNoSide flags (sides_over caps routes)
    → AreFairRates (sides_over caps routes) (length routes) rates
    → AreFairRates (sides_over caps (flagged flags routes)) (length (flagged flags routes)) (flagged flags rates)

-- the least cap of the links of a route
pub record IsLeastCap (caps : List (Option ℕ)) (route : List ℕ) (cap : ℕ) : Type 0 where
  pub link : ℕ
  pub on_route : has_link link route ≡ true
  pub capped : cap_at caps link ≡ Some cap
  pub least : (other more : ℕ) → has_link other route ≡ true → cap_at caps other ≡ Some more → cap ≤ more

-- the rate is the least cap of the route, or there is none
abbrev pub IsLeastOfCaps : List (Option ℕ) → List ℕ → Rate → Type 0
IsLeastOfCaps caps route Unlimited = (link : ℕ) → has_link link route ≡ true → cap_at caps link ≡ None
IsLeastOfCaps caps route (Finite ratio) =
    (cap : ℕ) × IsLeastCap caps route cap × IsWorth ratio (record { num = cap; den = 1 })

-- so it is of a flow alone
abbrev pub AloneIsTheLeastCap : Type 0
AloneIsTheLeastCap =
    (caps : List (Option ℕ)) (route : List ℕ) (rate : Rate)
    → AreFairRates (sides_over caps (route ∷ [])) 1 (rate ∷ [])
    → IsLeastOfCaps caps route rate

-- ---- peers

module _ {P : Type 0} (cmp : P → P → Ordering) where
  -- each subject of a side is a link of its own, with its cap
  pub record AreLinks (caps : Caps P) (links : List (Option ℕ)) (number : Subject P → ℕ) : Type 0 where
    pub apart : (subject other : Subject P) → (number other == number subject) ≡ same_subject cmp subject other
    pub same_cap : (subject : Subject P) → cap_at links (number subject) ≡ cap_of caps subject

  -- the route of a flow between peers: what its origin sends, what goes between them, and what its recipient receives
  -- if it is delivered
  abbrev pub route_of : (Subject P → ℕ) → Flow P → List ℕ
  route_of number f =
      number (sent_by f.origin) ∷ number (sent_between f.origin f.recipient)
      ∷ cond f.delivered (number (received_by f.recipient) ∷ []) []

  -- flows between peers have the rates of flows over these routes
  abbrev pub LinkedIsOverThreeLinks : Type 0
  LinkedIsOverThreeLinks =
      (caps : Caps P) (links : List (Option ℕ)) (number : Subject P → ℕ) (flows : List (Flow P)) (rates : List Rate)
      → AreOfPeers cmp caps
      → AreLinks caps links number
      → AreFairUnder cmp caps flows rates ↔ AreFairRates (sides_over links (map (route_of number) flows)) (length flows) rates
