-- Messages in flight that have got rates, which are fair for them.
use Rattle.std.specs.Prelude.{◌≡◌, ℕ, zero, suc, ◌+◌, ◌*◌, ◌⊎◌, Bool, true, false, not}
use Rattle.std.specs.Prelude.{List, [], ◌∷◌, cond, map}
use Rattle.std.specs.Prelude.{slice_index, length, Option, Some, None, slice_get, slice_set, slice_index_or, Contains}
use Rattle.std.specs.Prelude.{◌≤◌, nat_le}
use Rattle.std.specs.List.{filter, list_all, AllZip}
use Rattle.std.specs.declared.cmp.Ordering.{Ordering}
use Rattle.fairness.specs.Sides.Caps.{Caps}
use Rattle.fairness.specs.Sides.Subjects.{Subject}
use Rattle.fairness.specs.Fairness.UnderCaps.{AreOfPeers, cap_of, limits, sides_under}
use Rattle.fairness.specs.Fairness.Exists.{product}
use Rattle.fairness.specs.Fairness.Fair.{IsFair}
use Rattle.fair_rates.specs.declared.bandwidth.parts.FairParts.{FairParts}
use Rattle.fair_rates.specs.Filling.FairParts.{parts_of_level}
use Rattle.link_simulation.specs.Simulation.Messages.{Message}
use Rattle.link_simulation.specs.Simulation.Rates.{capped_sides, is_unlimited}
use Rattle.link_flights.specs.declared.component.Component.{Component}
use Rattle.link_flights.specs.declared.flight.Flight.{Flight}
use Rattle.link_flights.specs.declared.flight_list.Flights.{Flights}
use Rattle.link_pairs.specs.Pairs.Messages.{message_of}
use Rattle.link_flights.specs.Flights.Flight.{UnitFlight, flight_at, IsTimed, AreTimed}
use Rattle.link_flights.specs.Flights.Components.{is_of, those_of}
use Rattle.link_flights.specs.Flights.InFlight.{in_units, loose_in}
use Rattle.link_flights.specs.Flights.Sides.{left_caps, flows_of, flow_in_flight}
use Rattle.link_flights.specs.Flights.RatedFlights.{rated_flight_of}
use Rattle.link_simulation.specs.Rule.Planned.{is_spent}

-- their messages
abbrev pub sent_messages : {P : Type 0} → List (UnitFlight P) → List (Message P)
sent_messages us = map (λ u. message_of u.message) us

-- their rates
abbrev pub rates_of : {P : Type 0} → List (UnitFlight P) → List ℕ
rates_of us = map (λ u. u.rate) us

-- those that have got a rate since their start
abbrev pub rated_ones : {P : Type 0} → List (UnitFlight P) → List (UnitFlight P)
rated_ones us = filter (λ u. u.rated) us

module _ {P : Type 0} (cmp : P → P → Ordering) (caps : Caps P) where
  -- rates in parts, of which so many are one byte a second, are fair under the caps for these messages alone
  abbrev pub AreFairFor : ℕ → List (Message P) → List ℕ → Type 0
  AreFairFor scale messages rates = IsFair (capped_sides cmp caps messages) scale (slice_index rates)

  -- their rates are fair under the caps for these alone
  abbrev pub AreFairlyRated : ℕ → List (UnitFlight P) → Type 0
  AreFairlyRated scale us = AreFairFor scale (sent_messages us) (rates_of us)

  -- each uses a capped side
  abbrev pub are_limited : List (UnitFlight P) → Bool
  are_limited us = list_all (λ u. not (is_unlimited cmp caps (message_of u.message))) us

  -- those that have got rates have fair ones and are limited, and their finishes are right
  pub record AreRated {a : _} {b : _} {c : _} (flights : Flights P a b c) : Type 0 where
    pub fair : AreFairlyRated flights.scale (rated_ones (in_units flights))
    pub limited : are_limited (rated_ones (in_units flights)) ≡ true
    pub timed : AreTimed flights.list.items

  -- whether one is done: nothing is left of it, or it uses no capped side
  abbrev pub is_out : ℕ → UnitFlight P → Bool
  is_out scale u = is_spent cmp caps (rated_flight_of scale u)

-- so much is no more than a rate, and there is so much
abbrev pub IsNoMore : Option ℕ → ℕ → Type 0
IsNoMore None rate = ⊥
IsNoMore (Some floor) rate = floor ≤ rate

-- a cap may have changed that one uses: its message is among these, and it has no less than the floor
abbrev pub IsLoose : {P : Type 0} → List (Message P) → Option ℕ → UnitFlight P → Type 0
IsLoose loose floor u = Contains loose (message_of u.message) × IsNoMore floor u.rate

-- caps differ only where all that have got rates and use what they are for are loose
abbrev pub DifferWhereLoose : {P : Type 0} → (P → P → Ordering) → (was caps : Caps P) → List (Message P) → Option ℕ
    → List (UnitFlight P) → Type 0
DifferWhereLoose {P} cmp was caps loose floor us =
    (s : Subject P) → (cap_of was s ≡ cap_of caps s)
    ⊎ ((u : UnitFlight P) → Contains us u → u.rated ≡ true → limits cmp s (flow_in_flight cmp u) ≡ true
    → IsLoose loose floor u)

-- those that have got rates had fair ones under the caps that were, are limited under these, and their finishes are
-- right
pub record WereRatedUnder {P : Type 0} {a : _} {b : _} {c : _} (cmp : P → P → Ordering) (caps : Caps P)
    (flights : Flights P a b c) : Type 0 where
  pub was : Caps P
  pub of_peers : AreOfPeers cmp was
  pub fair : AreFairlyRated cmp was flights.scale (rated_ones (in_units flights))
  pub differ : DifferWhereLoose cmp was caps (loose_in flights) flights.floor (in_units flights)
  pub limited : are_limited cmp caps (rated_ones (in_units flights)) ≡ true
  pub timed : AreTimed flights.list.items

-- it is of the same message, at the same rate
pub record IsAsRated {P : Type 0} (old new : UnitFlight P) : Type 0 where
  pub message : new.message ≡ old.message
  pub rate : new.rate ≡ old.rate
  pub rated : new.rated ≡ old.rated

-- those that pass the test have left, as these messages, and the others have stayed
pub record ArePartedBy {P : Type 0} (test : UnitFlight P → Bool) (before : List (UnitFlight P))
    (done : List (Message P)) (us : List (UnitFlight P)) : Type 0 where
  pub left : done ≡ sent_messages (filter test before)
  pub stay : us ≡ filter (λ u. not (test u)) before

-- none of those that pass the test had a rate of less than the floor
abbrev pub IsFloorOf : {P : Type 0} → (UnitFlight P → Bool) → List (UnitFlight P) → Option ℕ → Type 0
IsFloorOf {P} test us floor =
    (u : UnitFlight P) → Contains us u → test u ≡ true → u.rated ≡ true → IsNoMore floor u.rate

-- those that had got a rate before some of them were done had fair rates under the caps that were, none of these had
-- less than the floor, and those that stay are loose where the caps differ
pub record WereRated {P : Type 0} (cmp : P → P → Ordering) (caps : Caps P) (scale : ℕ)
    (us : List (UnitFlight P)) (done loose : List (Message P)) (least : Option ℕ) : Type 0 where
  pub before : List (UnitFlight P)
  pub is_done : UnitFlight P → Bool
  pub parted : ArePartedBy is_done before done us
  pub was : Caps P
  pub of_peers : AreOfPeers cmp was
  pub fair : AreFairlyRated cmp was scale (rated_ones before)
  pub differ : DifferWhereLoose cmp was caps loose least us
  pub no_less : IsFloorOf is_done before least

-- some messages have left those in flight, which had fair rates with them under the caps that were, and none of those
-- that left had less than the floor; those that stay are loose where the caps differ
pub record HadFairRates {P : Type 0} {a : _} {b : _} {c : _} (cmp : P → P → Ordering) (caps : Caps P)
    (flights : Flights P a b c) (done : List (Message P)) : Type 0 where
  pub before : List (UnitFlight P)
  pub parted : ArePartedBy (is_out cmp caps flights.scale) before done (in_units flights)
  pub was : Caps P
  pub of_peers : AreOfPeers cmp was
  pub fair : AreFairlyRated cmp was flights.scale (rated_ones before)
  pub differ : DifferWhereLoose cmp was caps (loose_in flights) flights.floor (in_units flights)
  pub no_less : IsFloorOf (is_out cmp caps flights.scale) before flights.floor
  pub timed : AreTimed flights.list.items

-- the rates that are found, flow by flow
abbrev pub rates_found : FairParts → List ℕ
rates_found found = map (parts_of_level found.levels.items) found.level_of.items

-- these are the fair rates of a component under what the others leave of the caps, in parts that have grown from units
pub record AreFairOn {P : Type 0} (cmp : P → P → Ordering) (caps : Caps P) (scale : ℕ) (component : Component P)
    (us : List (UnitFlight P)) (found : FairParts) : Type 0 where
  pub grown : found.scale ≡ product found.growth.items
  pub one_each : length found.level_of.items ≡ length (those_of cmp component us)
  pub fair : IsFair (sides_under cmp (left_caps cmp caps scale component us) (flows_of cmp component us)) found.scale
      (slice_index (rates_found found))

-- it has a rate from a moment on; what is left of it counts in units of which so many times as many are needed
abbrev pub rated_anew : {P : Type 0} → ℕ → ℕ → ℕ → UnitFlight P → UnitFlight P
rated_anew now times rate u = record u { left = u.left * times; rate = rate; updated = now; rated = true }

-- the one at a place is rated anew at the moment of the last account, and its finish is right
pub record IsReratedAt {P : Type 0} (now place times rate : ℕ)
    (old new : List (Flight P)) : Type 0 where
  pub one : Flight P
  pub others : new ≡ slice_set old place one
  pub unit : (d : Flight P) → flight_at now one
      ≡ rated_anew now times rate (flight_at now (slice_index_or old place d))
  pub timed : IsTimed one

-- all but so many at most stand in another list as they stood in a first
abbrev pub AreKeptBut : {X : Type 0} → ℕ → List X → List X → Type 0
AreKeptBut n [] ys = ys ≡ []
AreKeptBut n (x ∷ xs) [] = ⊥
AreKeptBut zero (x ∷ xs) (y ∷ ys) = (y ≡ x) × AreKeptBut zero xs ys
AreKeptBut (suc n) (x ∷ xs) (y ∷ ys) = ((y ≡ x) × AreKeptBut (suc n) xs ys) ⊎ AreKeptBut n xs ys

-- the one at a place is written anew and counted, or all are as they were
abbrev pub IsCountedAt : {P : Type 0} {a : _} {b : _} {c : _} → ℕ → (old new : Flights P a b c) → Type 0
IsCountedAt {P} at old new =
    ((new.rated_anew ≡ old.rated_anew) × (new.list.items ≡ old.list.items))
    ⊎ ((new.rated_anew ≡ old.rated_anew + 1)
    × ((one : Flight P) × (new.list.items ≡ slice_set old.list.items at one)))

-- those of a component have these rates from a moment on; what is left of them counts in units of which so many times
-- as many are needed. The others go on as they are
abbrev pub rerated : {P : Type 0} → (P → P → Ordering) → Component P → ℕ → ℕ → List ℕ → List (UnitFlight P)
    → List (UnitFlight P)
rerated cmp component now times rates [] = []
rerated cmp component now times [] (u ∷ us) = u ∷ us
rerated cmp component now times (rate ∷ rates) (u ∷ us) = cond (is_of cmp component u)
    (rated_anew now times rate u ∷ rerated cmp component now times rates us)
    (u ∷ rerated cmp component now times (rate ∷ rates) us)

-- these rates of a component, in units, are fair under what the others leave of the caps
pub record AreFairRatesBeside {P : Type 0} (cmp : P → P → Ordering) (caps : Caps P) (scale : ℕ)
    (component : Component P) (us : List (UnitFlight P)) (rates : List ℕ) : Type 0 where
  pub one_each : length rates ≡ length (those_of cmp component us)
  pub fair : IsFair (sides_under cmp (left_caps cmp caps scale component us) (flows_of cmp component us)) 1
      (slice_index rates)

-- the rates of these levels, flow by flow
abbrev pub rates_of_levels : List ℕ → List (Option ℕ) → List ℕ
rates_of_levels levels level_of = map (parts_of_level levels) level_of

-- those of a component have got rates that reach its level and are fair beside those that others keep, in the same
-- units; the others go on as they are
pub record AreRatedBeside {P : Type 0} {a : _} {b : _} {c : _} (cmp : P → P → Ordering) (caps : Caps P)
    (component : Component P) (old new : Flights P a b c) : Type 0 where
  pub rates : List ℕ
  pub fair : AreFairRatesBeside cmp caps old.scale component (in_units old) rates
  pub reach : list_all (λ rate. nat_le component.level rate) rates ≡ true
  pub given : in_units new ≡ rerated cmp component old.at 1 rates (in_units old)
  pub scale : new.scale ≡ old.scale
  pub at : new.at ≡ old.at
  pub timed : AreTimed new.list.items

-- where rates were found, those of a component have got them beside the others, and all but so many are as they were;
-- where none were, all is as it was
abbrev pub GivesBeside : {P : Type 0} {a : _} {b : _} {c : _} → (P → P → Ordering) → Caps P → Component P
    → Flights P a b c → Flights P a b c → Option ℕ → Type 0
GivesBeside cmp caps component old new None = new ≡ old
GivesBeside cmp caps component old new (Some found) =
    AreRatedBeside cmp caps component old new × AreKeptBut new.rated_anew old.list.items new.list.items

-- it is of the same message under the same id, of which as much is left, in units of which so many times as many are
-- needed, from a moment on at a rate
pub record IsRatedFrom {P : Type 0} (now times : ℕ) (old new : UnitFlight P) : Type 0 where
  pub id : new.id ≡ old.id
  pub message : new.message ≡ old.message
  pub left : new.left ≡ old.left * times
  pub updated : new.updated ≡ now
  pub rated : new.rated ≡ true

-- each has its fair rate from the moment of the account on
pub record HaveFairRates {P : Type 0} {a : _} {b : _} {c : _} (cmp : P → P → Ordering) (caps : Caps P)
    (old new : Flights P a b c) : Type 0 where
  pub times : ℕ
  pub scale : new.scale ≡ old.scale * times
  pub at : new.at ≡ old.at
  pub each : AllZip (IsRatedFrom old.at times) (in_units old) (in_units new)
  pub fair : AreFairlyRated cmp caps new.scale (in_units new)
  pub timed : AreTimed new.list.items

-- where a number is told, each has its fair rate, and all but so many are as they were; where none is, all are as they
-- were
abbrev pub ArePartRated : {P : Type 0} {a : _} {b : _} {c : _} → (P → P → Ordering) → Caps P
    → Flights P a b c → Flights P a b c → Option ℕ → Type 0
ArePartRated cmp caps old new None = (new.list ≡ old.list) × (new.scale ≡ old.scale) × (new.at ≡ old.at)
ArePartRated cmp caps old new (Some unsearched) =
    HaveFairRates cmp caps old new × AreKeptBut new.rated_anew old.list.items new.list.items

-- those that have got a rate and are not of the component are timed
abbrev pub AreOthersTimed : {P : Type 0} → (P → P → Ordering) → Component P → List (Flight P) → Type 0
AreOthersTimed {P} cmp component fs = (i : ℕ) (f : Flight P) → slice_get fs i ≡ Some f
    → is_of cmp component (flight_at 0 f) ≡ false → f.rated ≡ true → IsTimed f
