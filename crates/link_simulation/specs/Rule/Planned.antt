-- The planned world: what is kept between events, and what is planned.
use Rattle.std.specs.Prelude.{⊤, ◌≡◌, ℕ, ◌+◌, ◌-◌, ◌≤◌, min, List, [], ◌∷◌, map, Bool, true, false, not}
use Rattle.std.specs.Prelude.{◌&&◌, ◌||◌, if◌then◌else◌, Option, Some, None, ◌==◌, MatchOption, slice_get}
use Rattle.std.specs.List.{find, list_any, AllZip}
use Rattle.std.specs.declared.cmp.Ordering.{Ordering}
use Rattle.fairness.specs.Numbers.Amount.{Amount}
use Rattle.link_simulation.specs.Simulation.Messages.{Message, Caps, no_caps, same_pair, pair_before}
use Rattle.link_simulation.specs.Simulation.Rates.{Parts, rate_of, drained_by, is_unlimited, AreFair}
use Rattle.link_simulation.specs.Simulation.World.{last_moment, is_in_order}

-- a message in flight under its flow id, with what was left of it at a moment, and the rate that it has had since; none
-- is without limit
pub record RatedFlight (P : Type 0) : Type 0 where
  pub id : ℕ
  pub message : Message P
  pub left : Amount
  pub rate : Option Amount
  pub updated : ℕ

-- the messages in flight stand in order of start, and the waiting ones in the order of pairs, those of a pair in
-- order of enqueue; what is in flight was accounted for last at one moment, some message finishes next at another, and
-- some starts next at a third one
pub record Planned (P : Type 0) : Type 0 where
  pub caps : Caps P
  pub limited : Bool
  pub sending : List (RatedFlight P)
  pub waiting : List (Message P)
  pub last_arrival : P → P → Option ℕ
  pub next_id : ℕ
  pub accounted : ℕ
  pub finish : Option ℕ
  pub start : Option ℕ

-- an empty planned world, whose first flow has this id
abbrev pub new_planned : {P : Type 0} → ℕ → Planned P
new_planned id = record {
  caps = no_caps;
  limited = false;
  sending = [];
  waiting = [];
  last_arrival = λ p q. None;
  next_id = id;
  accounted = 0;
  finish = None;
  start = None;
}

-- the earlier of two moments, each of which may be missing
abbrev pub earlier : Option ℕ → Option ℕ → Option ℕ
earlier None b = b
earlier (Some a) None = Some a
earlier (Some a) (Some b) = Some (min a b)

-- the least moment up to the last one at which Q holds, or none
abbrev pub IsLeastMoment : (ℕ → Type 0) → Option ℕ → Type 0
IsLeastMoment Q moment =
    MatchOption moment ((t : ℕ) → t ≤ last_moment → ¬ Q t) (λ t. (t ≤ last_moment) × Q t × ((s : ℕ) → Q s → t ≤ s))

-- the earlier of the planned finish and the planned start
abbrev pub next_event : {P : Type 0} → Planned P → Option ℕ
next_event p = earlier p.finish p.start

-- the messages in flight, without the rest
abbrev pub rated_messages : {P : Type 0} → List (RatedFlight P) → List (Message P)
rated_messages sending = map (λ f. f.message) sending

-- what is left of a message in flight at t, where a moment before its update counts as its update
abbrev pub left_at : {P : Type 0} → ℕ → RatedFlight P → Amount
left_at t f = drained_by f.rate (t - f.updated) f.left

-- nothing is left of it at t
abbrev pub IsSpentAt : {P : Type 0} → ℕ → RatedFlight P → Type 0
IsSpentAt t f = (left_at t f).num ≡ 0

-- at t nothing is left of some message in flight
abbrev pub SomeSpentAt : {P : Type 0} → List (RatedFlight P) → ℕ → Type 0
SomeSpentAt {P} sending t = (i : ℕ) × (f : RatedFlight P) × (slice_get sending i ≡ Some f) × (f.updated ≤ t)
    × IsSpentAt t f

-- the messages in flight after they have drained to t, which becomes their update
abbrev pub drained_to : {P : Type 0} → ℕ → List (RatedFlight P) → List (RatedFlight P)
drained_to t [] = []
drained_to t (f ∷ fs) = record f { left = left_at t f; updated = t } ∷ drained_to t fs

module _ {P : Type 0} (cmp : P → P → Ordering) where
  -- the first message that waits for the pair of a message
  abbrev pub next_of : Planned P → Message P → Option (Message P)
  next_of p m = find (same_pair cmp m) p.waiting

  -- the waiting messages stand in the order of their pairs
  abbrev pub AreInPairOrder : List (Message P) → Type 0
  AreInPairOrder [] = ⊤
  AreInPairOrder (m ∷ ms) = (list_any (λ n. pair_before cmp n m) ms ≡ false) × AreInPairOrder ms

  -- the message joins the others of its pair, as the last one
  abbrev pub queued : Message P → List (Message P) → List (Message P)
  queued m [] = m ∷ []
  queued m (n ∷ ns) = if pair_before cmp m n then m ∷ n ∷ ns else n ∷ queued m ns

  -- whether the first waiting message of a pair may start at t
  abbrev pub may_launch : ℕ → Planned P → Message P → Bool
  may_launch t p m =
      not (list_any (same_pair cmp m) (rated_messages p.sending))
      && is_in_order (p.last_arrival m.origin m.recipient) (t + m.latency)

  -- the first waiting message of some idle pair may start at t
  abbrev pub SomeReadyAt : Planned P → ℕ → Type 0
  SomeReadyAt p t = (m : Message P) × (next_of p m ≡ Some m) × (may_launch t p m ≡ true)

  -- whether a message in flight is done under the caps: nothing was left of it, or it uses no capped side
  abbrev pub is_spent : Caps P → RatedFlight P → Bool
  is_spent caps f = (f.left.num == 0) || is_unlimited cmp caps f.message

  -- each message in flight has its fair rate
  pub record IsRated (p : Planned P) : Type 0 where
    pub per : ℕ
    pub rates : Parts
    pub fair : AreFair cmp p.caps (rated_messages p.sending) per rates
    pub rated : AllZip (λ rate f. f.rate ≡ rate_of per rate) rates p.sending

  -- what is planned is right: the finish is the least moment at which something in flight has nothing left, and the
  -- start the least one, from some moment on, at which a pair is ready; before any limit nothing waits
  pub record IsPlanned (p : Planned P) : Type 0 where
    pub finish : IsLeastMoment (SomeSpentAt p.sending) p.finish
    pub from : ℕ
    pub start : IsLeastMoment (λ s. (from ≤ s) × SomeReadyAt p s) p.start
    pub none_at_first : p.limited ≡ false → p.waiting ≡ []
