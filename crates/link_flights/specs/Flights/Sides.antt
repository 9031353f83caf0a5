-- The sides of those in flight that are rated anew, each with what the others leave of its cap.
use Rattle.std.specs.Prelude.{◌≡◌, ◌↔◌, ◌⊎◌, ℕ, ◌-◌, ◌*◌, Bool, true, not, List, map, cond, take, Contains, sum_by}
use Rattle.std.specs.Prelude.{Option, Some, None, option_map, slice_get}
use Rattle.std.specs.List.{filter}
use Rattle.std.specs.declared.cmp.Ordering.{Ordering}
use Rattle.fairness.specs.declared.bandwidth.Flow.{Flow}
use Rattle.fairness.specs.Fairness.Fair.{Side}
use Rattle.fairness.specs.Fairness.UnderCaps.{cap_of, limits, IsCappedSide}
use Rattle.fairness.specs.Lists.Places.{places_from}
use Rattle.fairness.specs.Sides.Caps.{Caps}
use Rattle.fairness.specs.Sides.Subjects.{Subject, sent_by, received_by, sent_between}
use Rattle.link_simulation.specs.Simulation.Messages.{is_delivered}
use Rattle.link_pairs.specs.declared.message.Message.{Message}
use Rattle.link_pairs.specs.Pairs.Messages.{message_of}
use Rattle.link_flights.specs.declared.component.Component.{Component}
use Rattle.link_flights.specs.declared.flight.Flight.{Flight}
use Rattle.link_flights.specs.declared.table.End.{End}
use Rattle.link_flights.specs.declared.table.End.TheVariants.{Origin, Recipient}
use Rattle.link_flights.specs.Flights.Components.{is_of, those_of}
use Rattle.link_flights.specs.Flights.Flight.{UnitFlight, flights_at}

-- what a message asks for, as a flow
abbrev pub flow_sent : {P : Type 0} → (P → P → Ordering) → Message P → Flow P
flow_sent cmp m = record {
  id = 0;
  origin = m.origin;
  recipient = m.recipient;
  delivered = is_delivered cmp (message_of m);
}

-- what a message in flight asks for
abbrev pub flow_in_flight : {P : Type 0} → (P → P → Ordering) → UnitFlight P → Flow P
flow_in_flight cmp u = flow_sent cmp u.message

module _ {P : Type 0} (cmp : P → P → Ordering) where
  -- what those that are not of a component take of what a subject limits: they keep their rates
  abbrev pub kept_load : Component P → List (UnitFlight P) → Subject P → ℕ
  kept_load component us s =
      sum_by (λ u. cond (limits cmp s (flow_in_flight cmp u)) u.rate 0) (filter (λ u. not (is_of cmp component u)) us)

  -- what they leave of its cap, in units of which so many are one byte a second
  abbrev pub left_of : Caps P → ℕ → Component P → List (UnitFlight P) → Subject P → Option ℕ
  left_of caps scale component us s = option_map (λ cap. cap * scale - kept_load component us s) (cap_of caps s)

  -- and so of each cap
  abbrev pub left_caps : Caps P → ℕ → Component P → List (UnitFlight P) → Caps P
  left_caps caps scale component us = record {
    egress = λ p. left_of caps scale component us (sent_by p);
    ingress = λ p. left_of caps scale component us (received_by p);
    link = λ p q. left_of caps scale component us (sent_between p q);
  }

  -- the flows of those that are rated anew
  abbrev pub flows_of : Component P → List (UnitFlight P) → List (Flow P)
  flows_of component us = map (flow_in_flight cmp) (those_of cmp component us)

  -- of the first so many in flight a side was counted: its users, and what the others leave of so much
  pub record IsCounted (component : Component P) (now : ℕ) (list : List (Flight P)) (s : Subject P) (all n : ℕ)
      (side : Side) : Type 0 where
    pub left : side.cap ≡ all - kept_load component (flights_at now (take n list)) s
    pub users : side.users ≡ places_from 0 (limits cmp s) (flows_of component (flights_at now (take n list)))

-- whether a message uses what there is of a cap at an end: what is dropped takes nothing of what its recipient may
-- receive
abbrev pub uses_end : {P : Type 0} → (P → P → Ordering) → End → Message P → Bool
uses_end cmp Origin m = true
uses_end cmp Recipient m = is_delivered cmp (message_of m)

-- what limits a flow at an end: all that its origin sends, or all that its recipient receives
abbrev pub end_subject : {P : Type 0} → End → Flow P → Subject P
end_subject Origin f = sent_by f.origin
end_subject Recipient f = received_by f.recipient

-- what the others leave of the cap at one end of a message, if it uses one
abbrev pub left_at_end : {P : Type 0} → (P → P → Ordering) → Caps P → ℕ → Component P → List (UnitFlight P) → End
    → Message P → Option ℕ
left_at_end cmp caps scale component us end m =
    cond (uses_end cmp end m) (left_of cmp caps scale component us (end_subject end (flow_sent cmp m))) None

-- and what limits it between its ends
abbrev pub link_subject : {P : Type 0} → Flow P → Subject P
link_subject f = sent_between f.origin f.recipient

module _ {P : Type 0} (cmp : P → P → Ordering) (caps : Caps P) (flows : List (Flow P)) where
  -- the side of a subject
  pub record IsSideOf (s : Subject P) (side : Side) : Type 0 where
    pub capped : cap_of caps s ≡ Some side.cap
    pub users : side.users ≡ places_from 0 (limits cmp s) flows

  -- it is there for the flow of a number, where a cap of that kind limits it
  abbrev pub HasSide : (Flow P → Subject P) → List Side → ℕ → Type 0
  HasSide subject sides k = (f : Flow P) → slice_get flows k ≡ Some f → limits cmp (subject f) f ≡ true
      → (cap : ℕ) → cap_of caps (subject f) ≡ Some cap
      → (side : Side) × Contains sides side × IsSideOf (subject f) side

  -- those of one kind have come, and no others
  pub record AddsSides (subject : Flow P → Subject P) (old new : List Side) : Type 0 where
    pub still : (side : Side) → Contains old side → Contains new side
    pub only : (side : Side) → Contains new side → Contains old side ⊎ IsCappedSide cmp caps flows side
    pub each : (k : ℕ) → HasSide subject new k

  -- these are all sides of the flows
  abbrev pub AreAllSides : List Side → Type 0
  AreAllSides sides = (side : Side) → Contains sides side ↔ IsCappedSide cmp caps flows side
