-- Events that are due.
use Rattle.std.specs.Prelude.{◌≡◌, ◌≢◌, ℕ, ◌<◌, ◌≤◌, Option, Some, None, IfSome}
use Rattle.std.specs.declared.cmp.Ordering.{Ordering}
use Rattle.link_simulation.specs.Simulation.World.{Completed, Course}
use Rattle.link_simulation.specs.Rule.Events.{Settles, Wakes}
use Rattle.link_events.specs.declared.event.Event.{Event}
use Rattle.link_events.specs.declared.event.Event.TheVariants.{Finish, Start}
use Rattle.link_simulation.specs.Rule.Planned.{Planned, next_event}

-- the moment of an event
abbrev pub event_moment : Event → ℕ
event_moment (Finish moment) = moment
event_moment (Start moment) = moment

-- what is due at `now` on a planned world
abbrev pub IsDue : {P : Type 0} → ℕ → Planned P → Option Event → Type 0
IsDue now p None = IfSome (next_event p) (λ t. now < t)
IsDue now p (Some (Finish t)) = (p.finish ≡ Some t) × (next_event p ≡ Some t) × (t ≤ now)
IsDue now p (Some (Start t)) = (p.finish ≢ Some t) × (next_event p ≡ Some t) × (t ≤ now)

module _ {P : Type 0} (cmp : P → P → Ordering) where
  -- the course of an event, which is planned no more
  abbrev pub Happens : Event → Planned P → Course (Completed P) (Planned P) → Type 0
  Happens (Finish t) p course = Settles cmp t (record p { finish = None }) course
  Happens (Start t) p course = Wakes cmp t (record p { start = None }) course
