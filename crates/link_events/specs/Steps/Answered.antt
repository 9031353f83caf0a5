-- What comes of a call on the state that it works on.
use Rattle.std.specs.Prelude.{ℕ, List}
use Rattle.std.specs.List.{AllZip}
use Rattle.std.specs.declared.cmp.Ordering.{Ordering}
use Rattle.link_simulation.specs.Simulation.World.{Completed, Course, goes}
use Rattle.link_simulation.specs.Simulation.Calls.{Call, call_advance}
use Rattle.link_simulation.specs.Simulation.Replies.{SameCompletion}
use Rattle.link_simulation.specs.Rule.Planned.{Planned}
use Rattle.link_simulation.specs.Rule.Events.{Advances, Obeys}

module _ {P : Type 0} (cmp : P → P → Ordering) where
  -- the course of a call by the event rule, and where it is an advance, with that many events
  abbrev pub ObeysIn : Planned P → Call P → ℕ → Course (Completed P) (Planned P) → Type 0
  ObeysIn p (call_advance now) events course = Advances cmp now p events course
  ObeysIn p call events course = Obeys cmp p call course

  -- by the event rule the call leads from the planned world p to q, an advance with that many events, and it is
  -- answered with what completes, peers taken as equal by their order
  pub record IsAnswered (p : Planned P) (call : Call P) (events : ℕ) (answers : List (Completed P)) (q : Planned P)
      : Type 0 where
    pub completed : List (Completed P)
    pub obeys : ObeysIn p call events (goes completed q)
    pub same : AllZip (SameCompletion cmp) answers completed
