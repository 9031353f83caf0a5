-- Whether the first waiting message of a pair may start.
use Rattle.std.specs.Prelude.{ℕ, Bool, false, List, Option, Some, None}
use Rattle.std.specs.List.{filter}
use Rattle.std.specs.declared.cmp.Ordering.{Ordering}
use Rattle.link_simulation.specs.Simulation.World.{fronts}
use Rattle.link_simulation.specs.Simulation.Messages.{Message}
use Rattle.link_simulation.specs.Rule.Planned.{Planned, may_launch}

-- whether a pair's first waiting message, if there is one, may start
abbrev pub may_launch_first : {P : Type 0} → (P → P → Ordering) → ℕ → Planned P → Option (Message P) → Bool
may_launch_first cmp t p None = false
may_launch_first cmp t p (Some m) = may_launch cmp t p m

-- the first waiting messages of the pairs that are ready, in the order of pairs
abbrev pub ready_messages : {P : Type 0} → (P → P → Ordering) → ℕ → Planned P → List (Message P)
ready_messages cmp t p = filter (may_launch cmp t p) (fronts cmp p.waiting)
