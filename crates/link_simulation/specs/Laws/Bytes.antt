-- The bytes that an origin still has to send.
use Rattle.std.specs.Prelude.{ℕ, ◌+◌, ◌*◌, List, [], ◌∷◌, length, if◌then◌else◌}
use Rattle.std.specs.declared.cmp.Ordering.{Ordering}
use Rattle.fairness.specs.Numbers.Amount.{Amount, whole, plus, billion, parts_over}
use Rattle.fairness.specs.Sides.Subjects.{same_peer}
use Rattle.link_simulation.specs.Simulation.Messages.{Message}
use Rattle.link_simulation.specs.Simulation.World.{World, Flight}

-- what a cap lets go in n nanoseconds
abbrev pub allowance : ℕ → ℕ → Amount
allowance cap n = parts_over billion (cap * n)

module _ {P : Type 0} (cmp : P → P → Ordering) where
  -- what is left of the messages in flight from that origin
  abbrev pub left_from : P → List (Flight P) → Amount
  left_from p [] = whole 0
  left_from p (f ∷ fs) = if same_peer cmp p f.message.origin then plus f.left (left_from p fs) else left_from p fs

  -- how long the messages are that wait for that origin
  abbrev pub waiting_from : P → List (Message P) → ℕ
  waiting_from p [] = 0
  waiting_from p (m ∷ ms) = (if same_peer cmp p m.origin then length m.bytes else 0) + waiting_from p ms

  -- the bytes left in the sending and waiting messages of an origin
  abbrev pub bytes_from : P → World P → Amount
  bytes_from p w = plus (left_from p w.sending) (whole (waiting_from p w.waiting))
