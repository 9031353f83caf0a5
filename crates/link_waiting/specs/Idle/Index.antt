-- From when on the first waiting message of each idle pair may start.
use Rattle.std.specs.Prelude.{◌≡◌, ℕ, Bool, ◌&&◌, if◌then◌else◌, List, Option, None, option_map}
use Rattle.std.specs.List.{list_any}
use Rattle.std.specs.declared.cmp.Ordering.{Ordering}
use Rattle.fairness.specs.Sides.Subjects.{same_peer}
use Rattle.link_simulation.specs.Simulation.Messages.{Message}
use Rattle.link_simulation.specs.Rule.Planned.{Planned}
use Rattle.link_waiting.specs.Idle.FirstMoment.{first_moment}
use Rattle.link_pairs.specs.Pairs.Entries.{first_of}
use Rattle.link_waiting.specs.Idle.AtRest.{is_sending}

module _ {P : Type 0} (cmp : P → P → Ordering) where
  -- the moment from which on the first waiting message of the pair may start, if the pair is idle and one waits
  abbrev pub idle_from : Planned P → P → P → Option ℕ
  idle_from p origin recipient = if is_sending cmp p origin recipient then None
      else option_map (λ m. first_moment (p.last_arrival origin recipient) m.latency)
      (first_of cmp p.waiting origin recipient)

  -- it is told of each idle pair for which a message waits, and of no other
  abbrev pub IsIndexOf : Planned P → (P → P → Option ℕ) → Type 0
  IsIndexOf p since = (origin recipient : P) → since origin recipient ≡ idle_from p origin recipient

  -- whether a message is of the pair
  abbrev pub is_of_pair : P → P → Message P → Bool
  is_of_pair origin recipient m = same_peer cmp origin m.origin && same_peer cmp recipient m.recipient

  -- of the pairs of messages that left it is told as they stand now, and of the others as before
  abbrev pub AreAtRest : Planned P → List (Message P) → (P → P → Option ℕ) → (P → P → Option ℕ) → Type 0
  AreAtRest p leavers old new = (origin recipient : P)
      → new origin recipient ≡ (if list_any (is_of_pair origin recipient) leavers
      then idle_from p origin recipient else old origin recipient)
