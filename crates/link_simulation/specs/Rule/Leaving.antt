-- The first half of an account: what is in flight drains, and what is done leaves.
use Rattle.std.specs.Prelude.{◌≡◌, ℕ, List, not}
use Rattle.std.specs.List.{filter}
use Rattle.std.specs.declared.cmp.Ordering.{Ordering}
use Rattle.link_simulation.specs.Simulation.Messages.{Message}
use Rattle.link_simulation.specs.Rule.Planned.{Planned, rated_messages, drained_to, is_spent}

-- all that is in flight drains to t, and what is done leaves, in order of start
pub record Leaves {P : Type 0} (cmp : P → P → Ordering) (t : ℕ) (old : Planned P) (leavers : List (Message P))
    (new : Planned P) : Type 0 where
  pub left : leavers ≡ rated_messages (filter (is_spent cmp old.caps) (drained_to t old.sending))
  pub is : new ≡ record old {
    sending = filter (λ f. not (is_spent cmp old.caps f)) (drained_to t old.sending);
    accounted = t;
  }
