-- When idle pairs may start.
use Rattle.std.specs.Prelude.{◌≡◌, ℕ, ◌+◌, ◌&&◌, [], ◌∷◌, ◌++◌, length, Some}
use Rattle.std.specs.declared.cmp.Ordering.{Ordering}
use Rattle.fairness.specs.Lists.WithoutFirst.{without_first}
use Rattle.link_pairs.specs.Pairs.Entries.{first_of}
use Rattle.fairness.specs.Numbers.Amount.{whole}
use Rattle.fairness.specs.Sides.Subjects.{same_peer}
use Rattle.link_simulation.specs.Simulation.Messages.{Message}
use Rattle.link_simulation.specs.Rule.Planned.{Planned}

-- the first waiting message of a pair is in flight from t on, under the next flow id
pub record HasDeparted {P : Type 0} (cmp : P → P → Ordering) (t : ℕ) (p : Planned P) (o r : P)
    (q : Planned P) : Type 0 where
  pub message : Message P
  pub first : first_of cmp p.waiting o r ≡ Some message
  pub is : q ≡ record p {
    sending = p.sending ++ record {
      id = p.next_id;
      message = message;
      left = whole (length message.bytes);
      rate = Some (whole 0);
      updated = t;
    } ∷ [];
    waiting = without_first (λ m. same_peer cmp o m.origin && same_peer cmp r m.recipient) p.waiting;
    next_id = p.next_id + 1;
  }
