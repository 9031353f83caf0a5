-- A message that waits is done as it starts, and so is never in flight.
use Rattle.std.specs.Prelude.{◌≡◌, ℕ, ◌+◌, [], true, None, Some}
use Rattle.std.specs.declared.cmp.Ordering.{Ordering}
use Rattle.fairness.specs.Lists.WithoutFirst.{without_first}
use Rattle.link_simulation.specs.Simulation.Messages.{Message, same_pair}
use Rattle.link_simulation.specs.Simulation.Rates.{is_unlimited}
use Rattle.link_simulation.specs.Rule.Planned.{Planned}
use Rattle.link_pairs.specs.Pairs.Entries.{first_of}

module _ {P : Type 0} (cmp : P → P → Ordering) where
  -- the first message that waits for a pair uses no capped side
  pub record FirstIsUnlimited (p : Planned P) (origin recipient : P) : Type 0 where
    pub message : Message P
    pub first : first_of cmp p.waiting origin recipient ≡ Some message
    pub unlimited : is_unlimited cmp p.caps message ≡ true

  -- the planned world once a message that waits has gone under the next flow id
  abbrev pub gone_through : Planned P → Message P → Planned P
  gone_through p m = record p { waiting = without_first (same_pair cmp m) p.waiting; next_id = p.next_id + 1 }

-- nothing is in flight, and an account is made at t, so that no finish is planned
pub record IsPassed {P : Type 0} (t : ℕ) (old new : Planned P) : Type 0 where
  pub none : old.sending ≡ []
  pub same : new ≡ record old { accounted = t; finish = None }
