-- Ordered pairs that name the pairs of messages.
use Rattle.std.specs.Prelude.{◌≡◌, true}
use Rattle.std.specs.declared.cmp.Ordering.{Ordering}
use Rattle.link_pairs.specs.declared.pair.PeerPair.{PeerPair}
use Rattle.fairness.specs.Sides.Subjects.{same_peer}
use Rattle.link_simulation.specs.Simulation.Messages.{Message}

-- the message is of that ordered pair
pub record NamesPairOf {P : Type 0} (cmp : P → P → Ordering) (key : PeerPair P) (m : Message P) : Type 0 where
  pub origin : same_peer cmp m.origin key.origin ≡ true
  pub recipient : same_peer cmp m.recipient key.recipient ≡ true
