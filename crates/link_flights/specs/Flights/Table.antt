-- What is in flight, as a list that can be taken back.
use Rattle.std.specs.Prelude.{Bool, List}
use Rattle.std.specs.declared.cmp.Ordering.{Ordering}
use Rattle.fairness.specs.Sides.Subjects.{same_peer}
use Rattle.link_pairs.specs.declared.message.Message.{Message}
use Rattle.link_flights.specs.declared.flight.Flight.{Flight}
use Rattle.link_flights.specs.declared.table.End.{End}
use Rattle.link_flights.specs.declared.table.End.TheVariants.{Origin, Recipient}

-- the messages in flight, as they are and as they were at the last mark
pub record Line (P : Type 0) : Type 0 where
  pub items : List (Flight P)
  pub before : List (Flight P)

-- whether two messages go from one origin, or to one recipient
abbrev pub share : {P : Type 0} → (P → P → Ordering) → End → Message P → Message P → Bool
share cmp Origin m n = same_peer cmp m.origin n.origin
share cmp Recipient m n = same_peer cmp m.recipient n.recipient
