-- What is known of pairs at rest and of those of which a message is in flight.
use Rattle.std.specs.Prelude.{Bool, ◌&&◌, List}
use Rattle.std.specs.List.{list_any}
use Rattle.std.specs.declared.cmp.Ordering.{Ordering}
use Rattle.fairness.specs.Sides.Subjects.{same_peer}
use Rattle.link_simulation.specs.Simulation.Messages.{Message}
use Rattle.link_simulation.specs.Rule.Planned.{Planned, RatedFlight, new_planned, rated_messages}
use Rattle.link_pairs.specs.Pairs.Entries.{Pair, arrival_of}

-- a planned world of which only what is known of pairs is told
abbrev pub of_pairs : {P : Type 0} → (P → P → Ordering) → List (Pair P) → List (Message P) → List (RatedFlight P) → Planned P
of_pairs cmp pairs waiting sending = record (new_planned 0)
    { sending = sending; waiting = waiting; last_arrival = arrival_of cmp pairs }

-- whether a message from the one peer to the other is in flight
abbrev pub is_sending : {P : Type 0} → (P → P → Ordering) → Planned P → P → P → Bool
is_sending cmp p origin recipient = list_any (λ m. same_peer cmp origin m.origin
    && same_peer cmp recipient m.recipient) (rated_messages p.sending)
