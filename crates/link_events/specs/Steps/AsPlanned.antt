-- How a scheduler is read as a planned world.
use Rattle.std.specs.Prelude.{ℕ, ◌<◌, IfSome}
use Rattle.std.specs.declared.cmp.Ordering.{Ordering}
use Rattle.link_events.specs.declared.ledger.Ledger.{Ledger}
use Rattle.link_simulation.specs.Rule.Planned.{Planned, SomeReadyAt, next_event}
use Rattle.link_pairs.specs.Pairs.CapsOf.{caps_of}
use Rattle.link_pairs.specs.Pairs.Entries.{arrival_of}
use Rattle.link_flights.specs.Flights.InFlight.{in_flight}

-- a scheduler's state as a planned world
abbrev pub planned : {P : Type 0} {a : _} {b : _} {c : _} → (P → P → Ordering) → Ledger P a b c → Planned P
planned cmp w = record {
  caps = caps_of cmp w.peers.entries w.pairs.entries;
  limited = w.limited;
  sending = in_flight w.flights;
  waiting = w.waiting.messages;
  last_arrival = arrival_of cmp w.pairs.entries;
  next_id = w.next_id;
  accounted = w.flights.at;
  finish = w.finish;
  start = w.start;
}

-- no event is due up to a moment, and no waiting message may start at it
pub record HasNothingDue {P : Type 0} (cmp : P → P → Ordering) (p : Planned P) (now : ℕ) : Type 0 where
  pub none_due : IfSome (next_event p) (λ t. now < t)
  pub none_ready : ¬ SomeReadyAt cmp p now
