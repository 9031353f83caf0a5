-- What is kept of a ledger at a mark, and put back.
use Rattle.std.specs.Prelude.{◌≡◌, List}
use Rattle.link_pairs.specs.Pairs.Entries.{Pair}
use Rattle.link_pairs.specs.Pairs.PeerCaps.{PeerCaps}
use Rattle.link_waiting.specs.Idle.Waits.{Waits}
use Rattle.link_flights.specs.declared.flight.Flight.{Flight}
use Rattle.link_flights.specs.Flights.InFlight.{IsMarkOf}
use Rattle.link_events.specs.declared.ledger.Ledger.{Ledger}
use Rattle.link_events.specs.declared.marks.Kept.{Kept}

-- what is changed in place, as it was at the last mark
pub record Before (P : Type 0) : Type 0 where
  pub flights : List (Flight P)
  pub peers : List (PeerCaps P)
  pub pairs : List (Pair P)
  pub waiting : Waits P

abbrev pub before_of : {P : Type 0} {a : _} {b : _} {c : _} → Ledger P a b c → Before P
before_of ledger = record {
  flights = ledger.flights.list.before;
  peers = ledger.peers.before;
  pairs = ledger.pairs.before;
  waiting = ledger.waiting.before;
}

-- the same, as it is
abbrev pub now_of : {P : Type 0} {a : _} {b : _} {c : _} → Ledger P a b c → Before P
now_of ledger = record {
  flights = ledger.flights.list.items;
  peers = ledger.peers.entries;
  pairs = ledger.pairs.entries;
  waiting = record { messages = ledger.waiting.messages; told = ledger.waiting.told };
}

-- all is as it was at the last mark
abbrev pub IsMarked : {P : Type 0} {a : _} {b : _} {c : _} → Ledger P a b c → Type 0
IsMarked ledger = now_of ledger ≡ before_of ledger

-- that is kept of a ledger that stood at its mark, which is still the last one
pub record IsKeptOf {P : Type 0} {a : _} {b : _} {c : _} (was : Ledger P a b c) (kept : Kept P)
    (before : Before P) : Type 0 where
  pub flights : IsMarkOf was.flights kept.flights
  pub marked : IsMarked was
  pub last : before ≡ before_of was
  pub limited : kept.limited ≡ was.limited
  pub next_id : kept.next_id ≡ was.next_id
  pub finish : kept.finish ≡ was.finish
  pub start : kept.start ≡ was.start
  pub stale : kept.stale ≡ was.stale

-- what was kept can be put back
abbrev pub CanBePutBack : {P : Type 0} {a : _} {b : _} {c : _} → Ledger P a b c → Kept P → Type 0
CanBePutBack {P} {a} {b} {c} now kept = (was : Ledger P a b c) × IsKeptOf was kept (before_of now)

-- what was kept is put back, so that all is as it was
abbrev pub IsPutBack : {P : Type 0} {a : _} {b : _} {c : _} → (now : Ledger P a b c) → Kept P
    → (new : Ledger P a b c) → Type 0
IsPutBack {P} {a} {b} {c} now kept new = (was : Ledger P a b c) → IsKeptOf was kept (before_of now) → new ≡ was
