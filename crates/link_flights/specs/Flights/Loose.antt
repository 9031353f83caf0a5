-- Messages in flight for which a cap has changed since the last account.
use Rattle.std.specs.Prelude.{◌≡◌, ℕ, true, Bool, Contains, slice_index_or}
use Rattle.std.specs.declared.cmp.Ordering.{Ordering}
use Rattle.fairness.specs.Sides.Subjects.{same_peer}
use Rattle.link_simulation.specs.Simulation.Messages.{Message}
use Rattle.link_pairs.specs.declared.message.Message as code
use Rattle.link_pairs.specs.Pairs.Messages.{message_of}
use Rattle.link_flights.specs.declared.flight.Flight.{Flight}
use Rattle.link_flights.specs.declared.flight_list.Flights.{Flights}
use Rattle.link_flights.specs.declared.table.End.{End}
use Rattle.link_flights.specs.declared.table.End.TheVariants.{Origin, Recipient}
use Rattle.link_flights.specs.Flights.Flight.{UnitFlight, flight_at}
use Rattle.link_flights.specs.Flights.InFlight.{in_units, loose_in}
use Rattle.link_flights.specs.Flights.Rated.{IsLoose}

-- whether the peer is at that end of the message
abbrev pub is_at_end : {P : Type 0} → (P → P → Ordering) → End → P → code.Message P → Bool
is_at_end cmp Origin p m = same_peer cmp p m.origin
is_at_end cmp Recipient p m = same_peer cmp p m.recipient

-- what is in flight is as it was, and what was loose still is
pub record AreStillLoose {P : Type 0} {a : _} {b : _} {c : _} (old new : Flights P a b c) : Type 0 where
  pub list : new.list.items ≡ old.list.items
  pub scale : new.scale ≡ old.scale
  pub at : new.at ≡ old.at
  pub still : (u : UnitFlight P) → IsLoose (loose_in old) old.floor u → IsLoose (loose_in new) new.floor u

-- so is the one at that place, if it has got a rate
abbrev pub IsLooseAt : {P : Type 0} {a : _} {b : _} {c : _} → ℕ → Flights P a b c → Type 0
IsLooseAt {P} at flights = (d : Flight P) → (slice_index_or flights.list.items at d).rated ≡ true
    → IsLoose (loose_in flights) flights.floor
    (flight_at flights.at (slice_index_or flights.list.items at d))

-- and so are all that have got rates and whose messages pass the test
pub record Loosens {P : Type 0} {a : _} {b : _} {c : _} (test : Message P → Bool) (old new : Flights P a b c)
    : Type 0 where
  pub loose : AreStillLoose old new
  pub all : (u : UnitFlight P) → Contains (in_units new) u → u.rated ≡ true → test (message_of u.message) ≡ true
      → IsLoose (loose_in new) new.floor u

-- those that have a peer at that end
abbrev pub LoosensAt : {P : Type 0} {a : _} {b : _} {c : _} → (P → P → Ordering) → End → P → (old new : Flights P a b c)
    → Type 0
LoosensAt cmp Origin p old new = Loosens (λ m. same_peer cmp p m.origin) old new
LoosensAt cmp Recipient p old new = Loosens (λ m. same_peer cmp p m.recipient) old new
