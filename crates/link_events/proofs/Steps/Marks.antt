-- What is the same after a mark is set, and once all is put back.
use Rattle.link_events.proofs.Common.{◌≡◌, false, props, Ordering, Caps, Flights, flights_at, in_flight, WereRatedUnder}
use Rattle.link_events.proofs.Common.{sending_of, OneForEachPair, rated_messages, caps_of, of_pairs, IsIndexOf}
use Rattle.link_events.proofs.Common.{since_of, Ledger}
use mathlib.Core.HLevel.{is_prop→PathP}

-- what is in flight as before, in the same units and at the same moment
module _ {P : Type 0} {a : _} {b : _} {c : _} (old new : Flights P a b c) (list : new.list.items ≡ old.list.items)
    (scale : new.scale ≡ old.scale) (at : new.at ≡ old.at) where
  pub in_flight_still : in_flight new ≡ in_flight old
  in_flight_still = λ i. sending_of (scale i) (flights_at (at i) (list i))

  pub rated_still : (cmp : P → P → Ordering) (caps : Caps P) → new.floor ≡ old.floor → new.loose ≡ old.loose
      → WereRatedUnder cmp caps old → WereRatedUnder cmp caps new
  rated_still cmp caps floor loose h = record {
    was = h.was;
    of_peers = h.of_peers;
    fair = rw (list, scale, at) h.fair;
    differ = rw (list, at, floor, loose) h.differ;
    limited = rw (list, at) h.limited;
    timed = rw list h.timed;
  }

-- ledgers are the same where all that they keep is
pub same_ledger : {P : Type 0} {a : _} {b : _} {c : _} (old new : Ledger P a b c) → new.peers ≡ old.peers
    → new.pairs ≡ old.pairs → new.waiting ≡ old.waiting → new.flights ≡ old.flights
    → new.limited ≡ old.limited → new.next_id ≡ old.next_id → new.finish ≡ old.finish → new.start ≡ old.start
    → new.stale ≡ old.stale → new ≡ old
same_ledger {P} {a} old new peers pairs waiting flights limited next_id finish start stale = λ i. record {
  alloc = old.alloc;
  peers = peers i;
  pairs = pairs i;
  waiting = waiting i;
  flights = flights i;
  limited = limited i;
  next_id = next_id i;
  finish = finish i;
  start = start i;
  rooms = tt;
  spare_ended = tt;
  spare_ready = tt;
  stale = stale i;
  indexed =
      is_prop→PathP
      (λ j. IsIndexOf a.cmp (of_pairs a.cmp (pairs j).entries (waiting j).messages (in_flight (flights j)))
      (since_of a.cmp (waiting j).told))
      (λ j. hlevel props) new.indexed old.indexed i;
  one_each =
      is_prop→PathP (λ j. ∥ OneForEachPair a.cmp (rated_messages (in_flight (flights j))) ∥₁) (λ j. hlevel props)
      new.one_each old.one_each i;
  rated =
      is_prop→PathP
      (λ j. stale j ≡ false → ∥ WereRatedUnder a.cmp (caps_of a.cmp (peers j).entries (pairs j).entries) (flights j) ∥₁)
      (λ j. hlevel props) new.rated old.rated i;
}
