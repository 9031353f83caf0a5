-- Messages in flight as they stand at an account, in units.
use Rattle.link_flights.proofs.Common.{◌≡◌, ℕ, zero, suc, Bool, false, ◌||◌, List, [], ◌∷◌, ◌++◌, length, get_or, ◌<◌}
use Rattle.link_flights.proofs.Common.{refl, sym, ap, ◌∙◌, arith, inl, inr, subst, In, from_filter, in_filter}
use Rattle.link_flights.proofs.Common.{in_from_contains, contains_from_in, none-some, same_Some, false≢true, length-map}
use Rattle.link_flights.proofs.Common.{AllZip, list_any, Ordering, Caps, Message, RatedFlight, rated_messages, Flight}
use Rattle.link_flights.proofs.Common.{UnitFlight, flight_at, flights_at, AreTimed, sent_messages, rated_ones}
use Rattle.link_flights.proofs.Common.{are_limited, WereRatedUnder, IsRatedFrom, rated_flight_of, sending_of, Flights}
use Rattle.link_flights.proofs.Common.{in_units, message_of}
use Rattle.link_flights.proofs.Flights.InFlight.{read_at}

module _ {P : Type 0} where
  -- as many are in flight as are kept
  pub length_in_flight : (scale at : ℕ) (fs : List (Flight P))
      → length (sending_of scale (flights_at at fs)) ≡ length fs
  length_in_flight scale at fs =
      length-map (flights_at at fs) (rated_flight_of scale) ∙ length-map fs (λ f. flight_at at f)

  -- their messages are read as they are
  pub messages_read : (scale : ℕ) (us : List (UnitFlight P)) → rated_messages (sending_of scale us) ≡ sent_messages us
  messages_read scale [] = refl
  messages_read scale (u ∷ us) = ap (λ (ms : List (Message P)). message_of u.message ∷ ms) (messages_read scale us)

  -- whether one of the messages passes a test
  pub any_sent : (scale at : ℕ) (fs : List (Flight P)) (test : Message P → Bool)
      → list_any test (rated_messages (sending_of scale (flights_at at fs)))
      ≡ list_any (λ f. test (message_of f.message.value)) fs
  any_sent scale at [] test = refl
  any_sent scale at (f ∷ fs) test =
      ap (λ b. test (message_of f.message.value) || b) (any_sent scale at fs test)

  -- and stay the same as they get their rates
  pub messages_kept : (now times : ℕ) (us vs : List (UnitFlight P)) → AllZip (IsRatedFrom now times) us vs
      → sent_messages vs ≡ sent_messages us
  messages_kept now times [] [] each = refl
  messages_kept now times [] (v ∷ vs) each = absurd each
  messages_kept now times (u ∷ us) [] each = absurd each
  messages_kept now times (u ∷ us) (v ∷ vs) each = rw (each.0.message, messages_kept now times us vs each.1) refl

  -- one that has no rate yet leaves the others timed
  pub timed_with : (fs : List (Flight P)) (g : Flight P) → g.rated ≡ false → AreTimed fs
      → AreTimed (fs ++ g ∷ [])
  timed_with [] g new timed zero f is rated =
      absurd (false≢true (sym new ∙ ap (λ (x : Flight P). x.rated) (same_Some g f is) ∙ rated))
  timed_with [] g new timed (suc i) f is rated = absurd (none-some f is)
  timed_with (h ∷ fs) g new timed zero f is rated = timed 0 f is rated
  timed_with (h ∷ fs) g new timed (suc i) f is rated =
      timed_with fs g new (λ j k there. timed (suc j) k there) i f is rated

  -- what is kept at a place, as it is read
  pub there_in_flight : (scale at : ℕ) (fs : List (Flight P)) (i : ℕ) (f : Flight P)
      (d : RatedFlight P)
      → i < length fs → f ≡ get_or fs i f
      → get_or (sending_of scale (flights_at at fs)) i d ≡ rated_flight_of scale (flight_at at f)
  there_in_flight scale at fs i f d lt is =
      let kept : get_or (flights_at at fs) i (flight_at at f) ≡ flight_at at f =
      read_at (λ g. flight_at at g) fs i f (flight_at at f) lt is in
      read_at (rated_flight_of scale) (flights_at at fs) i (flight_at at f) d
      (omega (arith, lt, length-map fs (λ g. flight_at at g))) (sym kept)

module _ {P : Type 0} (cmp : P → P → Ordering) (caps : Caps P) {a : _} {b : _} {c : _} (old new : Flights P a b c) where
  -- the rates stay fair as long as they and their finishes are kept, and what is loose is
  pub still_rated : new.scale ≡ old.scale → rated_ones (in_units new) ≡ rated_ones (in_units old)
      → (AreTimed old.list.items → AreTimed new.list.items) → new.floor ≡ old.floor → new.loose ≡ old.loose
      → WereRatedUnder cmp caps old → WereRatedUnder cmp caps new
  still_rated scale ones timed floor loose rated = record {
    was = rated.was;
    of_peers = rated.of_peers;
    fair = rw (scale, ones) rated.fair;
    differ = λ s. elim (rated.differ s) [
      | inl same ↦ inl same
      | inr all ↦ inr (λ u has got l.
          let h = from_filter (λ v. v.rated) (in_units old) u
          (subst (λ us. In us u) ones
          (in_filter (λ v. v.rated) (in_units new) u (in_from_contains (in_units new) u has) got)) in
          rw (floor, loose) (all u (contains_from_in (in_units old) u h.0) got l))
    ];
    limited = ap (are_limited cmp caps) ones ∙ rated.limited;
    timed = timed rated.timed;
  }
