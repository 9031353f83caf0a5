use Rattle.link_flights.proofs.Common.{◌≡◌, ◌++◌, ◌∷◌, [], ◌*◌, length, Some, false, refl, sym, ap, ◌∙◌, subst}
use Rattle.link_flights.proofs.Common.{List, ◌≤◌, list_all, and_from, HaveRates}
use Rattle.link_flights.proofs.Common.{map-append, billion, whole, Flight, message_of, UnitFlight, flight_at}
use Rattle.link_flights.proofs.Common.{flights_at, AreTimed, rated_flight_of, sending_of, in_flight, in_units}
use Rattle.std.proofs.lemmas.List.Folds.{list_all-append}
use Rattle.link_flights.proofs.Flights.Flight.{is_past}
use Rattle.link_flights.proofs.Flights.Settled.{rates_with, longer_with}
use Rattle.link_flights.proofs.Flights.Standing.{timed_with}
use Rattle.link_flights.proofs.Flights.Units.{units_of_bytes, no_units}
use Rattle.link_flights.proofs.flight_list.Flights.push.Goals as goal
use Rattle.link_flights.proofs.flight_list.Flights.push.Goals.{After-self-in_default-1}

-- as it is kept
abbrev unit_of : (g : _) (c : After-self-in_default-1 g) → UnitFlight g.row.P.Denot
unit_of g c =
    record {
      id = c.args.id;
      message = c.args.message.value;
      left = c.in_ok-left.left;
      rate = 0;
      updated = c.args.now;
      rated = false;
    }

joins_so : (g : _) (c : After-self-in_default-1 g)
    → flights_at c.args.self.now.at c.push.new.self.items ≡ in_units c.args.self.now ++ unit_of g c ∷ []
joins_so g c =
    let old = c.args.self.now in
    ap (flights_at old.at) c.in_default.ensures.items
    ∙ map-append (λ (f : Flight g.row.P.Denot). flight_at old.at f) old.list.items
    (_ ∷ [])

-- as it is read
read_so : (g : _) (c : After-self-in_default-1 g) → rated_flight_of c.args.self.now.scale (unit_of g c)
    ≡ record {
      id = c.args.id;
      message = message_of c.args.message.value;
      left = whole (length c.args.message.value.bytes);
      rate = Some (whole 0);
      updated = c.args.now;
    }
read_so g c =
    let old = c.args.self.now in
    let m = c.args.message in
    let bytes : c.len.result ≡ length m.value.bytes = c.len.ensures.value ∙ ap (λ x. length x.bytes) c.deref.ensures in
    let left : c.in_ok-left.left ≡ old.scale * (length m.value.bytes * billion) =
    c.in_ok-left.ensures.value ∙ ap (λ n. old.scale * (n * billion)) bytes in
    λ i. record {
      id = c.args.id;
      message = message_of m.value;
      left = units_of_bytes old.scale (length m.value.bytes) c.in_ok-left.left old.scaled left i;
      rate = Some (no_units old.scale old.scaled i);
      updated = c.args.now;
    }

pub returns-clause-sending : goal.returns-clause-sending
returns-clause-sending g c =
    let old = c.args.self.now in
    ap (sending_of old.scale) (joins_so g c)
    ∙ map-append (rated_flight_of old.scale) (in_units old) (unit_of g c ∷ [])
    ∙ ap (λ x. in_flight old ++ x ∷ []) (read_so g c)

pub returns-clause-timed : goal.returns-clause-timed
returns-clause-timed g c =
    λ timed.
    subst AreTimed (sym c.in_default.ensures.items)
    (timed_with c.args.self.now.list.items _ refl timed)

pub returns-clause-joined : goal.returns-clause-joined
returns-clause-joined g c =
    record {
      unit = unit_of g c;
      joins = joins_so g c;
      is = read_so g c;
      unrated = refl;
      scale = refl;
      floor = refl;
      loose = refl;
      at = refl;
      timed = returns-clause-timed g c;
    }

pub invariant_of-self-in_default-clause-past : goal.invariant_of-self-in_default-clause-past
invariant_of-self-in_default-clause-past g c =
    let old = c.args.self.now in
    ap (list_all (is_past old.at)) c.in_default.ensures.items
    ∙ list_all-append (is_past old.at) old.list.items (_ ∷ [])
    ∙ and_from (list_all (is_past old.at) old.list.items) _ old.past refl

pub invariant_of-self-in_default-clause-counted : goal.invariant_of-self-in_default-clause-counted
invariant_of-self-in_default-clause-counted g c =
    let old = c.args.self.now in
    subst (λ (fs : List (Flight g.row.P.Denot)). old.rated_anew ≤ length fs) (sym c.in_default.ensures.items)
    (longer_with old.rated_anew old.list.items (_ ∷ []) old.counted)

pub invariant_of-self-in_default-clause-have_rates : goal.invariant_of-self-in_default-clause-have_rates
invariant_of-self-in_default-clause-have_rates g c =
    let old = c.args.self.now in
    subst (HaveRates old.settled) (sym c.in_default.ensures.items)
    (rates_with old.settled old.list.items (_ ∷ []) old.have_rates)
