-- Messages in flight that have got fair rates: what keeps them so, and how they are read.
use Rattle.link_flights.proofs.Common.{◌≡◌, ℕ, ◌-◌, ◌<◌, true, not, List, [], ◌∷◌, Option, Contains}
use Rattle.link_flights.proofs.Common.{refl, sym, ap, ◌∙◌, subst, inl, inr, AllZip, filter, Ordering, Caps, AreOfPeers}
use Rattle.link_flights.proofs.Common.{limits, In, in_from_contains, contains_from_in, Message, is_delivered}
use Rattle.link_flights.proofs.Common.{rated_messages, drained_to, is_spent, Flights, UnitFlight, DrainsTo, AreTimed}
use Rattle.link_flights.proofs.Common.{in_units, sent_messages, rates_of, rated_ones, is_out, are_limited}
use Rattle.link_flights.proofs.Common.{AreFairlyRated, WereRatedUnder, IsNoMore, IsLoose, DifferWhereLoose}
use Rattle.link_flights.proofs.Common.{rated_flight_of, sending_of, message_of}
use Rattle.std.proofs.Math.Logic.{∥∥₁_elim}
use Rattle.std.proofs.Props.{props}
use Rattle.link_simulation.specs.Rule.Planned.{left_at}
use Rattle.link_flights.specs.Flights.Rated.{AreRated, IsAsRated}
use Rattle.fairness.proofs.Lists.Zips.{zip-filter}
use Rattle.link_flights.proofs.Flights.InFlight.{read_filter}
use Rattle.link_flights.proofs.Flights.Units.{drained_units}

module _ {P : Type 0} where
  -- ---- the same messages at the same rates

  pub drained_as_rated : (now : ℕ) (u v : UnitFlight P) → DrainsTo now u v → IsAsRated u v
  drained_as_rated now u v d = record {
    message = ap (λ x. x.message) d;
    rate = ap (λ x. x.rate) d;
    rated = ap (λ x. x.rated) d;
  }

  rated_alike : (us vs : List (UnitFlight P)) → AllZip IsAsRated us vs
      → AllZip IsAsRated (rated_ones us) (rated_ones vs)
  rated_alike = zip-filter IsAsRated (λ u. u.rated) (λ v. v.rated) (λ u v same. sym same.rated)

  messages_alike : (us vs : List (UnitFlight P)) → AllZip IsAsRated us vs → sent_messages vs ≡ sent_messages us
  messages_alike [] [] z = refl
  messages_alike [] (v ∷ vs) z = absurd z
  messages_alike (u ∷ us) [] z = absurd z
  messages_alike (u ∷ us) (v ∷ vs) z = rw (z.0.message, messages_alike us vs z.1) refl

  rates_alike : (us vs : List (UnitFlight P)) → AllZip IsAsRated us vs → rates_of vs ≡ rates_of us
  rates_alike [] [] z = refl
  rates_alike [] (v ∷ vs) z = absurd z
  rates_alike (u ∷ us) [] z = absurd z
  rates_alike (u ∷ us) (v ∷ vs) z = rw (z.0.rate, rates_alike us vs z.1) refl

  -- ---- read as messages in flight

  pub sent_as_read : (scale : ℕ) (us : List (UnitFlight P)) → rated_messages (sending_of scale us) ≡ sent_messages us
  sent_as_read scale [] = refl
  sent_as_read scale (u ∷ us) = ap (λ l. message_of u.message ∷ l) (sent_as_read scale us)

  drained_one : (scale now : ℕ) (u v : UnitFlight P) → 0 < scale → DrainsTo now u v
      → rated_flight_of scale v
      ≡ record (rated_flight_of scale u) { left = left_at now (rated_flight_of scale u); updated = now }
  drained_one scale now u v some d =
      ap (rated_flight_of scale) d
      ∙ ap (λ (a : _). record (rated_flight_of scale u) { left = a; updated = now })
      (sym (drained_units u.left u.rate scale (now - u.updated) some))

  pub drained_sending : (scale now : ℕ) (us vs : List (UnitFlight P)) → 0 < scale → AllZip (DrainsTo now) us vs
      → sending_of scale vs ≡ drained_to now (sending_of scale us)
  drained_sending scale now [] [] some z = refl
  drained_sending scale now [] (v ∷ vs) some z = absurd z
  drained_sending scale now (u ∷ us) [] some z = absurd z
  drained_sending scale now (u ∷ us) (v ∷ vs) some z =
      ap (λ x. x ∷ sending_of scale vs) (drained_one scale now u v some z.0)
      ∙ ap (λ l. record (rated_flight_of scale u) { left = left_at now (rated_flight_of scale u); updated = now } ∷ l)
      (drained_sending scale now us vs some z.1)

module _ {P : Type 0} (cmp : P → P → Ordering) (caps : Caps P) where
  -- those that are done, as they are read
  pub out_as_read : (scale : ℕ) (us : List (UnitFlight P))
      → rated_messages (filter (is_spent cmp caps) (sending_of scale us))
      ≡ sent_messages (filter (is_out cmp caps scale) us)
  out_as_read scale us =
      ap rated_messages (read_filter (rated_flight_of scale) (is_spent cmp caps) us)
      ∙ sent_as_read scale (filter (is_out cmp caps scale) us)

  pub stay_as_read : (scale : ℕ) (us : List (UnitFlight P))
      → filter (λ f. not (is_spent cmp caps f)) (sending_of scale us)
      ≡ sending_of scale (filter (λ u. not (is_out cmp caps scale u)) us)
  stay_as_read scale us = read_filter (rated_flight_of scale) (λ f. not (is_spent cmp caps f)) us

  pub still_fair_after : (scale : ℕ) (us vs : List (UnitFlight P)) → AllZip IsAsRated us vs
      → AreFairlyRated cmp caps scale (rated_ones us) → AreFairlyRated cmp caps scale (rated_ones vs)
  still_fair_after scale us vs z f =
      let same = rated_alike us vs z in
      rw (messages_alike (rated_ones us) (rated_ones vs) same, rates_alike (rated_ones us) (rated_ones vs) same) f

  pub still_limited : (us vs : List (UnitFlight P)) → AllZip IsAsRated us vs
      → are_limited cmp caps (rated_ones us) ≡ true
      → are_limited cmp caps (rated_ones vs) ≡ true
  still_limited us vs z all = by_messages (rated_ones us) (rated_ones vs) (rated_alike us vs z) ∙ all
    where
      by_messages : (us vs : List (UnitFlight P)) → AllZip IsAsRated us vs
          → are_limited cmp caps vs ≡ are_limited cmp caps us
      by_messages [] [] z = refl
      by_messages [] (v ∷ vs) z = absurd z
      by_messages (u ∷ us) [] z = absurd z
      by_messages (u ∷ us) (v ∷ vs) z = rw (z.0.message, by_messages us vs z.1) refl

  -- those that got rates are limited
  pub limited_if_so : {a : _} {b : _} {c : _} (flights : Flights P a b c) → ∥ WereRatedUnder cmp caps flights ∥₁
      → are_limited cmp caps (rated_ones (in_units flights)) ≡ true
  limited_if_so flights so = ∥∥₁_elim so (hlevel props) (λ f. f.limited)

  -- and their finishes are right
  pub timed_if_so : {a : _} {b : _} {c : _} (flights : Flights P a b c) → ∥ WereRatedUnder cmp caps flights ∥₁
      → AreTimed flights.list.items
  timed_if_so flights so = ∥∥₁_elim so (hlevel props) (λ f. f.timed)

  -- what has got fair rates had them under the caps as they are
  pub rated_under : {a : _} {b : _} {c : _} (flights : Flights P a b c) → AreOfPeers cmp caps
      → AreRated cmp caps flights → WereRatedUnder cmp caps flights
  rated_under flights of h = record {
    was = caps;
    of_peers = of;
    fair = h.fair;
    differ = λ s. inl refl;
    limited = h.limited;
    timed = h.timed;
  }

  -- one that stands among those that stand as they are rated
  one_before : (us vs : List (UnitFlight P)) → AllZip IsAsRated us vs → (v : UnitFlight P) → In vs v
      → (u : UnitFlight P) × In us u × IsAsRated u v
  one_before [] [] z v h = absurd h
  one_before [] (w ∷ vs) z v h = absurd z
  one_before (u ∷ us) [] z v h = absurd h
  one_before (u ∷ us) (w ∷ vs) z v (inl e) = (u, inl refl, subst (IsAsRated u) e z.0)
  one_before (u ∷ us) (w ∷ vs) z v (inr h) =
      let r : (x : UnitFlight P) × In us x × IsAsRated x v = one_before us vs z.1 v h in (r.0, inr r.1, r.2)

  -- where caps differ, those that stay loose with no greater floor are loose as before
  pub still_differ : (was : Caps P) (us vs ws : List (UnitFlight P)) → AllZip IsAsRated us vs
      → ((w : UnitFlight P) → In ws w → In vs w) → (loose : List (Message P)) (floor lower : Option ℕ)
      → ((rate : ℕ) → IsNoMore floor rate → IsNoMore lower rate)
      → DifferWhereLoose cmp was caps loose floor us → DifferWhereLoose cmp was caps loose lower ws
  still_differ was us vs ws z among loose floor lower lowered differ s = elim (differ s) [
    | inl same ↦ inl same
    | inr all ↦ inr (λ w has rated l.
        let o = one_before us vs z w (among w (in_from_contains ws w has)) in
        let u = o.0 in
        let alike = o.2 in
        let h : IsLoose loose floor u =
        all u (contains_from_in us u o.1) (sym alike.rated ∙ rated)
        (ap (λ m. limits cmp s (record { id = 0; origin = m.origin; recipient = m.recipient; delivered = is_delivered cmp (message_of m) }))
        (sym alike.message) ∙ l) in (
          subst (λ m. Contains loose (message_of m)) (sym alike.message) h.0,
          subst (IsNoMore lower) (sym alike.rate) (lowered u.rate h.1),
        ))
  ]
