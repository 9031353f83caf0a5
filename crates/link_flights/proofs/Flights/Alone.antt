-- What is in flight alone, or is not there, and its fair rate.
use Rattle.link_flights.proofs.Common.{◌≡◌, ◌≢◌, ℕ, zero, suc, ◌<◌, List, [], ◌∷◌, All, length, get_or, refl, sym, ap}
use Rattle.link_flights.proofs.Common.{◌∙◌, ◌⊎◌, inl, inr, subst, arith, slice_index, IsTotalOrder, eqb-true}
use Rattle.link_flights.proofs.Common.{nil_from_length, Ordering, IsFair, AreOfPeers, sides_under, Caps}
use Rattle.link_flights.proofs.Common.{same_peer_itself, capped_sides, message_of, Flight, Flights, UnitFlight}
use Rattle.link_flights.proofs.Common.{flight_at, flights_at, IsTimed, AreTimed, in_units, IsReratedAt, HaveFairRates}
use Rattle.link_flights.proofs.Common.{rated_anew, sent_messages, flow_sent, still_fair, AreFairFor, AreKeptBut}
use Rattle.std.specs.Prelude.{◌==◌, true, slice_set}
use Rattle.link_pairs.specs.declared.message.Message as code
use Rattle.link_flights.proofs.Flights.FairMessages.{same_sides}
use Rattle.link_flights.proofs.Flights.Rerating.{all_kept}

-- the only one of a list
only_one : {X : Type 0} (xs : List X) → length xs ≡ 1 → (x : X) × (xs ≡ x ∷ [])
only_one [] one = absurd (omega (arith, one))
only_one (x ∷ []) one = (x, refl)
only_one (x ∷ y ∷ xs) one = absurd (omega (arith, one))

-- where there is none, the list is empty
pub none_there : {X : Type 0} (xs : List X) → (length xs == 0) ≡ true → xs ≡ []
none_there xs none = nil_from_length xs (eqb-true (length xs) 0 none)

-- at most the first is written anew
pub first_kept : {X : Type 0} (n : ℕ) (xs ys : List X)
    → ((n ≡ 0) × (ys ≡ xs)) ⊎ ((n ≡ 1) × ((one : X) × (ys ≡ slice_set xs 0 one))) → AreKeptBut n xs ys
first_kept n xs ys (inl same) = rw (same.0, same.1) (all_kept xs)
first_kept n [] ys (inr one) = one.1.1
first_kept n (x ∷ xs) ys (inr one) = rw (one.0, one.1.1) (inr (all_kept xs))

module _ {P : Type 0} where
  -- where something is left of each, so it is of the first
  pub first_left : (now : ℕ) (fs : List (Flight P)) (d : Flight P) → 0 < length fs
      → All (λ (u : UnitFlight P). u.left ≢ 0) (flights_at now fs) → (flight_at now (get_or fs 0 d)).left ≢ 0
  first_left now [] d lt left = absurd (omega (arith, lt))
  first_left now (f ∷ fs) d lt left = left 0 (flight_at now f) (omega arith)

  -- finishes are right where nothing is in flight, and where that of the only one is
  none_timed : (fs : List (Flight P)) → fs ≡ [] → AreTimed fs
  none_timed [] none i f there rated = cc
  none_timed (x ∷ fs) none i f there rated = cc

  one_timed : (one : Flight P) → IsTimed one → AreTimed (one ∷ [])
  one_timed one timed zero f there rated =
      let same : one ≡ f = cc in
      subst (λ (g : Flight P). IsTimed g) same timed
  one_timed one timed (suc i) f there rated = cc

module _ {P : Type 0} (cmp : P → P → Ordering) (caps : Caps P) where
  -- with no messages there are no sides, and nothing is held back
  none_fair : (us : List (UnitFlight P)) (scale : ℕ) (parts : ℕ → ℕ) → us ≡ [] → 0 < scale
      → IsFair (capped_sides cmp caps (sent_messages us)) scale parts
  none_fair [] scale parts none some = record {
    some_part = some;
    within = λ i side lt. absurd (omega (arith, lt));
    held = λ flow limited. absurd (omega (arith, limited.1.listed.1));
  }
  none_fair (u ∷ us) scale parts none some = cc

  module _ {a : _} {b : _} {c : _} (old new : Flights P a b c) (scale : new.scale ≡ old.scale)
      (at : new.at ≡ old.at) where
    -- where nothing is in flight, there is nothing to rate
    pub none_given : old.list.items ≡ [] → new.list.items ≡ old.list.items → HaveFairRates cmp caps old new
    none_given none same =
        let here : in_units new ≡ [] = ap (flights_at new.at) (same ∙ none) in
        let were : in_units old ≡ [] = ap (flights_at old.at) none in
        record {
          times = 1;
          scale = omega (arith, scale);
          at = at;
          each = rw (were, here) tt;
          fair = none_fair (in_units new) new.scale _ here new.scaled;
          timed = none_timed new.list.items (same ∙ none);
        }

    -- one that is alone has a fair rate where it is fair for its message alone
    pub one_given : length old.list.items ≡ 1 → (rate : ℕ) → ((d : Flight P) → AreFairFor cmp caps old.scale
        (message_of (get_or old.list.items 0 d).message.value ∷ []) (rate ∷ []))
        → IsReratedAt old.at 0 1 rate old.list.items new.list.items → HaveFairRates cmp caps old new
    one_given one rate fair r =
        let x = only_one old.list.items one in
        let now : new.list.items ≡ r.one ∷ [] = r.others ∙ ap (λ l. slice_set l 0 r.one) x.1 in
        let unit : flight_at old.at r.one ≡ rated_anew old.at 1 rate (flight_at old.at x.0) =
        r.unit x.0 ∙ ap (λ l. rated_anew old.at 1 rate (flight_at old.at (get_or l 0 x.0))) x.1 in
        let here : in_units new ≡ rated_anew old.at 1 rate (flight_at old.at x.0) ∷ [] =
        ap (λ n. flights_at n new.list.items) at ∙ ap (flights_at old.at) now ∙ ap (λ u. u ∷ []) unit in
        let were : in_units old ≡ flight_at old.at x.0 ∷ [] = ap (flights_at old.at) x.1 in
        let fairly : AreFairFor cmp caps old.scale (message_of x.0.message.value ∷ []) (rate ∷ []) =
        subst (λ l. AreFairFor cmp caps old.scale (message_of (get_or l 0 x.0).message.value ∷ []) (rate ∷ [])) x.1
        (fair x.0) in
        record {
          times = 1;
          scale = omega (arith, scale);
          at = at;
          each = rw (were, here) (
            record {
              id = refl;
              message = refl;
              left = refl;
              updated = refl;
              rated = refl;
            },
            tt,
          );
          fair = rw (scale, here) fairly;
          timed = subst AreTimed (sym now) (one_timed r.one r.timed);
        }

-- what is fair for the flow of a message alone is fair for the message
pub alone_fair : {P : Type 0} (cmp : P → P → Ordering) → IsTotalOrder cmp → (caps : Caps P) → AreOfPeers cmp caps
    → (m : code.Message P) (scale parts : ℕ) → IsFair (sides_under cmp caps (flow_sent cmp m ∷ [])) scale (slice_index (parts ∷ []))
    → AreFairFor cmp caps scale (message_of m ∷ []) (parts ∷ [])
alone_fair cmp order caps of m scale parts fair =
    still_fair (sides_under cmp caps (flow_sent cmp m ∷ [])) (capped_sides cmp caps (message_of m ∷ []))
    (same_sides cmp order caps of (flow_sent cmp m ∷ []) (message_of m ∷ []) (
      record {
        origin = same_peer_itself cmp order m.origin;
        recipient = same_peer_itself cmp order m.recipient;
        delivered = refl;
      },
      tt,
    )) scale (slice_index (parts ∷ [])) fair
