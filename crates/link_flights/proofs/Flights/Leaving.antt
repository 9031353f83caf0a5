-- Messages in flight leave one after another.
use Rattle.link_flights.proofs.Common.{◌≡◌, ℕ, zero, suc, Bool, true, false, cond, not, List, [], ◌∷◌, map, Some}
use Rattle.link_flights.proofs.Common.{slice_get, refl, sym, ap, ◌∙◌, filter, remove, Ordering, and_from, none-some}
use Rattle.link_flights.proofs.Common.{Caps, first_of_both, second_of_both, Flight, UnitFlight, flight_at, flights_at}
use Rattle.link_flights.proofs.Common.{AreTimed, are_limited, rated_ones, is_out, sent_messages, Message, message_of}
use Rattle.link_flights.proofs.Common.{ArePartedBy}
use Rattle.link_flights.proofs.Flights.InFlight.{read_filter}

read_without : {X Y : Type 0} (f : X → Y) (xs : List X) (at : ℕ) → map f (remove xs at) ≡ remove (map f xs) at
read_without f [] zero = refl
read_without f [] (suc at) = refl
read_without f (x ∷ xs) zero = refl
read_without f (x ∷ xs) (suc at) = ap (λ l. f x ∷ l) (read_without f xs at)

module _ {P : Type 0} where
  there : (fs : List (Flight P)) (at i : ℕ) (f : Flight P) → slice_get (remove fs at) i ≡ Some f
      → (j : ℕ) × (slice_get fs j ≡ Some f)
  there [] zero i f is = absurd (none-some f is)
  there [] (suc at) i f is = absurd (none-some f is)
  there (g ∷ fs) zero i f is = (suc i, is)
  there (g ∷ fs) (suc at) zero f is = (zero, is)
  there (g ∷ fs) (suc at) (suc i) f is =
      let r : (j : ℕ) × (slice_get fs j ≡ Some f) = there fs at i f is in (suc r.0, r.1)

  -- those that are left are timed, if all were
  pub timed_without : (fs : List (Flight P)) (at : ℕ) → AreTimed fs → AreTimed (remove fs at)
  timed_without fs at timed i f is rated = let r = there fs at i f is in timed r.0 f r.1 rated

  module _ (cmp : P → P → Ordering) (caps : Caps P) where
    -- those that have a rate and are left are limited, if all were
    abbrev pub StayRated : List (UnitFlight P) → List (UnitFlight P) → Type 0
    StayRated old new = are_limited cmp caps (rated_ones old) ≡ true → are_limited cmp caps (rated_ones new) ≡ true

    pub limited_without : (us : List (UnitFlight P)) (at : ℕ) → are_limited cmp caps (rated_ones us) ≡ true
        → are_limited cmp caps (rated_ones (remove us at)) ≡ true
    limited_without [] zero all = refl
    limited_without [] (suc at) all = refl
    limited_without (u ∷ us) zero all = rest u.rated all
      where
        rest : (b : Bool) → are_limited cmp caps (cond b (u ∷ rated_ones us) (rated_ones us)) ≡ true
            → are_limited cmp caps (rated_ones us) ≡ true
        rest true all = second_of_both _ (are_limited cmp caps (rated_ones us)) all
        rest false all = all
    limited_without (u ∷ us) (suc at) all = by_test (limited_without us at) u.rated all
      where
        by_test : (are_limited cmp caps (rated_ones us) ≡ true
            → are_limited cmp caps (rated_ones (remove us at)) ≡ true)
            → (b : Bool) → are_limited cmp caps (cond b (u ∷ rated_ones us) (rated_ones us)) ≡ true
            → are_limited cmp caps (cond b (u ∷ rated_ones (remove us at)) (rated_ones (remove us at))) ≡ true
        by_test ih true all =
            and_from _ _ (first_of_both _ (are_limited cmp caps (rated_ones us)) all)
            (ih (second_of_both _ (are_limited cmp caps (rated_ones us)) all))
        by_test ih false all = ih all

    pub flights_limited_without : (at : ℕ) (fs : List (Flight P)) (i : ℕ)
        → are_limited cmp caps (rated_ones (flights_at at fs)) ≡ true
        → are_limited cmp caps (rated_ones (flights_at at (remove fs i))) ≡ true
    flights_limited_without at fs i all =
        ap (λ us. are_limited cmp caps (rated_ones us))
        (read_without (λ (f : Flight P). flight_at at f) fs i)
        ∙ limited_without (flights_at at fs) i all

    -- those that are done have left, and the others have stayed
    pub parted_so : (scale at : ℕ) (old now : List (Flight P)) (done : List (Message P))
        → done
        ≡ map (λ f. message_of f.message.value) (filter (λ f. is_out cmp caps scale (flight_at at f)) old)
        → now ≡ filter (λ f. not (is_out cmp caps scale (flight_at at f))) old
        → ArePartedBy (is_out cmp caps scale) (flights_at at old) done (flights_at at now)
    parted_so scale at old now done left stay =
        let read = λ (f : Flight P). flight_at at f in
        record {
          left = left ∙ sent_of _ ∙ sym (ap sent_messages (read_filter read (is_out cmp caps scale) old));
          stay = ap (flights_at at) stay ∙ sym (read_filter read (λ u. not (is_out cmp caps scale u)) old);
        }
      where
        sent_of : (fs : List (Flight P))
            → map (λ f. message_of f.message.value) fs ≡ sent_messages (flights_at at fs)
        sent_of [] = refl
        sent_of (f ∷ fs) = ap (λ (l : List (Message P)). message_of f.message.value ∷ l) (sent_of fs)
