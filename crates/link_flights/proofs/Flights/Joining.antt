-- What stands in flight at the moment of an account, and what joins it.
use Rattle.link_flights.proofs.Common.{◌≡◌, ℕ, suc, ◌-◌, ◌*◌, ◌<◌, Bool, true, false, not, cond, List, [], ◌∷◌, ◌++◌}
use Rattle.link_flights.proofs.Common.{Some, All, sym, ap, ◌∙◌, subst, arith, inl, inr, ◌==◌, AllZip, filter, Ordering}
use Rattle.link_flights.proofs.Common.{false≢true, get_or-map, length-map, append-nil, Caps, whole, In, from_filter}
use Rattle.link_flights.proofs.Common.{in_from_contains, in_either, in_map, all_passed, contains_from_in}
use Rattle.link_flights.proofs.Common.{All-from_contains, Message, is_unlimited, RatedFlight, drained_to, is_spent}
use Rattle.link_flights.proofs.Common.{message_of, Flights, UnitFlight, DrainsTo, in_units, loose_in, rated_flight_of}
use Rattle.link_flights.proofs.Common.{sending_of, is_out, are_limited, rated_ones, sent_messages, AreFairlyRated}
use Rattle.link_flights.proofs.Common.{IsNoMore, IsLoose, filter-append, mul-zero, ArePartedBy}
use Rattle.std.specs.Prelude.{length, map, ◌||◌}
use Rattle.link_pairs.specs.declared.message.Message as code
use Rattle.link_flights.specs.Flights.InFlight.{Joins}
use Rattle.link_flights.specs.Flights.Rated.{HadFairRates}
use Rattle.link_flights.proofs.Flights.Rated.{drained_sending}

module _ {X : Type 0} (test : X → Bool) (xs : List X) (x : X) where
  one_more_in : test x ≡ true → filter test (xs ++ x ∷ []) ≡ filter test xs ++ x ∷ []
  one_more_in is = filter-append test xs (x ∷ []) ∙ ap (λ b. filter test xs ++ cond b (x ∷ []) []) is

  one_more_out : test x ≡ false → filter test (xs ++ x ∷ []) ≡ filter test xs
  one_more_out is =
      filter-append test xs (x ∷ []) ∙ ap (λ b. filter test xs ++ cond b (x ∷ []) []) is
      ∙ append-nil (filter test xs)

module _ {P : Type 0} where
  -- ---- at the moment of an account

  drained_at : (now : ℕ) (fs : List (RatedFlight P)) (f : RatedFlight P) → In (drained_to now fs) f → f.updated ≡ now
  drained_at now [] f among = absurd among
  drained_at now (g ∷ fs) f (inl is) = ap (λ (x : RatedFlight P). x.updated) (sym is)
  drained_at now (g ∷ fs) f (inr among) = drained_at now fs f among

  -- what stays of what has drained to a moment has it as its update
  pub left_updated : (scale now : ℕ) (test : RatedFlight P → Bool) (us : List (UnitFlight P))
      (fs : List (RatedFlight P)) → sending_of scale us ≡ filter test (drained_to now fs)
      → All (λ (u : UnitFlight P). u.updated ≡ now) us
  left_updated scale now test us fs is k d lt =
      let read : UnitFlight P → RatedFlight P = rated_flight_of scale in
      let all : All (λ (f : RatedFlight P). f.updated ≡ now) (filter test (drained_to now fs)) =
      All-from_contains (λ (f : RatedFlight P). f.updated ≡ now) (filter test (drained_to now fs))
      (λ f has. drained_at now fs f
      (from_filter test (drained_to now fs) f (in_from_contains (filter test (drained_to now fs)) f has)).0) in
      ap (λ (f : RatedFlight P). f.updated) (sym (get_or-map read us k d (read d) lt))
      ∙ subst (λ (gs : List (RatedFlight P)). All (λ f. f.updated ≡ now) gs) (sym is) all k (read d)
      (omega (arith, length-map us read, lt))

  stands : (now : ℕ) (u : UnitFlight P) → u.updated ≡ now → DrainsTo now u u
  stands now u at =
      let none : u.rate * (now - u.updated) ≡ 0 =
      ap (λ n. u.rate * (now - n)) at ∙ ap (λ n. u.rate * n) (none_less now) ∙ mul-zero u.rate in
      let left : u.left ≡ u.left - u.rate * (now - u.updated) = omega (arith, none) in
      λ i. record u { left = left i; updated = at i }
    where
      none_less : (n : ℕ) → n - n ≡ 0
      none_less n = omega arith

  all_stand : (now : ℕ) (us : List (UnitFlight P)) → All (λ (u : UnitFlight P). u.updated ≡ now) us
      → AllZip (DrainsTo now) us us
  all_stand now [] all = tt
  all_stand now (u ∷ us) all = (stands now u (all 0 u (omega arith)), all_stand now us (λ k d lt. all (suc k) d (omega arith)))

  -- and drains no further at it
  pub still_as_read : (scale now : ℕ) (us : List (UnitFlight P)) → 0 < scale
      → All (λ (u : UnitFlight P). u.updated ≡ now) us → drained_to now (sending_of scale us) ≡ sending_of scale us
  still_as_read scale now us some all = sym (drained_sending scale now us us some (all_stand now us all))

module _ {P : Type 0} (cmp : P → P → Ordering) (caps : Caps P) where
  -- what stays uses a capped side
  pub left_limited : (scale : ℕ) (us : List (UnitFlight P)) (fs : List (RatedFlight P))
      → sending_of scale us ≡ filter (λ f. not (is_spent cmp caps f)) fs → are_limited cmp caps us ≡ true
  left_limited scale us fs is =
      all_passed (λ (u : UnitFlight P). not (is_unlimited cmp caps (message_of u.message))) us (λ u among.
      limited (is_unlimited cmp caps (message_of u.message)) (rated_flight_of scale u).left.num
      (from_filter (λ f. not (is_spent cmp caps f)) fs (rated_flight_of scale u)
      (subst (λ (gs : List (RatedFlight P)). In gs (rated_flight_of scale u)) is
      (in_map (rated_flight_of scale) us u among))).1)
    where
      limited : (b : Bool) (n : ℕ) → not ((n == 0) || b) ≡ true → not b ≡ true
      limited b n h = by_test (n == 0) h
        where
          by_test : (none : Bool) → not (none || b) ≡ true → not b ≡ true
          by_test true h = cc
          by_test false h = h

  -- ---- one that joins

  -- the others had fair rates with those that left, as before
  pub fair_with : {a : _} {b : _} {c : _} (id now : ℕ) (m : code.Message P) (old new : Flights P a b c)
      (done : List (Message P)) → Joins id now m old new
      → is_spent cmp caps
      (record { id = id; message = message_of m; left = whole (length m.bytes); rate = Some (whole 0); updated = now })
      ≡ false
      → HadFairRates cmp caps old done → HadFairRates cmp caps new done
  fair_with {a} {b} {c} id now m old new done j stays h =
      let out : UnitFlight P → Bool = is_out cmp caps new.scale in
      let in_it : out j.unit ≡ false = ap (is_spent cmp caps) j.is ∙ stays in
      let before : List (UnitFlight P) = h.before ++ j.unit ∷ [] in
      let parted : ArePartedBy out h.before done (in_units old) =
      subst (λ n. ArePartedBy (is_out cmp caps n) h.before done (in_units old)) (sym j.scale) h.parted in
      record {
        before = before;
        parted = record {
          left = parted.left ∙ sym (ap sent_messages (one_more_out out h.before j.unit in_it));
          stay =
              j.joins ∙ ap (λ us. us ++ j.unit ∷ []) parted.stay
              ∙ sym (one_more_in (λ u. not (out u)) h.before j.unit (ap not in_it));
        };
        was = h.was;
        of_peers = h.of_peers;
        fair =
            subst (AreFairlyRated cmp h.was new.scale)
            (sym (one_more_out (λ u. u.rated) h.before j.unit j.unrated))
            (subst (λ n. AreFairlyRated cmp h.was n (rated_ones h.before)) (sym j.scale) h.fair);
        differ = λ s. elim (h.differ s) [
          | inl same ↦ inl same
          | inr all ↦ inr (λ u has rated l.
              subst (λ ms. IsLoose (map (λ m. message_of m) ms) new.floor u) (sym j.loose)
              (subst (λ o. IsLoose (loose_in old) o u) (sym j.floor)
              (elim (in_either (in_units old) (j.unit ∷ []) u
              (subst (λ us. In us u) j.joins (in_from_contains (in_units new) u has))) [
                | inl among ↦ all u (contains_from_in (in_units old) u among) rated l
                | inr among ↦ elim among [
                  | inl is ↦ absurd (false≢true (sym j.unrated ∙ ap (λ v. v.rated) is ∙ rated))
                  | inr none ↦ absurd none
                ]
              ])))
        ];
        no_less = λ u has leaves rated.
            subst (λ o. IsNoMore o u.rate) (sym j.floor)
            (elim (in_either h.before (j.unit ∷ []) u (in_from_contains before u has)) [
              | inl among ↦ h.no_less u (contains_from_in h.before u among)
                  (ap (λ n. is_out cmp caps n u) (sym j.scale) ∙ leaves) rated
              | inr among ↦ elim among [
                | inl is ↦ absurd (false≢true (sym j.unrated ∙ ap (λ v. v.rated) is ∙ rated))
                | inr none ↦ absurd none
              ]
            ]);
        timed = j.timed h.timed;
      }
