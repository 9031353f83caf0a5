-- How many messages wait and are in flight, through the parts of an event.
use Rattle.link_events.proofs.Common.{◌≡◌, ℕ, suc, ◌+◌, List, [], ◌∷◌, length, Bool, true, false, not, cond, Option}
use Rattle.link_events.proofs.Common.{Some, refl, sym, ap, ◌∙◌, arith, length-append, find, filter, Ordering}
use Rattle.link_events.proofs.Common.{IsTotalOrder, length-map, ◌==◌, ◌≢◌, eqb-true, eq-eqb, without_first, flights_at}
use Rattle.link_events.proofs.Common.{sending_of, whole, Message, same_pair, Course, goes, meets, Planned, RatedFlight}
use Rattle.link_events.proofs.Common.{drained_to, is_spent, Accounts, Launches, nothing_waits, too_early, no_id, starts}
use Rattle.link_events.proofs.Common.{launched, pair_itself}
use Rattle.std.proofs.lemmas.List.Filters.{length-filter_both}
use Rattle.link_flights.specs.declared.flight.Flight.{Flight}
use Rattle.fairness.proofs.Lists.Zips.{zip-length}

pub length-without : {X : Type 0} (f g : X → Bool) (y : X) (xs : List X) → find f xs ≡ Some y → g y ≡ true
    → length (without_first g xs) + 1 ≡ length xs
length-without f g y [] found passes = cc
length-without {X} f g y (x ∷ xs) found passes = by_test (f x) (g x) refl found (length-without f g y xs)
  where
    by_test : (b d : Bool) → g x ≡ d → cond b (Some x) (find f xs) ≡ Some y
        → (find f xs ≡ Some y → g y ≡ true → length (without_first g xs) + 1 ≡ length xs)
        → length (cond d xs (x ∷ without_first g xs)) + 1 ≡ length (x ∷ xs)
    by_test b true is h ih = omega arith
    by_test true false is h ih = let same : x ≡ y = cc in let no : g x ≡ true = ap g same ∙ passes in cc
    by_test false false is h ih = let rest : length (without_first g xs) + 1 ≡ length xs = ih h passes in omega arith

length-drained : {P : Type 0} (t : ℕ) (fs : List (RatedFlight P)) → length (drained_to t fs) ≡ length fs
length-drained t [] = refl
length-drained t (f ∷ fs) = ap suc (length-drained t fs)

-- how many messages there are
abbrev pub in_system : {P : Type 0} → Planned P → ℕ
in_system p = length p.sending + length p.waiting

abbrev counted : {P : Type 0} → Course (Message P) (Planned P) → ℕ
counted (goes xs q) = length xs + in_system q
counted (meets e) = 0

module _ {P : Type 0} (cmp : P → P → Ordering) where
  -- an account loses none
  pub accounts_keep : (t : ℕ) (old new : Planned P) (leavers : List (Message P)) → Accounts cmp t old leavers new
      → length leavers + length new.sending ≡ length old.sending
  accounts_keep t old new leavers a =
      let here = drained_to t old.sending in
      let left : length leavers ≡ length (filter (is_spent cmp old.caps) here) =
      ap length a.left ∙ length-map (filter (is_spent cmp old.caps) here) (λ (f : RatedFlight P). f.message) in
      let stayed : length (filter (λ f. not (is_spent cmp old.caps f)) here) ≡ length new.sending
      = zip-length (λ (f g : RatedFlight P). (g.id ≡ f.id) × (g.message ≡ f.message) × (g.left ≡ f.left)
      × (g.updated ≡ t)) _ new.sending a.stayed in
      let both : length (filter (is_spent cmp old.caps) here) + length
      (filter (λ f. not (is_spent cmp old.caps f)) here) ≡ length here
      = length-filter_both (is_spent cmp old.caps) (λ f. not (is_spent cmp old.caps f)) (λ f. refl) here in
      omega (arith, left, stayed, both, length-drained t old.sending)

  pub accounts_waiting : (t : ℕ) (old new : Planned P) (leavers : List (Message P)) → Accounts cmp t old leavers new
      → new.waiting ≡ old.waiting
  accounts_waiting t old new leavers a = ap (λ (q : Planned P). q.waiting) a.same

  module _ (order : IsTotalOrder cmp) where
    -- nor does a launch
    pub launch_keeps : {t : ℕ} {old : Planned P} {first : Option (Message P)} {course : Course (Message P) (Planned P)}
        → Launches cmp t old first course → (f : Message P → Bool) (leavers : List (Message P)) (new : Planned P)
        → first ≡ find f old.waiting → course ≡ goes leavers new
        → length leavers + in_system new ≡ in_system old
    launch_keeps {old = old} nothing_waits f leavers new found is =
        let e : 0 + in_system old ≡ length leavers + in_system new = ap counted is in omega (arith, e)
    launch_keeps {old = old} (too_early early) f leavers new found is =
        let e : 0 + in_system old ≡ length leavers + in_system new = ap counted is in omega (arith, e)
    launch_keeps (no_id e used) f leavers new found is = cc
    launch_keeps {t = t} {old = old} (starts {m = m} {leavers = ls} {new = q} may id a) f leavers new found is =
        let same : length ls + in_system q ≡ length leavers + in_system new = ap counted is in
        let one : length (without_first (same_pair cmp m) old.waiting) + 1 ≡ length old.waiting =
        length-without f (same_pair cmp m) m old.waiting (sym found) (pair_itself cmp order m) in
        let kept : length ls + length q.sending ≡ length (launched cmp t old m).sending =
        accounts_keep t (launched cmp t old m) q ls a in
        let more : length (launched cmp t old m).sending ≡ length old.sending + 1
        = length-append old.sending (record {
          id = old.next_id;
          message = m;
          left = whole (length m.bytes);
          rate = Some (whole 0);
          updated = t;
        } ∷ []) in
        let waits : length q.waiting ≡ length (without_first (same_pair cmp m) old.waiting) =
        ap length (accounts_waiting t (launched cmp t old m) q ls a) in
        omega (arith, same, one, kept, more, waits)

-- ---- whether something is in flight

pub none_flies : {P : Type 0} (scale at : ℕ) (fs : List (Flight P)) → (length fs == 0) ≡ true
    → sending_of scale (flights_at at fs) ≡ []
none_flies scale at [] none = refl
none_flies scale at (f ∷ fs) none =
    let zero_long : length (f ∷ fs) ≡ 0 = eqb-true (length (f ∷ fs)) 0 none in absurd (omega arith)

pub some_fly : {P : Type 0} (scale at : ℕ) (fs : List (Flight P)) → (length fs == 0) ≡ false
    → sending_of scale (flights_at at fs) ≢ []
some_fly scale at [] some = cc (eq-eqb 0 0 refl)
some_fly scale at (f ∷ fs) some = λ none. cc
