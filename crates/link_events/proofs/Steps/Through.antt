-- A message that uses no capped side is done as it starts.
use Rattle.link_events.proofs.Common.{◌≡◌, ℕ, length, refl, ◌++◌, List, [], ◌∷◌, Bool, true, false, not, cond, sym, ap}
use Rattle.link_events.proofs.Common.{◌∙◌, subst, inl, inr, ◌==◌, filter, Ordering, IsTotalOrder, append-nil}
use Rattle.link_events.proofs.Common.{map-append, whole, Caps, Message, is_unlimited, Planned, RatedFlight}
use Rattle.link_events.proofs.Common.{rated_messages, drained_to, left_at, is_spent, Accounts, Launches, starts}
use Rattle.link_events.proofs.Common.{launched, goes, last_moment, any_like, find_passes, idle_if_may, Error, same_peer}
use Rattle.link_events.proofs.Common.{first_of, is_sending, may_launch_first, IfOk, Result, Ok, Err, ◌<◌, Leaves}
use Rattle.link_events.proofs.Common.{message_of, false≢true, UnitFlight, Flights, is_out, AreFairlyRated, HadFairRates}
use Rattle.link_events.proofs.Common.{gone_through, by_bool, without_first, with_link}
use Rattle.std.specs.Prelude.{◌||◌, ◌&&◌, Some, Option}
use Rattle.std.proofs.lemmas.List.Elements.{filter-append}
use Rattle.std.proofs.Math.Bool.{or-true}
use Rattle.link_pairs.specs.declared.message.Message as code
use Rattle.fairness.proofs.Lists.Members.{in_from_contains, in_either, contains_from_in}
use Rattle.link_flights.specs.Flights.Rated.{sent_messages}
use Rattle.link_flights.specs.Flights.RatedFlights.{rated_flight_of}
use Rattle.link_events.specs.Steps.Through.{FirstIsUnlimited, IsPassed}
use Rattle.link_simulation.proofs.Simulation.Continuing.{rates_exist}
use Rattle.std.proofs.Common.{OnOk, None}
use mathlib.Core.Path.{fun_ext}
use Rattle.std.specs.Prelude.{◌+◌}
use Rattle.link_waiting.proofs.Idle.Starting.{of_pair}

module _ {X : Type 0} (test : X → Bool) (xs : List X) (x : X) where
  with_last : test x ≡ true → filter test (xs ++ x ∷ []) ≡ filter test xs ++ x ∷ []
  with_last is = filter-append test xs (x ∷ []) ∙ ap (λ b. filter test xs ++ cond b (x ∷ []) []) is

  without_last : test x ≡ false → filter test (xs ++ x ∷ []) ≡ filter test xs
  without_last is =
      filter-append test xs (x ∷ []) ∙ ap (λ b. filter test xs ++ cond b (x ∷ []) []) is ∙ append-nil (filter test xs)

module _ {P : Type 0} (cmp : P → P → Ordering) (order : IsTotalOrder cmp) (t : ℕ) (p : Planned P) (o r : P)
    (may : may_launch_first cmp t p (first_of cmp p.waiting o r) ≡ true) where
  -- the pair of a message that may start is idle
  pub idle_first : (m : Message P) → first_of cmp p.waiting o r ≡ Some m → is_sending cmp p o r ≡ false
  idle_first m found =
      sym
      (any_like cmp order (record m { origin = o; recipient = r }) m (rated_messages p.sending)
      (find_passes (λ (n : Message P). same_peer cmp o n.origin && same_peer cmp r n.recipient) m p.waiting found))
      ∙ idle_if_may cmp order t p m (ap (may_launch_first cmp t p) (sym found) ∙ may)

  pub launched_through : {X : Type 0} (f : X → List (Message P)) (result : Result X Error) (new : Planned P)
      → p.next_id < last_moment
      → IfOk result
      (λ x. (m : Message P) × (first_of cmp p.waiting o r ≡ Some m) × Accounts cmp t (launched cmp t p m) (f x) new)
      → IfOk result (λ x. Launches cmp t p (first_of cmp p.waiting o r) (goes (f x) new))
  launched_through f (Ok x) new id h =
      subst (λ (first : Option (Message P)). Launches cmp t p first (goes (f x) new)) (sym h.1)
      (starts (ap (may_launch_first cmp t p) (sym h.1) ∙ may) id h.2)
  launched_through f (Err e) new id h = tt

-- what was told last of a pair counts
pub told_twice : {P : Type 0} (cmp : P → P → Ordering) (told : P → P → Option ℕ) (o r : P) (one other : Option ℕ)
    → with_link cmp (with_link cmp told o r one) o r other ≡ with_link cmp told o r other
told_twice cmp told o r one other = fun_ext (λ a. fun_ext (λ b. by_bool (same_peer cmp o a && same_peer cmp r b)
    (λ h. rw h refl) (λ h. rw h refl)))

module _ {P : Type 0} (cmp : P → P → Ordering) (order : IsTotalOrder cmp) (p : Planned P) (o r : P) (m : Message P)
    (found : first_of cmp p.waiting o r ≡ Some m) where
  -- the first message that waits for a pair is gone
  pub taken_is : record p {
    waiting = without_first (λ (n : Message P). same_peer cmp o n.origin && same_peer cmp r n.recipient) p.waiting;
    next_id = p.next_id + 1;
  }
      ≡ gone_through cmp p m
  taken_is i =
      let same : (same_peer cmp o m.origin && same_peer cmp r m.recipient) ≡ true =
      find_passes (λ (n : Message P). same_peer cmp o n.origin && same_peer cmp r n.recipient) m p.waiting found in
      record (gone_through cmp p m) { waiting = without_first (λ n. sym (of_pair cmp order o r m same n) i) p.waiting }

  -- and it is that which uses no capped side
  pub is_free : FirstIsUnlimited cmp p o r → is_unlimited cmp p.caps m ≡ true
  is_free h = subst (λ n. is_unlimited cmp p.caps n ≡ true) (the_one (sym h.first ∙ found)) h.unlimited
    where
      the_one : Some h.message ≡ Some m → h.message ≡ m
      the_one e = cc

module _ {P : Type 0} (cmp : P → P → Ordering) where
  drained_with : (t : ℕ) (fs : List (RatedFlight P)) (f : RatedFlight P)
      → drained_to t (fs ++ f ∷ []) ≡ drained_to t fs ++ record f { left = left_at t f; updated = t } ∷ []
  drained_with t [] f = refl
  drained_with t (g ∷ fs) f = ap (λ l. record g { left = left_at t g; updated = t } ∷ l) (drained_with t fs f)

  -- it leaves behind all others, and nothing else stays
  pub leaves_through : (t : ℕ) (p q : Planned P) (m : Message P) (ls : List (Message P))
      → is_unlimited cmp p.caps m ≡ true → Leaves cmp t (gone_through cmp p m) ls q
      → Leaves cmp t (launched cmp t p m) (ls ++ m ∷ []) q
  leaves_through t p q m ls free lv =
      let f : RatedFlight P =
      record { id = p.next_id; message = m; left = whole (length m.bytes); rate = Some (whole 0); updated = t } in
      let g : RatedFlight P = record f { left = left_at t f; updated = t } in
      let fs : List (RatedFlight P) = drained_to t p.sending in
      let spent : is_spent cmp p.caps g ≡ true = ap (λ b. (g.left.num == 0) || b) free ∙ or-true (g.left.num == 0) in
      let left = ap (filter (is_spent cmp p.caps)) (drained_with t p.sending f) ∙ with_last (is_spent cmp p.caps) fs g spent in
      let stay =
      ap (filter (λ h. not (is_spent cmp p.caps h))) (drained_with t p.sending f)
      ∙ without_last (λ h. not (is_spent cmp p.caps h)) fs g (ap not spent) in
      record {
        left =
            ap (λ l. l ++ m ∷ []) lv.left
            ∙ sym (ap rated_messages left ∙ map-append (λ (h : RatedFlight P). h.message) (filter (is_spent cmp p.caps) fs) (g ∷ []));
        is = lv.is ∙ ap (λ l. record (launched cmp t p m) { sending = l; accounted = t }) (sym stay);
      }

  -- the others had fair rates with it, too
  pub had_through : {a : _} {b : _} {c : _} (caps : Caps P) (flights : Flights P a b c) (done : List (Message P))
      (m : code.Message P) → is_unlimited cmp caps (message_of m) ≡ true
      → HadFairRates cmp caps flights done → HadFairRates cmp caps flights (done ++ message_of m ∷ [])
  had_through caps flights done m free h =
      let u : UnitFlight P = record { id = 0; message = m; left = 0; rate = 0; updated = 0; rated = false } in
      let out : UnitFlight P → Bool = is_out cmp caps flights.scale in
      let goes : out u ≡ true =
      ap (λ b. ((rated_flight_of flights.scale u).left.num == 0) || b) free
      ∙ or-true ((rated_flight_of flights.scale u).left.num == 0) in
      record {
        before = h.before ++ u ∷ [];
        parted = record {
          left =
              ap (λ l. l ++ message_of m ∷ []) h.parted.left
              ∙ sym
              (ap sent_messages (with_last out h.before u goes)
              ∙ map-append (λ (v : UnitFlight P). message_of v.message) (filter out h.before) (u ∷ []));
          stay = h.parted.stay ∙ sym (without_last (λ v. not (out v)) h.before u (ap not goes));
        };
        was = h.was;
        of_peers = h.of_peers;
        fair =
            subst (AreFairlyRated cmp h.was flights.scale) (sym (without_last (λ v. v.rated) h.before u refl)) h.fair;
        differ = h.differ;
        no_less = λ v has leaves rated.
            elim (in_either h.before (u ∷ []) v (in_from_contains (h.before ++ u ∷ []) v has)) [
              | inl among ↦ h.no_less v (contains_from_in h.before v among) leaves rated
              | inr among ↦ elim among [
                | inl is ↦ absurd (false≢true (ap (λ (w : UnitFlight P). w.rated) is ∙ rated))
                | inr none ↦ absurd none
              ]
            ];
        timed = h.timed;
      }

-- where nothing stays in flight, no finish is planned
accounts_none : {P : Type 0} (cmp : P → P → Ordering) → IsTotalOrder cmp → (t : ℕ) (old q : Planned P) (ls : List (Message P))
    → Leaves cmp t old ls q → q.sending ≡ [] → Accounts cmp t old ls (record q { finish = None })
accounts_none {P} cmp order t old q ls lv none =
    let fair = rates_exist cmp order old.caps [] in
    let stay = ap (λ (w : Planned P). w.sending) lv.is in
    record {
      per = fair.0;
      rates = [];
      left = lv.left;
      stayed = rw (← stay) (rw none tt);
      fair = rw none (record { parts = fair.2.parts; fair = fair.2.fair; rated = refl });
      rated = rw none tt;
      finish = λ s last some. let there = rw none at some.2 in cc;
      same = ap (λ (w : Planned P). record w { finish = None }) lv.is
          ∙ ap (λ (w : Planned P). record old { sending = w.sending; accounted = t; finish = None }) (sym lv.is);
    }

module _ {P : Type 0} (cmp : P → P → Ordering) (order : IsTotalOrder cmp) (t : ℕ) (p : Planned P) (o r : P) (m : Message P)
    (found : first_of cmp p.waiting o r ≡ Some m) (free : is_unlimited cmp p.caps m ≡ true) where
  -- where nothing is in flight, it alone is done at the account
  alone : (q : Planned P) → IsPassed t (gone_through cmp p m) q → Accounts cmp t (launched cmp t p m) (m ∷ []) q
  alone q h =
      let at : Planned P = record (gone_through cmp p m) { accounted = t } in
      let leaves : Leaves cmp t (gone_through cmp p m) [] at =
      record {
        left = sym (ap (λ fs. rated_messages (filter (is_spent cmp p.caps) (drained_to t fs))) h.none);
        is = ap (λ fs. record (gone_through cmp p m) { sending = fs; accounted = t })
            (h.none ∙ sym (ap (λ fs. filter (λ f. not (is_spent cmp p.caps f)) (drained_to t fs)) h.none));
      } in
      subst (Accounts cmp t (launched cmp t p m) (m ∷ [])) (sym h.same)
      (accounts_none cmp order t (launched cmp t p m) at (m ∷ []) (leaves_through cmp t p at m [] free leaves) h.none)

  pub through_alone : {X : Type 0} (f : X → List (Message P)) (result : Result X Error) (new : Planned P)
      → IfOk result (λ x. f x ≡ m ∷ []) → OnOk result (IsPassed t (gone_through cmp p m) new)
      → IfOk result
      (λ x. (n : Message P) × (first_of cmp p.waiting o r ≡ Some n) × Accounts cmp t (launched cmp t p n) (f x) new)
  through_alone f (Ok x) new is h =
      (m, found, subst (λ ls. Accounts cmp t (launched cmp t p m) ls new) (sym is) (alone new h))
  through_alone f (Err e) new is h = tt
