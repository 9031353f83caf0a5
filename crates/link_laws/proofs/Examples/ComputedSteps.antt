-- The steps of the event rule, found by computing: accounts, looks, launches, finishes and wakes.
use Rattle.link_simulation.proofs.Common.{◌-◌, ◌≡◌, ℕ, zero, suc, ◌+◌, ◌<◌, ◌≤◌, List, [], ◌∷◌, ◌++◌, Bool, true, false}
use Rattle.link_simulation.proofs.Common.{cond, not, Option, Some, None, refl, sym, ap, subst, arith, ◌∙◌, inl, inr}
use Rattle.link_simulation.proofs.Common.{◌⊎◌, ◌&&◌, ◌||◌, ◌==◌, nat_le, nat_lt, if◌then◌else◌, slice_get, IfSome, find}
use Rattle.link_simulation.proofs.Common.{list_any, filter, AllZip, Ordering, IsTotalOrder, leb-true, le-leb, ltb-true}
use Rattle.link_simulation.proofs.Common.{eqb-true, cases_lt, and_parts, MomentTooLate, FlowIdsUsedUp, Amount, Message}
use Rattle.link_simulation.proofs.Common.{Caps, same_pair, capped_sides, rates_from, rate_of, is_unlimited, Completed}
use Rattle.link_simulation.proofs.Common.{Course, goes, meets, last_moment, preceded, fronts, is_late, completed}
use Rattle.link_simulation.proofs.Common.{Planned, RatedFlight, IsLeastMoment, rated_messages, left_at, SomeSpentAt}
use Rattle.link_simulation.proofs.Common.{drained_to, next_of, may_launch, SomeReadyAt, is_spent, Accounts, PlansStart}
use Rattle.link_simulation.proofs.Common.{launched, Launches, nothing_waits, too_early, no_id, starts, landed, Finishes}
use Rattle.link_simulation.proofs.Common.{all_completed, late, stopped, completes, WakesEach, all_started, no_start}
use Rattle.link_simulation.proofs.Common.{no_finish, starts_one, Settles, settling, In, Each, by_bool}
use Rattle.std.specs.List.{list_all}
use Rattle.std.proofs.lemmas.Bool.{ltb-false}
use Rattle.std.proofs.lemmas.Option.{same_Some}
use Rattle.std.proofs.Math.Bool.{or-true}
use Rattle.link_simulation.proofs.Simulation.OtherPairs.{fronts_are_first}
use Rattle.link_simulation.proofs.Laws.MostEvents.{first_in_fronts}
use Rattle.link_simulation.proofs.Simulation.LowestTerms.{spent_later}
use Rattle.link_laws.proofs.Examples.ComputedReplies.{Shares, is_fair, fair_if_so}

-- ---- options

pub the_same : {X : Type 0} {x y : X} → Some x ≡ Some y → x ≡ y
the_same {x = x} {y = y} e = same_Some x y e

abbrev pub bind : {X Y : Type 0} → Option X → (X → Option Y) → Option Y
bind None next = None
bind (Some x) next = next x

pub bound : {X Y : Type 0} (o : Option X) (next : X → Option Y) (y : Y) → bind o next ≡ Some y
    → (x : X) × (o ≡ Some x) × (next x ≡ Some y)
bound None next y e = cc
bound (Some x) next y e = (x, refl, e)

-- only where it is so
abbrev pub given : {X : Type 0} → Bool → Option X → Option X
given false o = None
given true o = o

given_so : {X : Type 0} (b : Bool) (o : Option X) (x : X) → given b o ≡ Some x → (b ≡ true) × (o ≡ Some x)
given_so false o x e = cc
given_so true o x e = (refl, e)

-- what follows a course, unless it met a fault
abbrev pub followed : {X Y S T : Type 0} → Course X S → (List X → S → Option (Course Y T)) → Option (Course Y T)
followed (goes xs s) next = next xs s
followed (meets fault) next = Some (meets fault)

abbrev pub is_none_of : {X : Type 0} → List X → Bool
is_none_of [] = true
is_none_of (x ∷ xs) = false

-- ---- least moments

-- the first of so many moments, up to the last one, at which the test holds
abbrev pub seek : (ℕ → Bool) → ℕ → ℕ → Option (Option ℕ)
seek test zero from = None
seek test (suc n) from =
    cond (nat_lt last_moment from) (Some None) (cond (test from) (Some (Some from)) (seek test n (from + 1)))

-- none where it never holds
abbrev pub sought : Bool → (ℕ → Bool) → ℕ → ℕ → Option (Option ℕ)
sought true test n from = Some None
sought false test n from = seek test n from

module _ (Q : ℕ → Type 0) (test : ℕ → Bool) (yes : (t : ℕ) → test t ≡ true → Q t)
    (no : (t : ℕ) → Q t → test t ≡ true) where
  seek_so : (n from : ℕ) (o : Option ℕ) → ((s : ℕ) → Q s → from ≤ s) → seek test n from ≡ Some o → IsLeastMoment Q o
  seek_so zero from o least e = cc
  seek_so (suc n) from o least e = grind (arith, (seek_so n))

  sought_so : (never : Bool) (n from : ℕ) (o : Option ℕ) → (never ≡ true → (s : ℕ) → Q s → ⊥)
      → ((s : ℕ) → Q s → from ≤ s) → sought never test n from ≡ Some o → IsLeastMoment Q o
  sought_so true n from o none least e =
      let same : None ≡ o = the_same e in subst (IsLeastMoment Q) same (λ t le q. none refl t q)
  sought_so false n from o none least e = seek_so n from o least e

module _ {P : Type 0} (cmp : P → P → Ordering) (order : IsTotalOrder cmp) (plan : Caps P → List (Message P) → Shares)
    (hint : ℕ → List (Message P) → ℕ) (n : ℕ) where
  -- ---- accounts

  abbrev pub is_spent_at : ℕ → RatedFlight P → Bool
  is_spent_at s f = nat_le f.updated s && ((left_at s f).num == 0)

  abbrev pub is_positive : RatedFlight P → Bool
  is_positive f = nat_lt 0 f.left.den && elim f.rate [ None ↦ true | Some r ↦ nat_lt 0 r.den ]

  -- nothing is spent from t on before that moment
  abbrev pub may_skip : ℕ → ℕ → List (RatedFlight P) → Bool
  may_skip t from sending =
      (from == t) || (list_all is_positive sending && not (list_any (is_spent_at (from - 1)) sending))

  abbrev pub finish_from : ℕ → List (RatedFlight P) → Option (Option ℕ)
  finish_from t sending =
      given (may_skip t (hint t (rated_messages sending)) sending)
      (sought (is_none_of sending) (λ s. list_any (is_spent_at s) sending) n (hint t (rated_messages sending)))

  -- what is in flight, from t on at the shares of their places
  abbrev pub rated_flight : Caps P → Shares → ℕ → ℕ → List (RatedFlight P) → List (RatedFlight P)
  rated_flight caps shares t place [] = []
  rated_flight caps shares t place (f ∷ fs) =
      record {
        id = f.id;
        message = f.message;
        left = f.left;
        rate = rate_of shares.per (if is_unlimited cmp caps f.message then None else Some (shares.parts place));
        updated = t;
      } ∷ rated_flight caps shares t (place + 1) fs

  abbrev pub staying : ℕ → Planned P → List (RatedFlight P)
  staying t p = filter (λ f. not (is_spent cmp p.caps f)) (drained_to t p.sending)

  abbrev pub leavers_of : ℕ → Planned P → List (Message P)
  leavers_of t p = rated_messages (filter (is_spent cmp p.caps) (drained_to t p.sending))

  abbrev pub shares_of : ℕ → Planned P → Shares
  shares_of t p = plan p.caps (rated_messages (staying t p))

  abbrev pub rated_at : ℕ → Planned P → List (RatedFlight P)
  rated_at t p = rated_flight p.caps (shares_of t p) t 0 (staying t p)

  abbrev pub account : ℕ → Planned P → Option (Planned P)
  account t p =
      given (is_fair (shares_of t p).per (shares_of t p).parts
      (capped_sides cmp p.caps (rated_messages (rated_at t p))))
      (bind (finish_from t (rated_at t p)) (λ o. Some (record p { sending = rated_at t p; accounted = t; finish = o })))

  spent_if_so : (s : ℕ) (fs : List (RatedFlight P)) → list_any (is_spent_at s) fs ≡ true → SomeSpentAt fs s
  spent_if_so s [] e = cc
  spent_if_so s (f ∷ fs) e =
      by_bool (is_spent_at s f) (λ is.
      let two = and_parts (nat_le f.updated s) ((left_at s f).num == 0) is in
      (0, f, refl, leb-true f.updated s two.0, eqb-true (left_at s f).num 0 two.1))
      (λ is. let rest : SomeSpentAt fs s = (spent_if_so s fs) (rw is at e)
      in (suc rest.0, rest.1, rest.2, rest.3, rest.4))

  so_if_spent : (s : ℕ) (fs : List (RatedFlight P)) (i : ℕ) (f : RatedFlight P) → slice_get fs i ≡ Some f
      → f.updated ≤ s → (left_at s f).num ≡ 0 → list_any (is_spent_at s) fs ≡ true
  so_if_spent s [] i f at le none = cc
  so_if_spent s (g ∷ gs) zero f at le none = grind arith
  so_if_spent s (g ∷ gs) (suc i) f at le none =
      ap (λ (b : Bool). is_spent_at s g || b) (so_if_spent s gs i f at le none) ∙ or-true (is_spent_at s g)

  updated_at : (caps : Caps P) (shares : Shares) (t place : ℕ) (fs : List (RatedFlight P)) (i : ℕ) (f : RatedFlight P)
      → slice_get (rated_flight caps shares t place fs) i ≡ Some f → f.updated ≡ t
  updated_at caps shares t place [] i f at = cc
  updated_at caps shares t place (g ∷ gs) zero f at = sym (ap (λ (x : RatedFlight P). x.updated) (the_same at))
  updated_at caps shares t place (g ∷ gs) (suc i) f at = updated_at caps shares t (place + 1) gs i f at

  positive_rate : (o : Option Amount) → elim o [ None ↦ true | Some r ↦ nat_lt 0 r.den ] ≡ true
      → IfSome o (λ r. 0 < r.den)
  positive_rate None e = tt
  positive_rate (Some r) e = ltb-true 0 r.den e

  positive_at : (fs : List (RatedFlight P)) (i : ℕ) (f : RatedFlight P) → list_all is_positive fs ≡ true
      → slice_get fs i ≡ Some f → (0 < f.left.den) × IfSome f.rate (λ r. 0 < r.den)
  positive_at [] i f e at = cc
  positive_at (g ∷ gs) i f e at =
      let two = and_parts (is_positive g) (list_all is_positive gs) e in
      by_place i at two.0 (λ j h. positive_at gs j f two.1 h)
    where
      by_place : (i : ℕ) → slice_get (g ∷ gs) i ≡ Some f → is_positive g ≡ true
          → ((j : ℕ) → slice_get gs j ≡ Some f → (0 < f.left.den) × IfSome f.rate (λ r. 0 < r.den))
          → (0 < f.left.den) × IfSome f.rate (λ r. 0 < r.den)
      by_place zero at here rest = grind (arith, the_same, and_parts, ltb-true, positive_rate)
      by_place (suc j) at here rest = rest j at

  skip_so : (t from : ℕ) (sending : List (RatedFlight P)) → may_skip t from sending ≡ true → (s : ℕ)
      → SomeSpentAt sending s → t ≤ s → from ≤ s
  skip_so t from sending e s some le = by_test (from == t) refl e
    where
      spent_before : s < from → list_all is_positive sending ≡ true → list_any (is_spent_at (from - 1)) sending ≡ true
      spent_before lt all =
          let positive = positive_at sending some.0 some.1 all some.2 in
          let updated : some.1.updated ≤ s = some.3 in
          let on = spent_later some.1.rate _ _ some.1.left positive.1 positive.0 (omega arith) some.4 in
          so_if_spent (from - 1) sending some.0 some.1 some.2 (omega arith) on

      not_both : (b : Bool) → b ≡ true → not b ≡ true → ⊥
      not_both true is e = cc
      not_both false is e = cc

      by_order : s < from ⊎ from ≤ s → list_all is_positive sending ≡ true
          → not (list_any (is_spent_at (from - 1)) sending) ≡ true → from ≤ s
      by_order (inl lt) all none =
          absurd (not_both (list_any (is_spent_at (from - 1)) sending) (spent_before lt all) none)
      by_order (inr ge) all none = ge

      by_test : (b : Bool) → (from == t) ≡ b
          → (b || (list_all is_positive sending && not (list_any (is_spent_at (from - 1)) sending))) ≡ true → from ≤ s
      by_test true is e = let same : from ≡ t = eqb-true from t is in omega arith
      by_test false is e =
          let two = and_parts (list_all is_positive sending) (not (list_any (is_spent_at (from - 1)) sending)) e in
          by_order (cases_lt s from) two.0 two.1

  no_flight : (fs : List (RatedFlight P)) (s : ℕ) → is_none_of fs ≡ true → SomeSpentAt fs s → ⊥
  no_flight [] s e some = cc
  no_flight (f ∷ fs) s e some = cc

  stayed_so : (caps : Caps P) (shares : Shares) (t place : ℕ) (fs : List (RatedFlight P))
      → AllZip (λ f g. (g.id ≡ f.id) × (g.message ≡ f.message) × (g.left ≡ f.left) × (g.updated ≡ t)) fs
      (rated_flight caps shares t place fs)
  stayed_so caps shares t place [] = tt
  stayed_so caps shares t place (f ∷ fs) = ((refl, refl, refl, refl), stayed_so caps shares t (place + 1) fs)

  rated_so : (caps : Caps P) (shares : Shares) (t place : ℕ) (fs : List (RatedFlight P))
      → AllZip (λ rate f. f.rate ≡ rate_of shares.per rate)
      (rates_from cmp caps shares.parts place (rated_messages (rated_flight caps shares t place fs)))
      (rated_flight caps shares t place fs)
  rated_so caps shares t place [] = tt
  rated_so caps shares t place (f ∷ fs) = (refl, rated_so caps shares t (place + 1) fs)

  account_so : (t : ℕ) (p q : Planned P) → account t p ≡ Some q → Accounts cmp t p (leavers_of t p) q
  account_so t p q e =
      let sending : List (RatedFlight P) = rated_at t p in
      let shares : Shares = shares_of t p in
      let two : (is_fair shares.per shares.parts (capped_sides cmp p.caps (rated_messages sending)) ≡ true)
      × (bind (finish_from t sending) (λ o. Some (record p { sending = sending; accounted = t; finish = o })) ≡ Some q)
      = grind (arith, given_so) in
      let found = bound (finish_from t sending) (λ o. Some (record p {
        sending = sending;
        accounted = t;
        finish = o;
      })) q two.1 in
      let from : ℕ = hint t (rated_messages sending) in
      let skip = given_so _ _ found.0 found.1 in
      let starts_at : (s : ℕ) → SomeSpentAt sending s → t ≤ s = grind (arith, updated_at) in
      let same : record p { sending = sending; accounted = t; finish = found.0 } ≡ q = the_same found.2 in
      subst (Accounts cmp t p (leavers_of t p)) same record {
        per = shares.per;
        rates = rates_from cmp p.caps shares.parts 0 (rated_messages sending);
        left = refl;
        stayed = stayed_so p.caps shares t 0 (staying t p);
        fair = grind (arith, fair_if_so);
        rated = rated_so p.caps shares t 0 (staying t p);
        finish =
            sought_so _ (λ s. list_any _ sending) (λ s h. spent_if_so s sending h)
            (λ s h. so_if_spent s sending h.0 h.1 h.2 h.3 h.4) _ n from found.0 (λ h s some. no_flight sending s h some)
            (λ s some. skip_so t from sending skip.0 s some (starts_at s some)) skip.1;
        same = refl;
      }

  -- ---- looks

  abbrev pub is_ready_at : ℕ → Planned P → ℕ → Bool
  is_ready_at t p s = nat_le t s && list_any (may_launch cmp s p) (fronts cmp p.waiting)

  -- each pair that waits has a message in flight
  abbrev pub all_busy : Planned P → Bool
  all_busy p = list_all (λ m. list_any (same_pair cmp m) (rated_messages p.sending)) p.waiting

  abbrev pub look : ℕ → Planned P → Option (Planned P)
  look t p = bind (sought (all_busy p) (is_ready_at t p) n t) (λ o. Some (record p { start = o }))

  ready_if_so : (t : ℕ) (p : Planned P) (s : ℕ) → is_ready_at t p s ≡ true → (t ≤ s) × SomeReadyAt cmp p s
  ready_if_so t p s e =
      let two = and_parts (nat_le t s) (list_any (may_launch cmp s p) (fronts cmp p.waiting)) e in
      (leb-true t s two.0, found_in (fronts cmp p.waiting) (fronts_are_first cmp order p.waiting) two.1)
    where
      found_in : (ms : List (Message P)) → Each (λ m. find (same_pair cmp m) p.waiting ≡ Some m) ms
          → list_any (may_launch cmp s p) ms ≡ true → SomeReadyAt cmp p s
      found_in [] all e = cc
      found_in (m ∷ ms) all e =
          by_bool (may_launch cmp s p m) (λ is. (m, all.0, is)) (λ is. (found_in ms all.1) (rw is at e))

  so_if_ready : (t : ℕ) (p : Planned P) (s : ℕ) → (t ≤ s) × SomeReadyAt cmp p s → is_ready_at t p s ≡ true
  so_if_ready t p s h =
      ap (λ (b : Bool). b && list_any (may_launch cmp s p) (fronts cmp p.waiting)) (le-leb t s h.0)
      ∙ among (fronts cmp p.waiting) (first_in_fronts cmp order h.1.0 p.waiting h.1.1)
    where
      among : (ms : List (Message P)) → In ms h.1.0 → list_any (may_launch cmp s p) ms ≡ true
      among [] has = absurd has
      among (m ∷ ms) (inl same) = grind arith
      among (m ∷ ms) (inr has) = grind (arith, or-true, (among ms has))

  found_all : (test kind : Message P → Bool) (ws : List (Message P)) (m : Message P) → find test ws ≡ Some m
      → list_all kind ws ≡ true → kind m ≡ true
  found_all test kind [] m e all = cc
  found_all test kind (w ∷ ws) m e all = grind (arith, (found_all test kind ws m))

  never_ready : (p : Planned P) (s : ℕ) → all_busy p ≡ true → SomeReadyAt cmp p s → ⊥
  never_ready p s e some = grind (arith, found_all, and_parts)

  pub look_so : (t : ℕ) (p q : Planned P) → look t p ≡ Some q → PlansStart cmp t p q
  look_so t p q e =
      let found = bound (sought (all_busy p) (is_ready_at t p) n t) (λ o. Some (record p { start = o })) q e in
      let same : record p { start = found.0 } ≡ q = the_same found.2 in
      subst (PlansStart cmp t p) same record {
        start =
            sought_so (λ s. (t ≤ s) × SomeReadyAt cmp p s) (is_ready_at t p) (ready_if_so t p) (so_if_ready t p)
            (all_busy p) n t found.0 (λ h s some. never_ready p s h some.1) (λ s some. some.0) found.1;
        same = refl;
      }

  -- ---- launches, finishes and wakes

  abbrev pub launch : ℕ → Planned P → Option (Message P) → Option (Course (Message P) (Planned P))
  launch t p None = Some (goes [] p)
  launch t p (Some m) =
      cond (may_launch cmp t p m) (cond (nat_lt p.next_id last_moment)
      (bind (account t (launched cmp t p m)) (λ q. Some (goes (leavers_of t (launched cmp t p m)) q)))
      (Some (meets FlowIdsUsedUp))) (Some (goes [] p))

  pub launch_so : (t : ℕ) (p : Planned P) (o : Option (Message P)) (c : Course (Message P) (Planned P))
      → launch t p o ≡ Some c → Launches cmp t p o c
  launch_so t p None c e = subst (Launches cmp t p None) (the_same e) nothing_waits
  launch_so t p (Some m) c e = by_test (may_launch cmp t p m) (nat_lt p.next_id last_moment) refl refl e
    where
      by_test : (b d : Bool) → may_launch cmp t p m ≡ b → nat_lt p.next_id last_moment ≡ d → cond b
          (cond d (bind (account t (launched cmp t p m)) (λ q. Some (goes (leavers_of t (launched cmp t p m)) q)))
          (Some (meets FlowIdsUsedUp))) (Some (goes [] p)) ≡ Some c → Launches cmp t p (Some m) c
      by_test true true may below e =
          let found = bound (account t (launched cmp t p m)) (λ q. Some (goes (leavers_of t (launched cmp t p m)) q)) c
          e in
          subst (Launches cmp t p (Some m)) (the_same found.2)
          (starts may (ltb-true p.next_id last_moment below) (account_so t (launched cmp t p m) found.0 found.1))
      by_test true false may below e =
          subst (Launches cmp t p (Some m)) (the_same e) (no_id may (ltb-false p.next_id last_moment below))
      by_test false d may below e = subst (Launches cmp t p (Some m)) (the_same e) (too_early may)

  -- the finishes of a queue, at most so many
  abbrev pub finish_all : ℕ → ℕ → List (Message P) → Planned P → Option (Course (Completed P) (Planned P))
  finish_all t zero ms p = None
  finish_all t (suc k) [] p = bind (look t p) (λ q. Some (goes [] q))
  finish_all t (suc k) (m ∷ ms) p = cond (is_late cmp t m) (Some (meets MomentTooLate))
      (bind (launch t (landed cmp t p m) (next_of cmp p m)) (λ c. followed c
      (λ more q. bind (finish_all t k (ms ++ more) q) (λ rest. Some (preceded (completed cmp t m ∷ []) rest)))))

  abbrev AreFinishes : ℕ → ℕ → Type 0
  AreFinishes t k = (ms : List (Message P)) (q : Planned P) (c : Course (Completed P) (Planned P))
      → finish_all t k ms q ≡ Some c → Finishes cmp t ms q c

  pub finish_all_so : (t k : ℕ) (ms : List (Message P)) (p : Planned P) (c : Course (Completed P) (Planned P))
      → finish_all t k ms p ≡ Some c → Finishes cmp t ms p c
  finish_all_so t zero ms p c e = cc
  finish_all_so t (suc k) [] p c e =
      let found : (q : Planned P) × (look t p ≡ Some q) × (Some (goes [] q) ≡ Some c) = grind (arith, bound) in
      subst (Finishes cmp t [] p) (the_same found.2) (all_completed (look_so t p found.0 found.1))
  finish_all_so t (suc k) (m ∷ ms) p c e =
      by_bool (is_late cmp t m) (λ is. subst (Finishes cmp t (m ∷ ms) p) (the_same (rw is at e)) (late is)) (λ is.
      let found = bound (launch t (landed cmp t p m) (next_of cmp p m)) (λ l. followed l
      (λ more q. bind (finish_all t k (ms ++ more) q) (λ rest. Some (preceded (completed cmp t m ∷ []) rest)))) c
      (rw is at e)
      in
      by_launch found.0 is (launch_so t _ _ found.0 found.1) found.2 (finish_all_so t k))
    where
      by_launch : (l : Course (Message P) (Planned P)) → is_late cmp t m ≡ false
          → Launches cmp t (landed cmp t p m) (next_of cmp p m) l
          → followed l (λ more q. bind (finish_all t k (ms ++ more) q)
          (λ rest. Some (preceded (completed cmp t m ∷ []) rest))) ≡ Some c → AreFinishes t k
          → Finishes cmp t (m ∷ ms) p c
      by_launch (meets fault) is l e ih = subst (Finishes cmp t (m ∷ ms) p) (the_same e) (stopped is l)
      by_launch (goes more q) is l e ih = grind (arith, bound, the_same, completes)

  -- those pairs start
  abbrev pub wake_each : ℕ → List (Message P) → Planned P → Option (Course (Completed P) (Planned P))
  wake_each t [] p = bind (look t p) (λ q. Some (goes [] q))
  wake_each t (m ∷ ms) p =
      bind (launch t p (next_of cmp p m)) (λ c. followed c (λ more q. bind (finish_all t n more q)
      (λ d. followed d (λ cs r. bind (wake_each t ms r) (λ rest. Some (preceded cs rest))))))

  abbrev AreWakes : ℕ → List (Message P) → Type 0
  AreWakes t ms =
      (q : Planned P) (c : Course (Completed P) (Planned P)) → wake_each t ms q ≡ Some c → WakesEach cmp t ms q c

  pub wake_each_so : (t : ℕ) (ms : List (Message P)) (p : Planned P) (c : Course (Completed P) (Planned P))
      → wake_each t ms p ≡ Some c → WakesEach cmp t ms p c
  wake_each_so t [] p c e =
      let found : (q : Planned P) × (look t p ≡ Some q) × (Some (goes [] q) ≡ Some c) = grind (arith, bound) in
      subst (WakesEach cmp t [] p) (the_same found.2) (all_started (look_so t p found.0 found.1))
  wake_each_so t (m ∷ ms) p c e =
      let found = bound (launch t p (next_of cmp p m)) (λ l. followed l (λ more q. bind (finish_all t n more q)
      (λ d. followed d (λ cs r. bind (wake_each t ms r) (λ rest. Some (preceded cs rest)))))) c e in
      by_launch found.0 (launch_so t p (next_of cmp p m) found.0 found.1) found.2 (wake_each_so t ms)
    where
      by_finish : (more : List (Message P)) (q : Planned P) (d : Course (Completed P) (Planned P))
          → Launches cmp t p (next_of cmp p m) (goes more q) → Finishes cmp t more q d
          → followed d (λ cs r. bind (wake_each t ms r) (λ rest. Some (preceded cs rest))) ≡ Some c → AreWakes t ms
          → WakesEach cmp t (m ∷ ms) p c
      by_finish more q (meets fault) l f e ih = subst (WakesEach cmp t (m ∷ ms) p) (the_same e) (no_finish l f)
      by_finish more q (goes cs r) l f e ih =
          let found = bound (wake_each t ms r) (λ rest. Some (preceded cs rest)) c e in
          subst (WakesEach cmp t (m ∷ ms) p) (the_same found.2) (starts_one l f (ih r found.0 found.1))

      by_launch : (l : Course (Message P) (Planned P)) → Launches cmp t p (next_of cmp p m) l → followed l
          (λ more q. bind (finish_all t n more q)
          (λ d. followed d (λ cs r. bind (wake_each t ms r) (λ rest. Some (preceded cs rest))))) ≡ Some c
          → AreWakes t ms → WakesEach cmp t (m ∷ ms) p c
      by_launch (meets fault) l e ih = subst (WakesEach cmp t (m ∷ ms) p) (the_same e) (no_start l)
      by_launch (goes more q) l e ih =
          let found = bound _ (λ d. followed d (λ cs r. bind _ (λ rest. Some _))) c e in
          by_finish more q found.0 l (finish_all_so t n more q found.0 found.1) found.2 ih

  abbrev pub wake_at : ℕ → Planned P → Option (Course (Completed P) (Planned P))
  wake_at t p = wake_each t (filter (may_launch cmp t p) (fronts cmp p.waiting)) p

  abbrev pub settle_at : ℕ → Planned P → Option (Course (Completed P) (Planned P))
  settle_at t p = bind (account t p) (λ q. finish_all t n (leavers_of t p) q)

  pub settle_at_so : (t : ℕ) (p : Planned P) (c : Course (Completed P) (Planned P)) → settle_at t p ≡ Some c
      → Settles cmp t p c
  settle_at_so t p c e =
      let found = bound (account t p) (λ q. finish_all t n (leavers_of t p) q) c e in
      settling (account_so t p found.0 found.1) (finish_all_so t n (leavers_of t p) found.0 c found.2)
