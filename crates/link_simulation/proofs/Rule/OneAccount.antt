-- Where an account was made at a moment, nothing is due to leave at it; and for several messages that start then one
-- account is enough.
use Rattle.link_simulation.proofs.Common.{common_steps, ◌≡◌, ℕ, zero, suc, ◌+◌, ◌-◌, ◌<◌, ◌≤◌, List, [], ◌∷◌, ◌++◌}
use Rattle.link_simulation.proofs.Common.{length, Bool, true, false, not, Option, Some, None, refl, sym, ap, ◌∙◌, subst}
use Rattle.link_simulation.proofs.Common.{arith, ◌⊎◌, inl, inr, ◌==◌, ◌&&◌, slice_get, if◌then◌else◌, IfSome, filter}
use Rattle.link_simulation.proofs.Common.{find, list_any, AllZip, Ordering, IsTotalOrder, cases_lt, or_parts}
use Rattle.link_simulation.proofs.Common.{map-append, filter-append, Each, each_map, zip-append, zip_chain, Amount}
use Rattle.link_simulation.proofs.Common.{whole, reduced, reduced_positive, Message, Caps, same_pair, Parts, rate_of}
use Rattle.link_simulation.proofs.Common.{rates_from, is_unlimited, AreFair, IsLowest, Completed, Course, goes}
use Rattle.link_simulation.proofs.Common.{last_moment, EndsWith, completed, is_in_order, Planned, RatedFlight}
use Rattle.link_simulation.proofs.Common.{IsLeastMoment, SomeSpentAt, rated_messages, drained_to, left_at, is_spent}
use Rattle.link_simulation.proofs.Common.{may_launch, next_of, SomeReadyAt, Accounts, PlansStart, launched, Launches}
use Rattle.link_simulation.proofs.Common.{nothing_waits, too_early, no_id, starts, Finishes, all_completed, late}
use Rattle.link_simulation.proofs.Common.{stopped, completes, with_queued, Enqueues, at_once, no_launch, launches}
use Rattle.link_simulation.proofs.Common.{completed_at_once, landed, rules}
use Rattle.std.proofs.lemmas.Bool.{cases_eq}
use Rattle.std.proofs.lemmas.Option.{none-some}
use Rattle.link_simulation.proofs.Laws.Orderly.{drained_messages, stayed_messages}
use Rattle.link_simulation.proofs.Rule.Accounts.{each_passes}
use Rattle.link_simulation.proofs.Rule.BeforeNext.{filter_none}
use Rattle.link_simulation.proofs.Rule.SameSteps.{least_same}
use Rattle.link_simulation.proofs.Simulation.InOrder.{each_in_filter}
use Rattle.link_simulation.proofs.Simulation.Continuing.{rates_exist}
use Rattle.link_simulation.proofs.Simulation.LowestTerms.{drained_none, drained_by_lowest, whole_lowest}
use Rattle.link_simulation.proofs.Simulation.SettlingEnds.{ends_preceded, goes_no_fault}

-- ---- lists

-- what follows for the second of two lists from what goes beside it
pub zip_each : {X Y : Type 0} (R : X → Y → Type 0) (Q : X → Type 0) (T : Y → Type 0)
    → ((x : X) (y : Y) → R x y → Q x → T y) → (xs : List X) (ys : List Y) → AllZip R xs ys → Each Q xs → Each T ys
zip_each R Q T f [] [] all each = tt
zip_each R Q T f [] (y ∷ ys) all each = absurd all
zip_each R Q T f (x ∷ xs) [] all each = absurd all
zip_each R Q T f (x ∷ xs) (y ∷ ys) all each = (f x y all.0 each.0, zip_each R Q T f xs ys all.1 each.1)

filter_all : {X : Type 0} (test : X → Bool) (xs : List X) → Each (λ x. test x ≡ true) xs → filter test xs ≡ xs
filter_all test [] h = refl
filter_all test (x ∷ xs) h = rw (h.0, filter_all test xs h.1) refl

no_messages : {P : Type 0} (fs : List (RatedFlight P)) → [] ≡ rated_messages fs → fs ≡ []
no_messages [] e = refl
no_messages (f ∷ fs) e = cc

-- ---- least moments

-- of a test that is decided there is a least moment, or none up to the last one
least_from : (Q : ℕ → Type 0) → ((t : ℕ) → Q t ⊎ (Q t → ⊥)) → (n from : ℕ) → last_moment < from + n
    → ((s : ℕ) → Q s → from ≤ s) → (o : Option ℕ) × IsLeastMoment Q o
least_from Q decide zero from end first = grind arith
least_from Q decide (suc n) from end first =
    by_case (cases_lt last_moment from) (decide from) (least_from Q decide n (from + 1) (omega (arith, end)))
  where
    later : (Q from → ⊥) → (s : ℕ) → Q s → from + 1 ≤ s
    later none s q = grind (arith, cases_lt)

    by_case : last_moment < from ⊎ from ≤ last_moment → Q from ⊎ (Q from → ⊥)
        → (((s : ℕ) → Q s → from + 1 ≤ s) → (o : Option ℕ) × IsLeastMoment Q o) → (o : Option ℕ) × IsLeastMoment Q o
    by_case (inl past) d ih = grind arith
    by_case (inr le) (inl q) ih = (Some from, (le, q, first))
    by_case (inr le) (inr none) ih = ih (later none)

least_exists : (Q : ℕ → Type 0) → ((t : ℕ) → Q t ⊎ (Q t → ⊥)) → (o : Option ℕ) × IsLeastMoment Q o
least_exists Q decide = least_from Q decide (suc last_moment) 0 (omega arith) (λ s q. omega arith)

-- whether something is spent can be told
spent_or_not : {P : Type 0} (fs : List (RatedFlight P)) (t : ℕ) → SomeSpentAt fs t ⊎ (SomeSpentAt fs t → ⊥)
spent_or_not {P} [] t = grind arith
spent_or_not {P} (f ∷ fs) t = by_rest (cases_lt t f.updated) (cases_eq (left_at t f).num 0) (spent_or_not fs t)
  where
    rest : ((f.updated ≤ t) → ((left_at t f).num ≡ 0) → ⊥) → (SomeSpentAt fs t → ⊥) → SomeSpentAt (f ∷ fs) t → ⊥
    rest never others h = at_place h.0 h.1 h.2 h.3 h.4
      where
        at_place : (i : ℕ) (g : RatedFlight P) → slice_get (f ∷ fs) i ≡ Some g → g.updated ≤ t
            → (left_at t g).num ≡ 0 → ⊥
        at_place zero g at le spent = grind arith
        at_place (suc i) g at le spent = others (i, g, at, le, spent)

    by_rest : t < f.updated ⊎ f.updated ≤ t → ((left_at t f).num ≡ 0) ⊎ ((left_at t f).num ≡ 0 → ⊥)
        → SomeSpentAt fs t ⊎ (SomeSpentAt fs t → ⊥) → SomeSpentAt (f ∷ fs) t ⊎ (SomeSpentAt (f ∷ fs) t → ⊥)
    by_rest (inr le) (inl spent) d = inl (0, f, refl, le, spent)
    by_rest a b (inl h) = inl (suc h.0, h.1, h.2, h.3, h.4)
    by_rest (inl lt) b (inr none) = inr (rest (λ le spent. absurd (omega (arith, lt, le))) none)
    by_rest (inr le) (inr left) (inr none) = inr (rest (λ le spent. left spent) none)

-- ---- what is in flight

-- what is left of each is in lowest terms
abbrev pub AreLowest : {P : Type 0} → List (RatedFlight P) → Type 0
AreLowest fs = Each (λ f. IsLowest f.left) fs

-- each has numbers over numbers above zero
abbrev pub ArePositive : {P : Type 0} → List (RatedFlight P) → Type 0
ArePositive fs = Each (λ f. (0 < f.left.den) × IfSome f.rate (λ r. 0 < r.den)) fs

abbrev Stays : {P : Type 0} → ℕ → RatedFlight P → RatedFlight P → Type 0
Stays t f g = (g.id ≡ f.id) × (g.message ≡ f.message) × (g.left ≡ f.left) × (g.updated ≡ t)

-- those that have drained to a moment, and drain for no time, stay as they are
abbrev IsKept : {P : Type 0} → ℕ → RatedFlight P → Type 0
IsKept t f = (f.updated ≡ t) × (left_at t f ≡ f.left)

drained_kept : {P : Type 0} (t : ℕ) (fs : List (RatedFlight P)) → Each (IsKept t) fs → drained_to t fs ≡ fs
drained_kept t [] each = refl
drained_kept t (f ∷ fs) each = grind (arith, (drained_kept t fs))

drained-append : {P : Type 0} (t : ℕ) (fs gs : List (RatedFlight P))
    → drained_to t (fs ++ gs) ≡ drained_to t fs ++ drained_to t gs
drained-append t [] gs = refl
drained-append t (f ∷ fs) gs = ap (λ l. record f { left = left_at t f; updated = t } ∷ l) (drained-append t fs gs)

no_time : {P : Type 0} (t : ℕ) (f : RatedFlight P) (r : Amount) → f.updated ≡ t → f.rate ≡ Some r → 0 < r.den
    → IsLowest f.left → left_at t f ≡ f.left
no_time t f r at rate positive low = grind (arith, drained_none)

left_lowest : {P : Type 0} (t : ℕ) (f : RatedFlight P) → (0 < f.left.den) × IfSome f.rate (λ r. 0 < r.den)
    → IsLowest (left_at t f)
left_lowest t f h = drained_by_lowest f.rate (t - f.updated) f.left h.1 h.0

all_lowest : {P : Type 0} (t : ℕ) (fs : List (RatedFlight P)) → ArePositive fs → AreLowest (drained_to t fs)
all_lowest t [] each = tt
all_lowest t (f ∷ fs) each = (left_lowest t f each.0, all_lowest t fs each.1)

module _ {P : Type 0} (cmp : P → P → Ordering) (order : IsTotalOrder cmp) where
  -- at that moment an account was made: what is in flight is accounted for, none of it is done, and the rates and the
  -- finish are right
  pub record IsAccountedAt (t : ℕ) (p : Planned P) : Type 0 where
    pub per : ℕ
    pub rates : Parts
    pub none_spent : Each (λ f. (f.updated ≡ t) × (is_spent cmp p.caps f ≡ false)) p.sending
    pub fair : AreFair cmp p.caps (rated_messages p.sending) per rates
    pub rated : AllZip (λ rate f. f.rate ≡ rate_of per rate) rates p.sending
    pub at : p.accounted ≡ t
    pub finish : IsLeastMoment (SomeSpentAt p.sending) p.finish

  -- ---- what keeps it

  stayed_unspent : (caps : Caps P) (t : ℕ) (f g : RatedFlight P) → Stays t f g
      → not (is_spent cmp caps f) ≡ true → (g.updated ≡ t) × (is_spent cmp caps g ≡ false)
  stayed_unspent caps t f g stays test = grind arith

  pub accounted : (t : ℕ) (old new : Planned P) (ls : List (Message P)) → Accounts cmp t old ls new
      → IsAccountedAt t new
  accounted t old new ls a = grind (arith, zip_each, stayed_unspent, each_passes)

  planned_accounted : (t : ℕ) (p q : Planned P) → PlansStart cmp t p q → IsAccountedAt t p → IsAccountedAt t q
  planned_accounted t p q looks h = subst (IsAccountedAt t) (sym looks.same) (grind arith)

  launch_accounted : {t : ℕ} {p : Planned P} {o : Option (Message P)} {c : Course (Message P) (Planned P)}
      → Launches cmp t p o c → (ms : List (Message P)) (q : Planned P) → c ≡ goes ms q → IsAccountedAt t p
      → IsAccountedAt t q
  launch_accounted {t = t} {p = p} nothing_waits ms q e h = let same : p ≡ q = cc in subst (IsAccountedAt t) same h
  launch_accounted {t = t} {p = p} (too_early may) ms q e h = let same : p ≡ q = cc in subst (IsAccountedAt t) same h
  launch_accounted (no_id may last) ms q e h = absurd (goes_no_fault e)
  launch_accounted {t = t} {p = p} (starts {m = m} {leavers = leavers} {new = new} may below account) ms q e h =
      grind (arith, common_steps, (accounted t (launched cmp t p m) new leavers account))

  landed_accounted : (t : ℕ) (p : Planned P) (m : Message P) → IsAccountedAt t p → IsAccountedAt t (landed cmp t p m)
  landed_accounted t p m h = grind arith

  finish_accounted : {t : ℕ} {ms : List (Message P)} {p : Planned P} {c : Course (Completed P) (Planned P)}
      → Finishes cmp t ms p c → IsAccountedAt t p → EndsWith (IsAccountedAt t) c
  finish_accounted {t = t} {p = p} (all_completed {q = q} looks) h = planned_accounted t p q looks h
  finish_accounted (late is) h = tt
  finish_accounted (stopped is launch) h = tt
  finish_accounted {t = t} {p = p} (completes {m = m} {more = more} {q = q} {rest = rest} is launch finishes) h =
      ends_preceded (IsAccountedAt t) (completed cmp t m ∷ []) rest
      (finish_accounted finishes (launch_accounted launch more q refl (landed_accounted t p m h)))

  queued_accounted : (t : ℕ) (p : Planned P) (m : Message P) → IsAccountedAt t p → IsAccountedAt t (with_queued cmp p m)
  queued_accounted t p m h = grind arith

  at_once_accounted : (t : ℕ) (p : Planned P) (m : Message P) → IsAccountedAt t p
      → EndsWith (IsAccountedAt t) (completed_at_once cmp t p m)
  at_once_accounted t p m h = grind arith

  -- where an account was made, a message that is sent leaves it so
  pub enqueue_accounted : {t : ℕ} {m : Message P} {p : Planned P} {c : Course (Completed P) (Planned P)}
      → Enqueues cmp t m p c → IsAccountedAt t p → EndsWith (IsAccountedAt t) c
  enqueue_accounted {t = t} {m = m} {p = p} (at_once free) h = at_once_accounted t p m h
  enqueue_accounted (no_launch limited launch) h = tt
  enqueue_accounted {t = t} {m = m} {p = p} (launches {leavers = ls} {mid = mid} limited launch finishes) h =
      finish_accounted finishes (launch_accounted launch ls mid refl (queued_accounted t p m h))

  start_accounted : {t : ℕ} {p : Planned P} {o : Option (Message P)} {c : Course (Message P) (Planned P)}
      → Launches cmp t p o c → (k : Message P) → o ≡ Some k → may_launch cmp t p k ≡ true
      → (ms : List (Message P)) (q : Planned P) → c ≡ goes ms q → IsAccountedAt t q
  start_accounted nothing_waits k is may ms q e = absurd (none-some k is)
  start_accounted {t = t} {p = p} (too_early {m = m} early) k is may ms q e = grind arith
  start_accounted (no_id ready last) k is may ms q e = absurd (goes_no_fault e)
  start_accounted {t = t} {p = p} (starts {m = m} {leavers = ls} {new = new} ready below account) k is may ms q e =
      grind (arith, common_steps, (accounted t (launched cmp t p m) new ls account))

  -- and a message that starts makes it so
  pub enqueue_starts : {t : ℕ} {m : Message P} {p : Planned P} {c : Course (Completed P) (Planned P)}
      → Enqueues cmp t m p c → p.limited ≡ true → next_of cmp (with_queued cmp p m) m ≡ Some m
      → may_launch cmp t p m ≡ true → EndsWith (IsAccountedAt t) c
  enqueue_starts {p = p} (at_once free) limited found may = cc
  enqueue_starts (no_launch limited launch) l found may = tt
  enqueue_starts {m = m} (launches {leavers = ls} {mid = mid} limited launch finishes) l found may =
      finish_accounted finishes (start_accounted launch m found may ls mid refl)

  -- ---- an account once more

  -- each that is limited has a rate over a number above zero
  abbrev HasRate : RatedFlight P → Type 0
  HasRate f = (r : Amount) × (f.rate ≡ Some r) × (0 < r.den)

  unspent_limited : (caps : Caps P) (f : RatedFlight P) → is_spent cmp caps f ≡ false
      → is_unlimited cmp caps f.message ≡ false
  unspent_limited caps f e = (or_parts (f.left.num == 0) (is_unlimited cmp caps f.message) e).1

  all_have_rates : (caps : Caps P) (per : ℕ) (parts : ℕ → ℕ) (place : ℕ) (fs : List (RatedFlight P)) → 0 < per
      → Each (λ f. is_unlimited cmp caps f.message ≡ false) fs
      → AllZip (λ rate f. f.rate ≡ rate_of per rate) (rates_from cmp caps parts place (rated_messages fs)) fs
      → Each HasRate fs
  all_have_rates caps per parts place [] some limited rated = tt
  all_have_rates caps per parts place (f ∷ fs) some limited rated =
      let own = ap (λ (b : Bool). if b then None else Some (parts place)) limited.0 in (
        (reduced (parts place) per, rated.0 ∙ ap (rate_of per) own, reduced_positive (parts place) per some),
        all_have_rates caps per parts (place + 1) fs some limited.1 rated.1,
      )

  have_rates : (t : ℕ) (p : Planned P) → IsAccountedAt t p → Each HasRate p.sending
  have_rates t p h = grind (arith, all_have_rates, each_map, unspent_limited, rate_of)

  all_kept : (t : ℕ) (caps : Caps P) (fs : List (RatedFlight P))
      → Each (λ f. (f.updated ≡ t) × (is_spent cmp caps f ≡ false)) fs → Each HasRate fs → AreLowest fs
      → Each (IsKept t) fs
  all_kept t caps [] none rates low = tt
  all_kept t caps (f ∷ fs) none rates low = grind (arith, (no_time t f), (all_kept t caps fs))

  pub drained_still : (t : ℕ) (p : Planned P) → IsAccountedAt t p → AreLowest p.sending
      → drained_to t p.sending ≡ p.sending
  drained_still t p h low = drained_kept t p.sending (all_kept t p.caps p.sending h.none_spent (have_rates t p h) low)

  pub none_leave : (t : ℕ) (p : Planned P) → IsAccountedAt t p → filter (is_spent cmp p.caps) p.sending ≡ []
  none_leave t p h = grind (arith, filter_none, each_map)

  all_stay : (t : ℕ) (p : Planned P) → IsAccountedAt t p
      → filter (λ f. not (is_spent cmp p.caps f)) p.sending ≡ p.sending
  all_stay t p h = grind (arith, filter_all, each_map)

  stay_as_they_are : (t : ℕ) (fs : List (RatedFlight P)) (caps : Caps P)
      → Each (λ f. (f.updated ≡ t) × (is_spent cmp caps f ≡ false)) fs → AllZip (Stays t) fs fs
  stay_as_they_are t [] caps h = tt
  stay_as_they_are t (f ∷ fs) caps h = ((refl, refl, refl, h.0.0), stay_as_they_are t fs caps h.1)

  -- an account at that moment once more changes nothing
  pub account_again : (t : ℕ) (p : Planned P) → IsAccountedAt t p → AreLowest p.sending → Accounts cmp t p [] p
  account_again t p h low =
      grind (
        arith,
        common_steps,
        accounted,
        (drained_still t p h low),
        (none_leave t p h),
        (all_stay t p h),
        (stay_as_they_are t p.sending p.caps h.none_spent),
      )

  -- ---- an account can always be made

  -- messages in flight with fair rates
  with_rates : Caps P → ℕ → (ℕ → ℕ) → ℕ → ℕ → List (RatedFlight P) → List (RatedFlight P)
  with_rates caps per parts t place [] = []
  with_rates caps per parts t place (f ∷ fs) =
      record {
        id = f.id;
        message = f.message;
        left = f.left;
        rate = rate_of per (if is_unlimited cmp caps f.message then None else Some (parts place));
        updated = t;
      } ∷ with_rates caps per parts t (place + 1) fs

  rated_messages_same : (caps : Caps P) (per : ℕ) (parts : ℕ → ℕ) (t place : ℕ) (fs : List (RatedFlight P))
      → rated_messages (with_rates caps per parts t place fs) ≡ rated_messages fs
  unfolding with_rates
  rated_messages_same caps per parts t place [] = refl
  rated_messages_same caps per parts t place (f ∷ fs) =
      ap (λ l. f.message ∷ l) (rated_messages_same caps per parts t (place + 1) fs)

  stay_with_rates : (caps : Caps P) (per : ℕ) (parts : ℕ → ℕ) (t place : ℕ) (fs : List (RatedFlight P))
      → AllZip (Stays t) fs (with_rates caps per parts t place fs)
  unfolding with_rates
  stay_with_rates caps per parts t place [] = tt
  stay_with_rates caps per parts t place (f ∷ fs) =
      ((refl, refl, refl, refl), stay_with_rates caps per parts t (place + 1) fs)

  rated_so : (caps : Caps P) (per : ℕ) (parts : ℕ → ℕ) (t place : ℕ) (fs : List (RatedFlight P))
      → AllZip (λ rate f. f.rate ≡ rate_of per rate) (rates_from cmp caps parts place (rated_messages fs))
      (with_rates caps per parts t place fs)
  unfolding with_rates
  rated_so caps per parts t place [] = tt
  rated_so caps per parts t place (f ∷ fs) = (refl, rated_so caps per parts t (place + 1) fs)

  -- what is left at a moment and what leaves then
  abbrev Staying : ℕ → Planned P → List (RatedFlight P)
  Staying t p = filter (λ f. not (is_spent cmp p.caps f)) (drained_to t p.sending)

  account_with : (t : ℕ) (p : Planned P) (per : ℕ) (rates : Parts)
      (fair : AreFair cmp p.caps (rated_messages (Staying t p)) per rates) (o : Option ℕ)
      → IsLeastMoment (SomeSpentAt (with_rates p.caps per fair.parts t 0 (Staying t p))) o
      → Accounts cmp t p (rated_messages (filter (is_spent cmp p.caps) (drained_to t p.sending)))
      (record p { sending = with_rates p.caps per fair.parts t 0 (Staying t p); accounted = t; finish = o })
  account_with t p per rates fair o least =
      grind (arith, stay_with_rates, rated_messages_same, rate_of, with_rates, rated_so)

  pub account_exists : (t : ℕ) (p : Planned P) → (ls : List (Message P)) × (q : Planned P) × Accounts cmp t p ls q
  account_exists t p =
      let f = rates_exist cmp order p.caps (rated_messages (Staying t p)) in
      let sending = with_rates p.caps f.0 f.2.parts t 0 (Staying t p) in
      let least = least_exists (SomeSpentAt sending) (spent_or_not sending) in
      grind (arith, accounted, (account_with t p f.0 f.1 f.2 least.0 least.1))

  -- ---- a message that starts, and the account that follows the last one

  -- the message as it starts under that flow id
  abbrev pub starting : ℕ → ℕ → Message P → RatedFlight P
  starting id t m = record { id = id; message = m; left = whole (length m.bytes); rate = Some (whole 0); updated = t }

  starting_kept : (id t : ℕ) (m : Message P) → drained_to t (starting id t m ∷ []) ≡ starting id t m ∷ []
  starting_kept id t m =
      drained_kept t _ ((refl, no_time t (starting id t m) (whole 0) refl refl (omega arith) (whole_lowest _)), tt)

  -- where none of the first leaves, and the message that starts does not
  one_more_stays : (id t : ℕ) (caps : Caps P) (fs : List (RatedFlight P)) (m : Message P)
      → is_spent cmp caps (starting id t m) ≡ false
      → filter (λ f. not (is_spent cmp caps f)) (drained_to t (fs ++ starting id t m ∷ []))
      ≡ filter (λ f. not (is_spent cmp caps f)) (drained_to t fs) ++ starting id t m ∷ []
  one_more_stays id t caps fs m limited =
      grind (arith, filter-append, filter_all, (drained-append t fs), (starting_kept id t m), (starting id t m))

  none_more_leaves : (id t : ℕ) (caps : Caps P) (fs : List (RatedFlight P)) (m : Message P)
      → is_spent cmp caps (starting id t m) ≡ false → filter (is_spent cmp caps) (drained_to t fs) ≡ []
      → filter (is_spent cmp caps) (drained_to t (fs ++ starting id t m ∷ [])) ≡ []
  none_more_leaves id t caps fs m limited none =
      search (rules, drained-append, starting, starting_kept, filter-append, filter_none)

  all_but_none : (test : RatedFlight P → Bool) (fs : List (RatedFlight P)) → filter test fs ≡ []
      → filter (λ f. not (test f)) fs ≡ fs
  all_but_none test [] e = refl
  all_but_none test (f ∷ fs) e = grind (arith, (all_but_none test fs))

  -- where the first have drained and none of them is done, all stay, and so does the message that starts
  pub all_and_one_stay : (id t : ℕ) (caps : Caps P) (fs : List (RatedFlight P)) (m : Message P)
      → is_spent cmp caps (starting id t m) ≡ false → drained_to t fs ≡ fs → filter (is_spent cmp caps) fs ≡ []
      → filter (λ f. not (is_spent cmp caps f)) (drained_to t (fs ++ starting id t m ∷ [])) ≡ fs ++ starting id t m ∷ []
  all_and_one_stay id t caps fs m limited still none =
      grind (arith, (one_more_stays id t caps fs m limited), (starting id t m), (all_but_none (is_spent cmp caps) fs none))

  -- and nothing leaves
  pub none_and_one_leave : (id t : ℕ) (caps : Caps P) (fs : List (RatedFlight P)) (m : Message P)
      → is_spent cmp caps (starting id t m) ≡ false → drained_to t fs ≡ fs → filter (is_spent cmp caps) fs ≡ []
      → filter (is_spent cmp caps) (drained_to t (fs ++ starting id t m ∷ [])) ≡ []
  none_and_one_leave id t caps fs m limited still none = grind (arith, none_more_leaves, still)

  -- what is left after an account is in lowest terms
  pub account_lowest : (t : ℕ) (p q : Planned P) (ls : List (Message P)) → Accounts cmp t p ls q
      → ArePositive p.sending → AreLowest q.sending
  account_lowest t p q ls a positive = grind (arith, zip_each, each_in_filter, all_lowest)

  -- ---- the same messages in flight

  pub messages_stay : (t : ℕ) (here w : Planned P) → Accounts cmp t here [] w
      → rated_messages w.sending ≡ rated_messages here.sending
  messages_stay t here w a =
      stayed_messages t _ w.sending a.stayed ∙ ap rated_messages (all_but_none _ _ (no_messages _ a.left))
      ∙ drained_messages t here.sending

  -- some pair is ready at a moment, told by what waits, what is in flight and what arrived
  abbrev IsReadyBy : List (Message P) → List (Message P) → (P → P → Option ℕ) → ℕ → Type 0
  IsReadyBy waiting flying last u =
      (n : Message P) × (find (same_pair cmp n) waiting ≡ Some n)
      × ((not (list_any (same_pair cmp n) flying) && is_in_order (last n.origin n.recipient) (u + n.latency)) ≡ true)

  ready_same : (p q : Planned P) → q.waiting ≡ p.waiting → q.last_arrival ≡ p.last_arrival
      → rated_messages q.sending ≡ rated_messages p.sending → (u : ℕ) → SomeReadyAt cmp p u → SomeReadyAt cmp q u
  ready_same p q waiting last flying u ready =
      subst (λ (ws : List (Message P)). IsReadyBy ws (rated_messages q.sending) q.last_arrival u) (sym waiting)
      (subst (λ (la : P → P → Option ℕ). IsReadyBy p.waiting (rated_messages q.sending) la u) (sym last)
      (subst (λ (ms : List (Message P)). IsReadyBy p.waiting ms p.last_arrival u) (sym flying) ready))

  -- the start that is planned there is the one here
  pub planned_alike : (t : ℕ) (p q next : Planned P) → PlansStart cmp t p next → q.waiting ≡ p.waiting
      → q.last_arrival ≡ p.last_arrival → rated_messages q.sending ≡ rated_messages p.sending
      → PlansStart cmp t q (record q { start = next.start })
  planned_alike t p q next looks waiting last flying =
      record {
        start = least_same _ _ next.start (λ u h. (h.0, ready_same p q waiting last flying u h.1))
            (λ u h. (h.0, ready_same q p (sym waiting) (sym last) (sym flying) u h.1)) looks.start;
        same = refl;
      }

  -- ---- one message starts

  module _ (t : ℕ) (m : Message P) (here next : Planned P) (fs : List (RatedFlight P)) (o : Option ℕ)
      (limited : here.limited ≡ true) (found : next_of cmp (with_queued cmp here m) m ≡ Some m)
      (may : may_launch cmp t here m ≡ true) (id : here.next_id < last_moment)
      (stays : is_spent cmp here.caps (starting here.next_id t m) ≡ false)
      (looks : PlansStart cmp t (launched cmp t (with_queued cmp here m) m) next)
      (positive : ArePositive here.sending)
      (a : Accounts cmp t here [] (record here { sending = fs; accounted = t; finish = o })) where
    h : IsAccountedAt t (record here { sending = fs; accounted = t; finish = o })
    h = accounted t here (record here { sending = fs; accounted = t; finish = o }) [] a

    low : AreLowest fs
    low = account_lowest t here (record here { sending = fs; accounted = t; finish = o }) [] a positive

    still : drained_to t fs ≡ fs
    still = drained_still t (record here { sending = fs; accounted = t; finish = o }) h low

    flying : rated_messages fs ≡ rated_messages here.sending
    flying = messages_stay t here (record here { sending = fs; accounted = t; finish = o }) a

    -- what stays in flight there
    staying_there : filter (λ f. not (is_spent cmp here.caps f)) (drained_to t (fs ++ starting here.next_id t m ∷ []))
        ≡ fs ++ starting here.next_id t m ∷ []
    staying_there = all_and_one_stay here.next_id t here.caps fs m stays still (none_leave t _ h)

    none_there : filter (is_spent cmp here.caps) (drained_to t (fs ++ starting here.next_id t m ∷ [])) ≡ []
    none_there = search (none_and_one_leave, still, none_leave, accounted, h)

    none_here : filter (is_spent cmp here.caps) (drained_to t here.sending) ≡ []
    none_here = no_messages (filter (is_spent cmp here.caps) (drained_to t here.sending)) a.left

    abbrev Starts : Planned P → Type 0
    Starts w = (v : Planned P) × Enqueues cmp t m w (goes [] v) × Accounts cmp t next [] v

    enqueues_there : (x : Planned P)
        → Accounts cmp t (launched cmp t (with_queued cmp (record here { sending = fs; accounted = t; finish = o }) m) m) [] x
        → Enqueues cmp t m (record here { sending = fs; accounted = t; finish = o }) (goes [] (record x { start = next.start }))
    enqueues_there x ax =
        let may_there : may_launch cmp t (record here { sending = fs; accounted = t; finish = o }) m ≡ true =
        grind (arith, flying) in
        let launch = subst (λ (first : Option (Message P)). Launches cmp t (with_queued cmp
        (record here { sending = fs; accounted = t; finish = o }) m) first (goes [] x)) (sym found)
        (starts may_there id ax) in
        let flies = messages_stay t _ x ax ∙ map-append _ fs _ ∙ ap (λ (ms : List (Message P)). ms ++ m ∷ []) flying ∙
        sym (map-append _ here.sending (starting here.next_id t m ∷ [])) in
        launches limited launch (all_completed (planned_alike t _ x next looks
        (ap (λ (q : Planned P). q.waiting) ax.same) (ap (λ (q : Planned P). q.last_arrival) ax.same) flies))

    stayed_here : (x : Planned P)
        → Accounts cmp t (launched cmp t (with_queued cmp (record here { sending = fs; accounted = t; finish = o }) m) m) [] x
        → AllZip (Stays t)
        (filter (λ f. not (is_spent cmp here.caps f)) (drained_to t (here.sending ++ starting here.next_id t m ∷ [])))
        x.sending
    stayed_here x ax =
        subst (λ (l : List (RatedFlight P)). AllZip (Stays t) l x.sending) (sym
        (one_more_stays here.next_id t here.caps here.sending m stays)) (zip_chain (Stays t) (Stays t) (Stays t)
        (λ f g k first second. (second.0 ∙ first.0, second.1 ∙ first.1, second.2 ∙ first.2, second.3)) _ _ x.sending
        (zip-append (Stays t) _ _ fs _ a.stayed ((refl, refl, refl, refl), tt))
        (subst (λ (l : List (RatedFlight P)). AllZip (Stays t) l x.sending) staying_there ax.stayed))

    accounts_here : (x : Planned P)
        → Accounts cmp t (launched cmp t (with_queued cmp (record here { sending = fs; accounted = t; finish = o }) m) m) [] x
        → Accounts cmp t next [] (record x { start = next.start })
    accounts_here x ax =
        subst (λ (q : Planned P). Accounts cmp t q [] (record x { start = next.start })) (sym looks.same) (record {
          per = ax.per;
          rates = ax.rates;
          left = sym (ap rated_messages (none_more_leaves here.next_id t here.caps here.sending m stays none_here));
          stayed = stayed_here x ax;
          fair = ax.fair;
          rated = ax.rated;
          finish = ax.finish;
          same = ap (λ (q : Planned P). record q { start = next.start }) ax.same;
        })

    one_start : (ls : List (Message P)) (x : Planned P)
        → Accounts cmp t (launched cmp t (with_queued cmp (record here { sending = fs; accounted = t; finish = o }) m) m) ls x
        → Starts (record here { sending = fs; accounted = t; finish = o })
    one_start ls x ax =
        let none : ls ≡ [] = ax.left ∙ ap rated_messages none_there in
        let there = subst (λ (l : List (Message P)). Accounts cmp t
        (launched cmp t (with_queued cmp (record here { sending = fs; accounted = t; finish = o }) m) m) l x) none ax in
        (record x { start = next.start }, enqueues_there x there, accounts_here x there)

    pub starts_there : Starts (record here { sending = fs; accounted = t; finish = o })
    starts_there =
        let x = account_exists t _ in
        one_start x.0 x.1 x.2

  -- where the planned world w is the other one after an account at which nothing leaves, a message that starts leads to
  -- such planned worlds again
  pub one_starts : (t : ℕ) (m : Message P) (here next w : Planned P) → Accounts cmp t here [] w
      → ArePositive here.sending → here.limited ≡ true → next_of cmp (with_queued cmp here m) m ≡ Some m
      → may_launch cmp t here m ≡ true → here.next_id < last_moment
      → is_spent cmp here.caps (starting here.next_id t m) ≡ false
      → PlansStart cmp t (launched cmp t (with_queued cmp here m) m) next
      → (v : Planned P) × Enqueues cmp t m w (goes [] v) × Accounts cmp t next [] v
  one_starts t m here next w a positive limited found may id stays looks =
      subst (λ (q : Planned P). (v : Planned P) × Enqueues cmp t m q (goes [] v) × Accounts cmp t next [] v)
      (sym a.same) (starts_there t m here next w.sending w.finish limited found may id stays looks positive
      (subst (λ (q : Planned P). Accounts cmp t here [] q) a.same a))
