-- Each event takes a message out or starts one, so there are at most twice the waiting ones and once those in flight.
use Rattle.link_simulation.proofs.Common.{common_steps, ◌≡◌, ◌≢◌, ℕ, zero, suc, ◌+◌, ◌-◌, ◌<◌, ◌≤◌, List, []}
use Rattle.link_simulation.proofs.Common.{◌∷◌, ◌++◌, length, Bool, true, false, not, Option, Some, refl, sym, ap, ◌∙◌}
use Rattle.link_simulation.proofs.Common.{subst, arith, ⊤, slice_get, find, filter, Ordering, IsTotalOrder}
use Rattle.link_simulation.proofs.Common.{Message, Caps, same_pair, Completed, Course, goes, meets, preceded, fronts}
use Rattle.link_simulation.proofs.Common.{completed, Call, call_limit, call_limit_link, call_enqueue, call_advance}
use Rattle.link_simulation.proofs.Common.{call_enqueue_all, call_next, Planned, RatedFlight, IsLeastMoment, next_event}
use Rattle.link_simulation.proofs.Common.{rated_messages, IsSpentAt, SomeSpentAt, drained_to, next_of, may_launch}
use Rattle.link_simulation.proofs.Common.{SomeReadyAt, is_spent, new_planned, Accounts, PlansStart, Launches}
use Rattle.link_simulation.proofs.Common.{nothing_waits, too_early, no_id, starts, Finishes, all_completed, late}
use Rattle.link_simulation.proofs.Common.{stopped, completes, WakesEach, all_started, no_start, no_finish, starts_one}
use Rattle.link_simulation.proofs.Common.{Wakes, Settles, settling, Rebalances, none_sending, some_sending, Enqueues}
use Rattle.link_simulation.proofs.Common.{at_once, no_launch, launches, Advances, no_more, at_finish, at_start}
use Rattle.link_simulation.proofs.Common.{finish_stops, start_stops, launched, Obeys, EnqueuesEach, all_enqueued}
use Rattle.link_simulation.proofs.Common.{one_stops, enqueues_one, In, Each, zip-length, by_bool, left_at, IfSome}
use Rattle.link_simulation.specs.Laws.MostEvents.{most_events}
use Rattle.link_simulation.specs.Rule.Planned.{IsPlanned}
use Rattle.fairness.proofs.Lists.Members.{in_filter}
use Rattle.link_simulation.proofs.Simulation.SettlingEnds.{find_like, goes_no_fault, length_without}
use Rattle.link_simulation.proofs.Simulation.Queue.{find_passes, pair_sym}
use Rattle.link_simulation.proofs.Laws.Bytes.{each_filter}
use Rattle.link_simulation.proofs.Simulation.OtherPairs.{fronts_are_first}
use Rattle.link_simulation.proofs.Rule.Advance.{earlier_start}

pub split_length : {X : Type 0} (test : X → Bool) (xs : List X)
    → length (filter test xs) + length (filter (λ x. not (test x)) xs) ≡ length xs
split_length test [] = refl
split_length {X} test (x ∷ xs) = grind (arith, (split_length test xs))

module _ {P : Type 0} (cmp : P → P → Ordering) (order : IsTotalOrder cmp) where
  -- ---- what each step leaves to do

  pub map_length : (fs : List (RatedFlight P)) → length (rated_messages fs) ≡ length fs
  map_length [] = refl
  map_length (f ∷ fs) = ap suc (map_length fs)

  drained_length : (t : ℕ) (fs : List (RatedFlight P)) → length (drained_to t fs) ≡ length fs
  drained_length t [] = refl
  drained_length t (f ∷ fs) = ap suc (drained_length t fs)

  account_counts : (t : ℕ) (old new : Planned P) (leavers : List (Message P)) → Accounts cmp t old leavers new
      → most_events new + length leavers ≡ most_events old
  account_counts t old new leavers account = grind (arith, map_length, zip-length, split_length, drained_length)

  look_counts : (t : ℕ) (p q : Planned P) → PlansStart cmp t p q → most_events q ≡ most_events p
  look_counts t p q looks = ap most_events looks.same

  longer : (fs : List (RatedFlight P)) (f : RatedFlight P) → length (fs ++ f ∷ []) ≡ length fs + 1
  longer [] f = refl
  longer (g ∷ fs) f = omega (arith, longer fs f)

  launched_counts : (t : ℕ) (p : Planned P) (k m : Message P) → next_of cmp p k ≡ Some m
      → most_events (launched cmp t p m) + 1 ≡ most_events p
  launched_counts t p k m found = grind (arith, find_like, find_passes, length_without, longer)

  launch_counts : {t : ℕ} {p : Planned P} {o : Option (Message P)} {c : Course (Message P) (Planned P)}
      → Launches cmp t p o c
      → (k : Message P) (ms : List (Message P)) (q : Planned P) → next_of cmp p k ≡ o → c ≡ goes ms q
      → most_events q + length ms ≤ most_events p
  launch_counts {p = p} nothing_waits k ms q is e = grind arith
  launch_counts {p = p} (too_early may) k ms q is e = grind arith
  launch_counts (no_id may last) k ms q is e = absurd (goes_no_fault e)
  launch_counts {t = t} {p = p} (starts {m = m} {leavers = leavers} {new = new} may below account) k ms q is e =
      let counts = account_counts t (launched cmp t p m) new leavers account in
      let one : most_events (launched cmp t p m) + 1 ≡ most_events p = launched_counts t p k m is in
      let out : leavers ≡ ms = cc in
      let same : new ≡ q = cc in
      subst (λ (z : Planned P). most_events z + length ms ≤ most_events p) same
      (subst (λ (ns : List (Message P)). most_events new + length ns ≤ most_events p) out (omega arith))

  -- one that may start does
  launch_less : {t : ℕ} {p : Planned P} {o : Option (Message P)} {c : Course (Message P) (Planned P)}
      → Launches cmp t p o c
      → (k m : Message P) (ms : List (Message P)) (q : Planned P) → next_of cmp p k ≡ o → o ≡ Some m
      → may_launch cmp t p m ≡ true → c ≡ goes ms q → most_events q + length ms < most_events p
  launch_less nothing_waits k m ms q is some may e = cc
  launch_less {t = t} {p = p} (too_early {m = x} early) k m ms q is some may e = grind arith
  launch_less (no_id first last) k m ms q is some may e = absurd (goes_no_fault e)
  launch_less {t = t} {p = p} (starts {m = x} {leavers = leavers} {new = new} first below account) k m ms q is some may
      e =
      let counts = account_counts t (launched cmp t p x) new leavers account in
      let one : most_events (launched cmp t p x) + 1 ≡ most_events p = launched_counts t p k x is in
      let out : leavers ≡ ms = cc in
      let same : new ≡ q = cc in
      subst (λ (z : Planned P). most_events z + length ms < most_events p) same
      (subst (λ (ns : List (Message P)). most_events new + length ns < most_events p) out (omega arith))

  -- no more is left to do than so much
  abbrev Leaves : ℕ → Course (Completed P) (Planned P) → Type 0
  Leaves n (goes cs q) = most_events q ≤ n
  Leaves n (meets fault) = ⊤

  leaves_after : (n : ℕ) (cs : List (Completed P)) (c : Course (Completed P) (Planned P)) → Leaves n c
      → Leaves n (preceded cs c)
  leaves_after n cs (goes ds q) h = h
  leaves_after n cs (meets fault) h = tt

  leaves_more : (m n : ℕ) (c : Course (Completed P) (Planned P)) → m ≤ n → Leaves m c → Leaves n c
  leaves_more m n (goes ds q) le h = omega arith
  leaves_more m n (meets fault) le h = tt

  finish_counts : {t : ℕ} {ms : List (Message P)} {p : Planned P} {c : Course (Completed P) (Planned P)}
      → Finishes cmp t ms p c → Leaves (most_events p) c
  finish_counts {t = t} {p = p} (all_completed {q = q} looks) = grind (arith, look_counts)
  finish_counts (late is) = tt
  finish_counts (stopped is launch) = tt
  finish_counts {t = t} {p = p} (completes {m = m} {more = more} {q = q} {rest = rest} is launch finishes) =
      let less : most_events q + length more ≤ most_events p = launch_counts launch m more q refl refl in
      leaves_after _ (completed cmp t m ∷ []) rest (leaves_more _ _ rest (omega arith) (finish_counts finishes))

  wake_counts : {t : ℕ} {ms : List (Message P)} {p : Planned P} {c : Course (Completed P) (Planned P)}
      → WakesEach cmp t ms p c → Leaves (most_events p) c
  wake_counts {t = t} {p = p} (all_started {q = q} looks) = grind (arith, look_counts)
  wake_counts (no_start launch) = tt
  wake_counts (no_finish launch finishes) = tt
  wake_counts {p = p} (starts_one {m = m} {more = more} {q = q} {r = r} {cs = cs} {rest = rest} launch finishes wakes) =
      let less : most_events q + length more ≤ most_events p = launch_counts launch m more q refl refl in
      let after : most_events r ≤ most_events q = finish_counts finishes in
      leaves_after _ cs rest (leaves_more _ _ rest (omega arith) (wake_counts wakes))

  -- a wake that finds a pair ready starts it
  wake_less : {t : ℕ} {ms : List (Message P)} {p : Planned P} {c : Course (Completed P) (Planned P)}
      → WakesEach cmp t ms p c → (m : Message P) (ns : List (Message P))
      → ms ≡ m ∷ ns → next_of cmp p m ≡ Some m → may_launch cmp t p m ≡ true
      → 0 < most_events p × Leaves (most_events p - 1) c
  wake_less (all_started looks) m ns e found may = cc
  wake_less {p = p} (no_start {m = x} launch) m ns e found may = grind (arith, length_without)
  wake_less {p = p} (no_finish {m = x} {more = more} {q = q} launch finishes) m ns e found may =
      grind (arith, length_without)
  wake_less {t = t} {p = p}
      (starts_one {m = x} {more = more} {q = q} {r = r} {cs = cs} {rest = rest} launch finishes wakes) m ns e found
      may =
      let same : x ≡ m = cc in
      let found_x = ap (next_of cmp p) same ∙ found in
      let less = launch_less launch x m more q refl found_x may refl in
      let after = finish_counts finishes in
      grind (arith, wake_counts)

  -- ---- what is planned stays right

  Right : Course (Completed P) (Planned P) → Type 0
  Right (goes cs q) = IsPlanned cmp q
  Right (meets fault) = ⊤

  right_after : (cs : List (Completed P)) (c : Course (Completed P) (Planned P)) → Right c → Right (preceded cs c)
  unfolding Right
  right_after cs (goes ds q) h = h
  right_after cs (meets fault) h = tt

  -- the finish is planned, and before any limit nothing waits
  record IsPartlyPlanned (p : Planned P) : Type 0 where
    pub finish : IsLeastMoment (SomeSpentAt p.sending) p.finish
    pub none_at_first : p.limited ≡ false → p.waiting ≡ []

  looked_right : (t : ℕ) (p q : Planned P) → IsPartlyPlanned p → PlansStart cmp t p q → IsPlanned cmp q
  looked_right t p q h looks =
      subst (IsPlanned cmp) (sym looks.same)
      (record { finish = h.finish; from = t; start = looks.start; none_at_first = h.none_at_first })

  launch_right : {t : ℕ} {p : Planned P} {o : Option (Message P)} {c : Course (Message P) (Planned P)}
      → Launches cmp t p o c
      → (k : Message P) (ms : List (Message P)) (q : Planned P) → next_of cmp p k ≡ o → c ≡ goes ms q
      → IsPartlyPlanned p → IsPartlyPlanned q
  launch_right {p = p} nothing_waits k ms q is e h = let same : p ≡ q = cc in subst IsPartlyPlanned same h
  launch_right {p = p} (too_early may) k ms q is e h = let same : p ≡ q = cc in subst IsPartlyPlanned same h
  launch_right (no_id may last) k ms q is e h = absurd (goes_no_fault e)
  launch_right {t = t} {p = p} (starts {m = m} {leavers = leavers} {new = new} may below account) k ms q is e h =
      let same : new ≡ q = cc in
      let limited : new.limited ≡ p.limited = ap (λ (z : Planned P). z.limited) account.same in
      subst IsPartlyPlanned same
      (record { finish = account.finish; none_at_first = λ free. absurd (waits free_is (sym limited ∙ free)) })
    where
      free_is : p.limited ≡ false → p.waiting ≡ []
      free_is = h.none_at_first

      waits : (p.limited ≡ false → p.waiting ≡ []) → p.limited ≡ false → ⊥
      waits none free = grind arith

  finish_right : {t : ℕ} {ms : List (Message P)} {p : Planned P} {c : Course (Completed P) (Planned P)}
      → Finishes cmp t ms p c → IsPartlyPlanned p → Right c
  unfolding Right
  finish_right {t = t} {p = p} (all_completed {q = q} looks) h = looked_right t p q h looks
  finish_right (late is) h = tt
  finish_right (stopped is launch) h = tt
  finish_right {t = t} {p = p} (completes {m = m} {more = more} {q = q} {rest = rest} is launch finishes) h =
      grind (
        arith,
        common_steps,
        right_after,
        launch_right,
        (finish_right finishes (launch_right launch m more q refl
            refl (record { finish = h.finish; none_at_first = h.none_at_first }))),
      )

  partly : (p : Planned P) → IsPlanned cmp p → IsPartlyPlanned p
  partly p h = record { finish = h.finish; none_at_first = h.none_at_first }

  wake_right : {t : ℕ} {ms : List (Message P)} {p : Planned P} {c : Course (Completed P) (Planned P)}
      → WakesEach cmp t ms p c → IsPartlyPlanned p → Right c
  unfolding Right
  wake_right {t = t} {p = p} (all_started {q = q} looks) h = looked_right t p q h looks
  wake_right (no_start launch) h = tt
  wake_right (no_finish launch finishes) h = tt
  wake_right {p = p} (starts_one {m = m} {more = more} {q = q} {r = r} {cs = cs} {rest = rest} launch finishes wakes)
      h =
      grind (
        arith,
        common_steps,
        launch_right,
        finish_right,
        right_after,
        partly,
        (wake_right wakes (partly r (finish_right finishes (launch_right launch m more q refl refl h)))),
      )

  settle_right : {t : ℕ} {p : Planned P} {c : Course (Completed P) (Planned P)} → Settles cmp t p c
      → (p.limited ≡ false → p.waiting ≡ []) → Right c
  settle_right {t = t} {p = p} (settling {leavers = leavers} {mid = mid} account finishes) none =
      grind (arith, finish_right)

  -- ---- events

  -- something that is spent leaves
  spent_leaves : (t : ℕ) (p : Planned P) (fs : List (RatedFlight P)) (i : ℕ) (f : RatedFlight P)
      → slice_get fs i ≡ Some f → IsSpentAt t f → 0 < length (filter (is_spent cmp p.caps) (drained_to t fs))
  spent_leaves t p [] i f at spent = cc
  spent_leaves t p (g ∷ gs) zero f at spent = grind arith
  spent_leaves t p (g ∷ gs) (suc i) f at spent =
      by_bool (is_spent cmp p.caps (record g { left = left_at t g; updated = t })) (λ is. rw is (omega arith))
      (λ is. rw is (spent_leaves t p gs i f at spent))

  settle_less : {t : ℕ} {p : Planned P} {c : Course (Completed P) (Planned P)} → Settles cmp t p c
      → SomeSpentAt p.sending t → 0 < most_events p × Leaves (most_events p - 1) c
  settle_less {t = t} {p = p} {c = c} (settling {leavers = leavers} {mid = mid} account finishes) some =
      let counts : most_events mid + length leavers ≡ most_events p = account_counts t p mid leavers account in
      let out : length leavers ≡ length (filter (is_spent cmp p.caps) (drained_to t p.sending))
      = grind (arith, map_length) in
      let one : 0 < length (filter (is_spent cmp p.caps) (drained_to t p.sending)) = grind (arith, spent_leaves) in
      (omega arith, leaves_more (most_events mid) (most_events p - 1) c (omega arith) (finish_counts finishes))

  pub first_in_fronts : (m : Message P) (ws : List (Message P)) → find (same_pair cmp m) ws ≡ Some m
      → In (fronts cmp ws) m
  first_in_fronts m [] e = cc
  first_in_fronts m (x ∷ ws) e = grind (arith, in_filter, pair_sym, (first_in_fronts m ws))

  wake_event : {t : ℕ} {p : Planned P} {c : Course (Completed P) (Planned P)} → Wakes cmp t p c → SomeReadyAt cmp p t
      → 0 < most_events p × Leaves (most_events p - 1) c
  wake_event {t = t} {p = p} {c = c} wakes some =
      by_list _ (in_filter _ _ some.0 (first_in_fronts some.0 p.waiting some.1) some.2)
      (each_filter _ _ _ _ (λ m may found. (found, may)) (fronts_are_first cmp order p.waiting)) wakes
    where
      by_list : (ms : List (Message P)) → In ms some.0
          → Each (λ (m : Message P). (find (same_pair cmp m) p.waiting ≡ Some m) × (may_launch cmp t p m ≡ true)) ms
          → WakesEach cmp t ms p c → 0 < most_events p × Leaves (most_events p - 1) c
      by_list [] has all wakes = absurd has
      by_list (m ∷ ms) has all wakes = wake_less wakes m ms refl all.0.0 all.0.1

  spent_at : (p : Planned P) (t : ℕ) → IsPlanned cmp p → p.finish ≡ Some t → SomeSpentAt p.sending t
  spent_at p t h is = grind arith

  ready_at : (p : Planned P) (t : ℕ) → IsPlanned cmp p → p.finish ≢ Some t → next_event p ≡ Some t → SomeReadyAt cmp p t
  ready_at p t h not_finish is = grind (arith, common_steps, (earlier_start cmp order p.finish p.start t is not_finish))

  -- so many events, and what is left to do after them, are no more than so much
  abbrev Spends : ℕ → ℕ → Course (Completed P) (Planned P) → Type 0
  Spends events n (goes cs q) = events + most_events q ≤ n
  Spends events n (meets fault) = events ≤ n

  spends_one_more : (events m n : ℕ) (cs : List (Completed P)) (c : Course (Completed P) (Planned P)) → m < n
      → Spends events m c → Spends (events + 1) n (preceded cs c)
  spends_one_more events m n cs (goes ds q) less h = omega arith
  spends_one_more events m n cs (meets fault) less h = omega arith

  spends_none : (n : ℕ) (c : Course (Completed P) (Planned P)) → Leaves n c → Spends 0 n c
  spends_none n (goes cs q) h = omega arith
  spends_none n (meets fault) h = omega arith

  -- the events of an advance leave so much less to do
  pub events_spend : {now n : ℕ} {p : Planned P} {c : Course (Completed P) (Planned P)} → Advances cmp now p n c
      → IsPlanned cmp p → Spends n (most_events p) c
  unfolding Right
  events_spend {p = p} {c = c} (no_more before wakes) h = spends_none (most_events p) c (wake_counts wakes)
  events_spend {p = p} (at_finish {q = q} {t = t} {n = n} {cs = cs} {rest = rest} is next due event more) h =
      let less : 0 < most_events p × (most_events q ≤ most_events p - 1) = settle_less event (spent_at p t h is) in
      let after : IsPlanned cmp q = settle_right event h.none_at_first in
      let some : 0 < most_events p = less.0 in
      let fewer : most_events q ≤ most_events p - 1 = less.1 in
      spends_one_more n (most_events q) (most_events p) cs rest (omega arith) (events_spend more after)
  events_spend {p = p} (at_start {q = q} {t = t} {n = n} {cs = cs} {rest = rest} is next due event more) h =
      let less : 0 < most_events p × (most_events q ≤ most_events p - 1) = wake_event event (ready_at p t h is next) in
      let after : IsPlanned cmp q = wake_right event (record { finish = h.finish; none_at_first = h.none_at_first }) in
      let some : 0 < most_events p = less.0 in
      let fewer : most_events q ≤ most_events p - 1 = less.1 in
      spends_one_more n (most_events q) (most_events p) cs rest (omega arith) (events_spend more after)
  events_spend {p = p} (finish_stops {t = t} {fault = fault} is next due event) h =
      let some : 0 < most_events p = (settle_less event (spent_at p t h is)).0 in omega arith
  events_spend {p = p} (start_stops {t = t} {fault = fault} is next due event) h =
      let some : 0 < most_events p = (wake_event event (ready_at p t h is next)).0 in omega arith

  spends_at_most : (events n : ℕ) (c : Course (Completed P) (Planned P)) → Spends events n c → events ≤ n
  spends_at_most events n (goes cs q) h = omega arith
  spends_at_most events n (meets fault) h = h

  -- there are no more events than there is to do
  pub few_events : {now n : ℕ} {p : Planned P} {c : Course (Completed P) (Planned P)} → Advances cmp now p n c
      → IsPlanned cmp p → n ≤ most_events p
  few_events {n = n} {p = p} {c = c} advances h = spends_at_most n (most_events p) c (events_spend advances h)

  -- an advance to the next event has that event
  pub some_event : {now n : ℕ} {p : Planned P} {c : Course (Completed P) (Planned P)} → Advances cmp now p n c
      → next_event p ≡ Some now → 0 < n
  some_event {now = now} (no_more before wakes) is =
      let later : now < now = subst (λ (o : Option ℕ). IfSome o (λ t. now < t)) is before in absurd (omega arith)
  some_event _ e = omega arith

  -- ---- calls

  advance_right : {now n : ℕ} {p : Planned P} {c : Course (Completed P) (Planned P)} → Advances cmp now p n c
      → IsPlanned cmp p → Right c
  unfolding Right
  advance_right {p = p} (no_more before wakes) h = wake_right wakes (partly p h)
  advance_right {p = p} (at_finish {q = q} {cs = cs} {rest = rest} is next due event more) h =
      grind (arith, common_steps, settle_right, right_after, (advance_right more (settle_right event h.none_at_first)))
  advance_right {p = p} (at_start {q = q} {cs = cs} {rest = rest} is next due event more) h =
      let after : IsPlanned cmp q = wake_right event (record { finish = h.finish; none_at_first = h.none_at_first }) in
      right_after cs rest (advance_right more after)
  advance_right (finish_stops is next due event) h = tt
  advance_right (start_stops is next due event) h = tt

  rebalance_right : {now : ℕ} {caps : Caps P} {p : Planned P} {c : Course (Completed P) (Planned P)}
      → Rebalances cmp now caps p c → IsPlanned cmp p → Right c
  unfolding Right
  rebalance_right {now = now} {caps = caps} {p = p} (none_sending {new = new} empty looks) h =
      grind (arith, looked_right)
  rebalance_right (some_sending some event) h = settle_right event (λ free. cc)

  enqueue_right : {now : ℕ} {m : Message P} {p : Planned P} {c : Course (Completed P) (Planned P)}
      → Enqueues cmp now m p c → IsPlanned cmp p → Right c
  unfolding Right
  enqueue_right {now = now} {m = m} {p = p} (at_once free) h = grind arith
  enqueue_right (no_launch limits launch) h = tt
  enqueue_right {m = m} {p = p} (launches {leavers = leavers} {mid = mid} limits launch finishes) h =
      finish_right finishes (launch_right launch m leavers mid refl refl
      (record { finish = h.finish; none_at_first = λ free. both limits free }))
    where
      both : {A : Type 0} → p.limited ≡ true → p.limited ≡ false → A
      both on off = cc

  each_right : {now : ℕ} {ms : List (Message P)} {p : Planned P} {c : Course (Completed P) (Planned P)}
      → EnqueuesEach cmp now ms p c → IsPlanned cmp p → Right c
  unfolding Right
  each_right all_enqueued h = h
  each_right (one_stops one) h = tt
  each_right (enqueues_one {q = q} {cs = cs} {rest = rest} one more) h =
      grind (arith, enqueue_right, right_after, (each_right more))

  -- what is planned is right after each call
  pub obeys_right : (p : Planned P) (call : Call P) (c : Course (Completed P) (Planned P)) → IsPlanned cmp p
      → Obeys cmp p call c → (cs : List (Completed P)) (q : Planned P) → c ≡ goes cs q → IsPlanned cmp q
  unfolding Right
  obeys_right p call c h obeys cs q e = subst Right e (by_call call obeys)
    where
      by_call : (call : Call P) → Obeys cmp p call c → Right c
      by_call (call_limit now peer egress ingress) obeys = rebalance_right obeys h
      by_call (call_limit_link now origin recipient cap) obeys = rebalance_right obeys h
      by_call (call_enqueue now m) obeys = enqueue_right obeys h
      by_call (call_enqueue_all now ms) obeys = each_right obeys h
      by_call (call_advance now) obeys = advance_right obeys.1 h
      by_call call_next obeys = subst Right (sym obeys) h

  pub new_is_planned : (id : ℕ) → IsPlanned cmp (new_planned id)
  new_is_planned id = grind arith
