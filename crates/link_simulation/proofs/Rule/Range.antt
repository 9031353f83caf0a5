-- In the range no call meets a fault, and it leaves the planned world in the range.
use Rattle.link_simulation.proofs.Common.{common_steps, ◌≡◌, ℕ, ◌+◌, ◌<◌, ◌≤◌, ◌^◌, List, [], ◌∷◌, ◌++◌, length, Bool}
use Rattle.link_simulation.proofs.Common.{true, Option, Some, None, refl, sym, subst, arith, filter, AllZip, Ordering}
use Rattle.link_simulation.proofs.Common.{IsTotalOrder, whole, Message, Caps, Completed, Course, goes, meets}
use Rattle.link_simulation.proofs.Common.{last_moment, preceded, is_late, completed, Planned, RatedFlight}
use Rattle.link_simulation.proofs.Common.{rated_messages, drained_to, next_of, queued, Accounts, PlansStart, Launches}
use Rattle.link_simulation.proofs.Common.{nothing_waits, too_early, no_id, starts, Finishes, all_completed, late}
use Rattle.link_simulation.proofs.Common.{stopped, completes, WakesEach, all_started, no_start, no_finish, starts_one}
use Rattle.link_simulation.proofs.Common.{Settles, settling, Rebalances, none_sending, some_sending, Enqueues, at_once}
use Rattle.link_simulation.proofs.Common.{no_launch, launches, completed_at_once, with_queued, Advances, no_more}
use Rattle.link_simulation.proofs.Common.{at_finish, at_start, finish_stops, start_stops, launched, landed, Each}
use Rattle.link_simulation.proofs.Common.{each_joined, each_map, each_filtered}
use Rattle.fairness.proofs.Lists.Each.{each_find, each_without}
use Rattle.link_simulation.proofs.Simulation.SettlingEnds.{find_like, length_without}
use Rattle.link_simulation.proofs.Simulation.Queue.{find_passes}

-- a message whose latency is in the range
abbrev pub IsNear : {P : Type 0} → Message P → Type 0
IsNear m = m.latency < 2 ^ 63

-- and one in flight
abbrev pub IsNearFlight : {P : Type 0} → RatedFlight P → Type 0
IsNearFlight f = IsNear f.message

-- ---- an account

drained_near : {P : Type 0} (t : ℕ) (fs : List (RatedFlight P)) → Each IsNearFlight fs
    → Each IsNearFlight (drained_to t fs)
drained_near t [] near = tt
drained_near t (f ∷ fs) near = (near.0, drained_near t fs near.1)

stays_near : {P : Type 0} (t : ℕ) (fs gs : List (RatedFlight P))
    → AllZip (λ f g. (g.id ≡ f.id) × (g.message ≡ f.message) × (g.left ≡ f.left) × (g.updated ≡ t)) fs gs
    → Each IsNearFlight fs → Each IsNearFlight gs
stays_near t [] [] all near = tt
stays_near t [] (g ∷ gs) all near = absurd all
stays_near t (f ∷ fs) [] all near = absurd all
stays_near {P} t (f ∷ fs) (g ∷ gs) all near =
    (subst (λ (m : Message P). IsNear m) (sym all.0.1) near.0, stays_near t fs gs all.1 near.1)

leavers_near : {P : Type 0} (fs : List (RatedFlight P)) → Each IsNearFlight fs → Each IsNear (rated_messages fs)
leavers_near [] near = tt
leavers_near (f ∷ fs) near = (near.0, leavers_near fs near.1)

some_near : {P : Type 0} (t : ℕ) (test : RatedFlight P → Bool) (fs : List (RatedFlight P)) → Each IsNearFlight fs
    → Each IsNearFlight (filter test (drained_to t fs))
some_near t test fs near = grind (arith, each_map, each_filtered, drained_near)

both_leave : {P : Type 0} (ms ns : List (Message P)) → Each IsNear ms → Each IsNear ns → Each IsNear (ms ++ ns)
both_leave [] ns e f = f
both_leave (m ∷ ms) ns e f = (e.0, both_leave ms ns e.1 f)

module _ {P : Type 0} (cmp : P → P → Ordering) (order : IsTotalOrder cmp) (most : ℕ) (room : most < 2 ^ 64) where
  -- in the range, with at most so many ids that are taken or that waiting messages need
  pub record Holds (p : Planned P) : Type 0 where
    pub sending : Each IsNearFlight p.sending
    pub waiting : Each IsNear p.waiting
    pub ids : p.next_id + length p.waiting ≤ most

  -- it goes, and ends in such a world
  abbrev pub GoesWell : Course (Completed P) (Planned P) → Type 0
  GoesWell (goes cs q) = Holds q
  GoesWell (meets fault) = ⊥

  pub goes_on : (cs : List (Completed P)) (c : Course (Completed P) (Planned P)) → GoesWell c → GoesWell (preceded cs c)
  goes_on cs (goes ds q) h = h
  goes_on cs (meets fault) h = h

  account_holds : (t : ℕ) (old new : Planned P) (leavers : List (Message P)) → Holds old
      → Accounts cmp t old leavers new → Each IsNear leavers × Holds new
  account_holds t old new leavers h account = grind (arith, stays_near, some_near, leavers_near)

  -- ---- a launch

  launched_holds : (t : ℕ) (p : Planned P) (k m : Message P) → Holds p → next_of cmp p k ≡ Some m
      → Holds (launched cmp t p m)
  launched_holds t p k m h found =
      grind (arith, find_like, find_passes, length_without, each_joined, whole, each_find, each_without)

  -- a launch goes, and what leaves is in the range
  unfoldable LaunchesWell : Course (Message P) (Planned P) → Type 0
  LaunchesWell (goes ms q) = Each IsNear ms × Holds q
  LaunchesWell (meets fault) = ⊥

  has_id : (p : Planned P) (k m : Message P) → Holds p → next_of cmp p k ≡ Some m → last_moment ≤ p.next_id → ⊥
  has_id p k m h found last = grind (arith, length_without)

  launches_well : {t : ℕ} {p : Planned P} {o : Option (Message P)} {c : Course (Message P) (Planned P)}
      → Launches cmp t p o c → (k : Message P) → next_of cmp p k ≡ o → Holds p → LaunchesWell c
  unfolding LaunchesWell
  launches_well nothing_waits k is h = (tt, h)
  launches_well (too_early e) k is h = (tt, h)
  launches_well {p = p} (no_id {m = m} may last) k is h = has_id p k m h is last
  launches_well {t = t} {p = p} (starts {m = m} {leavers = leavers} {new = new} may below account) k is h =
      account_holds t (launched cmp t p m) new leavers (launched_holds t p k m h is) account

  -- ---- finishes

  landed_holds : (t : ℕ) (p : Planned P) (m : Message P) → Holds p → Holds (landed cmp t p m)
  landed_holds t p m h = record { sending = h.sending; waiting = h.waiting; ids = h.ids }

  not_late : (t : ℕ) (m : Message P) → t < 2 ^ 63 → IsNear m → is_late cmp t m ≡ true → ⊥
  not_late t m early near e = grind arith

  looked_holds : (t : ℕ) (p q : Planned P) → Holds p → PlansStart cmp t p q → Holds q
  looked_holds t p q h looks =
      subst Holds (sym looks.same) (record { sending = h.sending; waiting = h.waiting; ids = h.ids })

  finishes_well : {t : ℕ} {ms : List (Message P)} {p : Planned P} {c : Course (Completed P) (Planned P)}
      → Finishes cmp t ms p c → t < 2 ^ 63 → Each IsNear ms → Holds p → GoesWell c
  unfolding LaunchesWell
  finishes_well {t = t} {p = p} (all_completed {q = q} looks) early leave h = looked_holds t p q h looks
  finishes_well {t = t} (late {m = m} is) early leave h = not_late t m early leave.0 is
  finishes_well {t = t} {p = p} (stopped {m = m} is launch) early leave h =
      launches_well launch m refl (landed_holds t p m h)
  finishes_well {t = t} {p = p} (completes {m = m} {ms = ms} {more = more} {q = q} {rest = rest} is launch finishes)
      early leave h =
      let next : Each IsNear more × Holds q = launches_well launch m refl (landed_holds t p m h) in
      goes_on (completed cmp t m ∷ []) rest (finishes_well finishes early (both_leave ms more leave.1 next.0) next.1)

  -- ---- wakes

  wakes_well : {t : ℕ} {ms : List (Message P)} {p : Planned P} {c : Course (Completed P) (Planned P)}
      → WakesEach cmp t ms p c → t < 2 ^ 63 → Holds p → GoesWell c
  unfolding LaunchesWell
  wakes_well {t = t} {p = p} (all_started {q = q} looks) early h = looked_holds t p q h looks
  wakes_well (no_start {m = m} launch) early h = launches_well launch m refl h
  wakes_well (no_finish {m = m} {more = more} {q = q} launch finishes) early h =
      let next : Each IsNear more × Holds q = launches_well launch m refl h in
      finishes_well finishes early next.0 next.1
  wakes_well (starts_one {m = m} {more = more} {q = q} {r = r} {cs = cs} {rest = rest} launch finishes wakes) early h =
      grind (
        arith,
        common_steps,
        launches_well,
        finishes_well,
        goes_on,
        (wakes_well wakes early
            (finishes_well finishes early (launches_well launch m refl h).0 (launches_well launch m refl h).1)),
      )

  -- ---- settlings

  settles_well : {t : ℕ} {p : Planned P} {c : Course (Completed P) (Planned P)} → Settles cmp t p c → t < 2 ^ 63
      → Holds p → GoesWell c
  settles_well {t = t} {p = p} (settling {leavers = leavers} {mid = mid} account finishes) early h =
      let after : Each IsNear leavers × Holds mid = account_holds t p mid leavers h account in
      finishes_well finishes early after.0 after.1

  -- ---- an advance

  unplanned : (p : Planned P) (finish start : Option ℕ) → Holds p → Holds (record p { finish = finish; start = start })
  unplanned p finish start h = record { sending = h.sending; waiting = h.waiting; ids = h.ids }

  pub advances_well : {now n : ℕ} {p : Planned P} {c : Course (Completed P) (Planned P)} → Advances cmp now p n c
      → now < 2 ^ 63 → Holds p → GoesWell c
  advances_well (no_more before wakes) early h = wakes_well wakes early h
  advances_well {p = p} (at_finish {q = q} {t = t} {cs = cs} {rest = rest} is next due event more) early h =
      let after : Holds q = settles_well event (omega arith) (unplanned p None p.start h) in
      goes_on cs rest (advances_well more early after)
  advances_well {p = p} (at_start {q = q} {t = t} {cs = cs} {rest = rest} is next due event more) early h =
      let after : Holds q = wakes_well event (omega arith) (unplanned p p.finish None h) in
      goes_on cs rest (advances_well more early after)
  advances_well {p = p} (finish_stops is next due event) early h =
      settles_well event (omega arith) (unplanned p None p.start h)
  advances_well {p = p} (start_stops is next due event) early h = grind (arith, wakes_well, unplanned)

  -- ---- new caps

  rebalanced : (p : Planned P) (caps : Caps P) → Holds p → Holds (record p { caps = caps; limited = true })
  rebalanced p caps h = record { sending = h.sending; waiting = h.waiting; ids = h.ids }

  pub rebalances_well : {now : ℕ} {caps : Caps P} {p : Planned P} {c : Course (Completed P) (Planned P)}
      → Rebalances cmp now caps p c → now < 2 ^ 63 → Holds p → GoesWell c
  rebalances_well {now = now} {caps = caps} {p = p} (none_sending {new = new} empty looks) early h =
      looked_holds now (record p { caps = caps; limited = true }) new (rebalanced p caps h) looks
  rebalances_well {caps = caps} {p = p} (some_sending some event) early h =
      settles_well event early (rebalanced p caps h)

  -- ---- a message

  queued_each : (Q : Message P → Type 0) (m : Message P) (ms : List (Message P)) → Q m → Each Q ms
      → Each Q (queued cmp m ms)
  queued_each Q m [] own all = (own, tt)
  queued_each Q m (n ∷ ns) own all = grind (arith, (queued_each Q m ns own))

  queued_length : (m : Message P) (ms : List (Message P)) → length (queued cmp m ms) ≡ length ms + 1
  queued_length m [] = refl
  queued_length m (n ∷ ns) = grind (arith, (queued_length m ns))

  queued_holds : (p : Planned P) (m : Message P) → IsNear m → p.next_id + length p.waiting + 1 ≤ most → Holds p
      → Holds (with_queued cmp p m)
  queued_holds p m near fits h = grind (arith, queued_each, queued_length)

  at_once_well : (now : ℕ) (p : Planned P) (m : Message P) → now < 2 ^ 63 → IsNear m → Holds p
      → GoesWell (completed_at_once cmp now p m)
  at_once_well now p m early near h = grind arith

  pub enqueues_well : {now : ℕ} {m : Message P} {p : Planned P} {c : Course (Completed P) (Planned P)}
      → Enqueues cmp now m p c → now < 2 ^ 63 → IsNear m
      → p.next_id + length p.waiting + 1 ≤ most → Holds p → GoesWell c
  unfolding LaunchesWell
  enqueues_well {now = now} {m = m} {p = p} (at_once free) early near fits h = at_once_well now p m early near h
  enqueues_well {m = m} {p = p} (no_launch limits launch) early near fits h =
      launches_well launch m refl (queued_holds p m near fits h)
  enqueues_well {m = m} {p = p} (launches {leavers = leavers} {mid = mid} limits launch finishes) early near fits h =
      let next : Each IsNear leavers × Holds mid = launches_well launch m refl (queued_holds p m near fits h) in
      finishes_well finishes early next.0 next.1
