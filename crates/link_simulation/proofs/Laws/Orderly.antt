-- Each call keeps a planned world in order.
use Rattle.link_simulation.proofs.Common.{arith, ◌≡◌, ℕ, List, [], ◌∷◌, Bool, true, false, Option, Some, None, refl}
use Rattle.link_simulation.proofs.Common.{sym, ap, subst, filter, list_any, AllZip, Ordering, IsTotalOrder, map-append}
use Rattle.link_simulation.proofs.Common.{Message, Caps, CapsAlike, PairsAlike, OneForEachPair, same_pair, Completed}
use Rattle.link_simulation.proofs.Common.{Course, goes, EndsWith, completed, Call, call_limit, call_limit_link}
use Rattle.link_simulation.proofs.Common.{call_enqueue, call_advance, call_enqueue_all, call_next, limited_by}
use Rattle.link_simulation.proofs.Common.{linked_by, Planned, RatedFlight, new_planned, rated_messages, drained_to}
use Rattle.link_simulation.proofs.Common.{next_of, AreInPairOrder, may_launch, Accounts, PlansStart, Launches}
use Rattle.link_simulation.proofs.Common.{nothing_waits, too_early, no_id, starts, Finishes, all_completed, late}
use Rattle.link_simulation.proofs.Common.{stopped, completes, WakesEach, all_started, no_start, no_finish, starts_one}
use Rattle.link_simulation.proofs.Common.{Settles, settling, Rebalances, none_sending, some_sending, Enqueues, at_once}
use Rattle.link_simulation.proofs.Common.{no_launch, launches, Advances, no_more, at_finish, at_start, finish_stops}
use Rattle.link_simulation.proofs.Common.{start_stops, launched, landed, with_queued, Obeys, EnqueuesEach, all_enqueued}
use Rattle.link_simulation.proofs.Common.{one_stops, enqueues_one, IsOrderly, common_steps}
use Rattle.link_simulation.proofs.Rule.SameSteps.{linked_by_same, limited_by_same}
use Rattle.link_simulation.proofs.Simulation.AlikeMessages.{same_itself}
use Rattle.link_simulation.proofs.Simulation.Queue.{one_pair_more}
use Rattle.link_simulation.proofs.Simulation.SettlingEnds.{ends_preceded, goes_no_fault}
use Rattle.link_simulation.proofs.Simulation.Sound.{raised_peerwise}
use Rattle.link_simulation.proofs.Rule.Limit.{no_sides}
use Rattle.link_simulation.proofs.Rule.Launch.{pair_order_without}
use Rattle.link_simulation.proofs.Rule.Enqueue.{queued_in_order}

-- ---- what is in flight

pub drained_messages : {P : Type 0} (t : ℕ) (fs : List (RatedFlight P))
    → rated_messages (drained_to t fs) ≡ rated_messages fs
drained_messages t [] = refl
drained_messages t (f ∷ fs) = ap (λ ms. f.message ∷ ms) (drained_messages t fs)

-- how a message that stays was drained
abbrev pub Stays : {P : Type 0} → ℕ → RatedFlight P → RatedFlight P → Type 0
Stays t f g = (g.id ≡ f.id) × (g.message ≡ f.message) × (g.left ≡ f.left) × (g.updated ≡ t)

pub stayed_messages : {P : Type 0} (t : ℕ) (fs gs : List (RatedFlight P)) → AllZip (Stays t) fs gs
    → rated_messages gs ≡ rated_messages fs
stayed_messages t [] [] all = refl
stayed_messages t [] (g ∷ gs) all = absurd all
stayed_messages t (f ∷ fs) [] all = absurd all
stayed_messages t (f ∷ fs) (g ∷ gs) all = rw (all.0.1, stayed_messages t fs gs all.1) refl

none_stays : {P : Type 0} (t : ℕ) (gs : List (RatedFlight P)) → AllZip (Stays t) [] gs → gs ≡ []
none_stays t [] all = refl
none_stays t (g ∷ gs) all = absurd all

pub any_of_fewer : {P : Type 0} (p : Message P → Bool) (test : RatedFlight P → Bool) (fs : List (RatedFlight P))
    → list_any p (rated_messages fs) ≡ false → list_any p (rated_messages (filter test fs)) ≡ false
any_of_fewer p test [] e = refl
any_of_fewer {P} p test (f ∷ fs) e = grind (arith, (any_of_fewer p test fs))

module _ {P : Type 0} (cmp : P → P → Ordering) (order : IsTotalOrder cmp) where
  pub one_of_fewer : (test : RatedFlight P → Bool) (fs : List (RatedFlight P)) → OneForEachPair cmp (rated_messages fs)
      → OneForEachPair cmp (rated_messages (filter test fs))
  one_of_fewer test [] one = tt
  one_of_fewer test (f ∷ fs) one = grind (arith, any_of_fewer, (one_of_fewer test fs))

  -- in order but for the rates
  pub record IsSteady (p : Planned P) : Type 0 where
    pub one_each : OneForEachPair cmp (rated_messages p.sending)
    pub pair_order : AreInPairOrder cmp p.waiting
    pub empty_at_first : p.limited ≡ false → (p.sending ≡ []) × (p.waiting ≡ [])
    pub caps : CapsAlike cmp p.caps p.caps
    pub last_arrival : PairsAlike cmp p.last_arrival p.last_arrival

  pub steady : (p : Planned P) → IsOrderly cmp p → IsSteady p
  steady p h = grind arith

  -- ---- the steps

  pub account_orderly : (t : ℕ) (old new : Planned P) (leavers : List (Message P)) → Accounts cmp t old leavers new
      → IsSteady old → IsOrderly cmp new
  account_orderly t old new leavers a h = grind (arith, stayed_messages, one_of_fewer, drained_messages, none_stays)

  look_orderly : (t : ℕ) (p q : Planned P) → PlansStart cmp t p q → IsOrderly cmp p → IsOrderly cmp q
  look_orderly t p q looks h = subst (IsOrderly cmp) (sym looks.same) (record {
    rated = record { per = h.rated.per; rates = h.rated.rates; fair = h.rated.fair; rated = h.rated.rated };
    one_each = h.one_each;
    pair_order = h.pair_order;
    empty_at_first = h.empty_at_first;
    caps = h.caps;
    last_arrival = h.last_arrival;
  })

  -- a message that may start is of an idle pair
  pub idle_if_may : (t : ℕ) (p : Planned P) (m : Message P) → may_launch cmp t p m ≡ true
      → list_any (same_pair cmp m) (rated_messages p.sending) ≡ false
  idle_if_may t p m e = grind arith

  pub launched_steady : (t : ℕ) (p : Planned P) (k m : Message P) → next_of cmp p k ≡ Some m
      → may_launch cmp t p m ≡ true → IsSteady p → IsSteady (launched cmp t p m)
  launched_steady t p k m found may h = grind (arith, map-append, one_pair_more, idle_if_may, pair_order_without)

  pub launch_orderly : {t : ℕ} {p : Planned P} {o : Option (Message P)} {c : Course (Message P) (Planned P)}
      → Launches cmp t p o c
      → (k : Message P) (ms : List (Message P)) (q : Planned P) → next_of cmp p k ≡ o → c ≡ goes ms q → IsOrderly cmp p
      → IsOrderly cmp q
  launch_orderly {p = p} nothing_waits k ms q is e h = let same : p ≡ q = cc in subst (IsOrderly cmp) same h
  launch_orderly {p = p} (too_early may) k ms q is e h = let same : p ≡ q = cc in subst (IsOrderly cmp) same h
  launch_orderly (no_id may last) k ms q is e h = absurd (goes_no_fault e)
  launch_orderly {t = t} {p = p} (starts {m = m} {leavers = leavers} {new = new} may below account) k ms q is e h =
      grind (
        arith,
        common_steps,
        (account_orderly t (launched cmp t p m) new leavers account (launched_steady t p k m is may (steady p h))),
      )

  pub landed_orderly : (t : ℕ) (p : Planned P) (m : Message P) → IsOrderly cmp p → IsOrderly cmp (landed cmp t p m)
  landed_orderly t p m h = grind (arith, raised_peerwise)

  pub finish_orderly : {t : ℕ} {ms : List (Message P)} {p : Planned P} {c : Course (Completed P) (Planned P)}
      → Finishes cmp t ms p c → IsOrderly cmp p → EndsWith (IsOrderly cmp) c
  finish_orderly {t = t} {p = p} (all_completed {q = q} looks) h = look_orderly t p q looks h
  finish_orderly (late is) h = tt
  finish_orderly (stopped is launch) h = tt
  finish_orderly {t = t} {p = p} (completes {m = m} {more = more} {q = q} {rest = rest} is launch finishes) h =
      ends_preceded (IsOrderly cmp) (completed cmp t m ∷ []) rest
      (finish_orderly finishes (launch_orderly launch m more q refl refl (landed_orderly t p m h)))

  pub wake_orderly : {t : ℕ} {ms : List (Message P)} {p : Planned P} {c : Course (Completed P) (Planned P)}
      → WakesEach cmp t ms p c → IsOrderly cmp p → EndsWith (IsOrderly cmp) c
  wake_orderly {t = t} {p = p} (all_started {q = q} looks) h = look_orderly t p q looks h
  wake_orderly (no_start launch) h = tt
  wake_orderly (no_finish launch finishes) h = tt
  wake_orderly (starts_one {m = m} {more = more} {q = q} {r = r} {cs = cs} {rest = rest} launch finishes wakes) h =
      let after : IsOrderly cmp r = finish_orderly finishes (launch_orderly launch m more q refl refl h) in
      ends_preceded (IsOrderly cmp) cs rest (wake_orderly wakes after)

  pub settle_orderly : {t : ℕ} {p : Planned P} {c : Course (Completed P) (Planned P)} → Settles cmp t p c → IsSteady p
      → EndsWith (IsOrderly cmp) c
  settle_orderly {t = t} {p = p} (settling {leavers = leavers} {mid = mid} account finishes) h =
      finish_orderly finishes (account_orderly t p mid leavers account h)

  -- ---- the calls

  -- but for what is planned
  pub no_finish_steady : (p : Planned P) → IsOrderly cmp p → IsSteady (record p { finish = None })
  no_finish_steady p h = grind arith

  pub no_start_orderly : (p : Planned P) → IsOrderly cmp p → IsOrderly cmp (record p { start = None })
  no_start_orderly p h = grind arith

  advance_orderly : {now n : ℕ} {p : Planned P} {c : Course (Completed P) (Planned P)} → Advances cmp now p n c
      → IsOrderly cmp p → EndsWith (IsOrderly cmp) c
  advance_orderly (no_more before wakes) h = wake_orderly wakes h
  advance_orderly {p = p} (at_finish {q = q} {cs = cs} {rest = rest} is next due event more) h =
      let after : IsOrderly cmp q = settle_orderly event (no_finish_steady p h) in
      ends_preceded (IsOrderly cmp) cs rest (advance_orderly more after)
  advance_orderly {p = p} (at_start {q = q} {cs = cs} {rest = rest} is next due event more) h =
      let after : IsOrderly cmp q = wake_orderly event (no_start_orderly p h) in
      ends_preceded (IsOrderly cmp) cs rest (advance_orderly more after)
  advance_orderly (finish_stops is next due event) h = tt
  advance_orderly (start_stops is next due event) h = tt

  pub recapped_steady : (p : Planned P) (caps : Caps P) → CapsAlike cmp caps caps → IsOrderly cmp p
      → IsSteady (record p { caps = caps; limited = true })
  recapped_steady p caps alike h = grind arith

  rebalance_orderly : {now : ℕ} {caps : Caps P} {p : Planned P} {c : Course (Completed P) (Planned P)}
      → Rebalances cmp now caps p c → CapsAlike cmp caps caps → IsOrderly cmp p → EndsWith (IsOrderly cmp) c
  rebalance_orderly {now = now} {caps = caps} {p = p} (none_sending {new = new} empty looks) alike h = grind arith
  rebalance_orderly {caps = caps} {p = p} (some_sending some event) alike h =
      settle_orderly event (recapped_steady p caps alike h)

  pub queued_orderly : (p : Planned P) (m : Message P) → p.limited ≡ true → IsOrderly cmp p
      → IsOrderly cmp (with_queued cmp p m)
  queued_orderly p m limits h = grind (arith, queued_in_order)

  enqueue_orderly : {now : ℕ} {m : Message P} {p : Planned P} {c : Course (Completed P) (Planned P)}
      → Enqueues cmp now m p c → IsOrderly cmp p → EndsWith (IsOrderly cmp) c
  enqueue_orderly {now = now} {m = m} {p = p} (at_once free) h = grind arith
  enqueue_orderly (no_launch limits launch) h = tt
  enqueue_orderly {m = m} {p = p} (launches {leavers = leavers} {mid = mid} limits launch finishes) h =
      finish_orderly finishes (launch_orderly launch m leavers mid refl refl (queued_orderly p m limits h))

  each_orderly : {now : ℕ} {ms : List (Message P)} {p : Planned P} {c : Course (Completed P) (Planned P)}
      → EnqueuesEach cmp now ms p c → IsOrderly cmp p → EndsWith (IsOrderly cmp) c
  each_orderly all_enqueued h = h
  each_orderly (one_stops one) h = tt
  each_orderly (enqueues_one {cs = cs} {rest = rest} one more) h =
      ends_preceded (IsOrderly cmp) cs rest (each_orderly more (enqueue_orderly one h))

  pub limited_by_alike : (caps : Caps P) (peer : P) (egress ingress : Option ℕ) → CapsAlike cmp caps caps
      → CapsAlike cmp (limited_by cmp caps peer egress ingress) (limited_by cmp caps peer egress ingress)
  limited_by_alike caps peer egress ingress h = grind (arith, limited_by_same, same_itself)

  pub linked_by_alike : (caps : Caps P) (origin recipient : P) (cap : Option ℕ) → CapsAlike cmp caps caps
      → CapsAlike cmp (linked_by cmp caps origin recipient cap) (linked_by cmp caps origin recipient cap)
  linked_by_alike caps origin recipient cap h = grind (arith, linked_by_same, same_itself)

  call_orderly : (p : Planned P) (call : Call P) (c : Course (Completed P) (Planned P)) → Obeys cmp p call c
      → IsOrderly cmp p → EndsWith (IsOrderly cmp) c
  call_orderly p (call_limit now peer egress ingress) c obeys h = grind (arith, rebalance_orderly, limited_by_alike)
  call_orderly p (call_limit_link now origin recipient cap) c obeys h =
      rebalance_orderly obeys (linked_by_alike p.caps origin recipient cap h.caps) h
  call_orderly p (call_enqueue now m) c obeys h = enqueue_orderly obeys h
  call_orderly p (call_enqueue_all now ms) c obeys h = each_orderly obeys h
  call_orderly p (call_advance now) c obeys h = advance_orderly obeys.1 h
  call_orderly p call_next c obeys h = subst (EndsWith (IsOrderly cmp)) (sym obeys) h

  -- each call that goes keeps a planned world in order
  pub obeys_orderly : (p q : Planned P) (call : Call P) (cs : List (Completed P)) → Obeys cmp p call (goes cs q)
      → IsOrderly cmp p → IsOrderly cmp q
  obeys_orderly p q call cs obeys h = call_orderly p call (goes cs q) obeys h

  pub new_orderly : (id : ℕ) → IsOrderly cmp (new_planned id)
  new_orderly id = grind (arith, no_sides)
