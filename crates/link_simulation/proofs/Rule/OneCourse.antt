-- By the event rule a call has one course, and an advance one number of events.
use Rattle.link_simulation.proofs.Common.{common_steps, ◌≡◌, ◌≢◌, ℕ, suc, ◌+◌, ◌*◌, ◌<◌, ◌≤◌, List, [], ◌∷◌, ◌++◌, true}
use Rattle.link_simulation.proofs.Common.{false, Option, Some, None, refl, sym, ap, ◌∙◌, subst, arith, ◌⊎◌, inl, inr}
use Rattle.link_simulation.proofs.Common.{IfSome, AllZip, Ordering, IsTotalOrder, Error, MomentTooLate, FlowIdsUsedUp}
use Rattle.link_simulation.proofs.Common.{Message, Caps, Parts, rate_of, AreFair, Completed, Course, goes, meets}
use Rattle.link_simulation.proofs.Common.{last_moment, preceded, is_late, completed, Call, call_limit, call_limit_link}
use Rattle.link_simulation.proofs.Common.{call_enqueue, call_advance, call_enqueue_all, call_next, Planned, RatedFlight}
use Rattle.link_simulation.proofs.Common.{IsLeastMoment, next_event, rated_messages, SomeSpentAt, next_of, may_launch}
use Rattle.link_simulation.proofs.Common.{Accounts, PlansStart, launched, Launches, nothing_waits, too_early, no_id}
use Rattle.link_simulation.proofs.Common.{starts, landed, Finishes, all_completed, late, stopped, completes, WakesEach}
use Rattle.link_simulation.proofs.Common.{all_started, no_start, no_finish, starts_one, Wakes, Settles, settling}
use Rattle.link_simulation.proofs.Common.{Rebalances, none_sending, some_sending, Enqueues, at_once, no_launch}
use Rattle.link_simulation.proofs.Common.{launches, Advances, no_more, at_finish, at_start, finish_stops, start_stops}
use Rattle.link_simulation.proofs.Common.{Obeys, EnqueuesEach, all_enqueued, one_stops, enqueues_one}
use Rattle.fairness.specs.Numbers.LowestTerms.{reduced_same}
use Rattle.link_simulation.proofs.Simulation.AlikeMessages.{same_itself}
use Rattle.link_simulation.proofs.Simulation.Rates.{Match, rates_match}

-- ---- least moments

-- a least moment is one
pub least_is_one : (Q : ℕ → Type 0) (a b : Option ℕ) → IsLeastMoment Q a → IsLeastMoment Q b → a ≡ b
least_is_one Q None None e f = refl
least_is_one Q None (Some t) e f = absurd (e t f.0 f.1)
least_is_one Q (Some s) None e f = absurd (f s e.0 e.1)
least_is_one Q (Some s) (Some t) e f = grind arith

-- ---- an account

abbrev Stay : {P : Type 0} → ℕ → RatedFlight P → RatedFlight P → Type 0
Stay t f g = (g.id ≡ f.id) × (g.message ≡ f.message) × (g.left ≡ f.left) × (g.updated ≡ t)

rate_is_one : (x y : Option ℕ) (d e : ℕ) → 0 < d → 0 < e
    → ((a : ℕ) → x ≡ Some a → (b : ℕ) × (y ≡ Some b) × (a * e ≡ b * d))
    → ((b : ℕ) → y ≡ Some b → (a : ℕ) × (x ≡ Some a) × (b * d ≡ a * e)) → rate_of d x ≡ rate_of e y
rate_is_one None None d e i j to from = refl
rate_is_one None (Some b) d e i j to from = let g : (a : ℕ) × (None ≡ Some a) × (b * d ≡ a * e) = from b refl in cc
rate_is_one (Some a) None d e i j to from = let g : (b : ℕ) × (None ≡ Some b) × (a * e ≡ b * d) = to a refl in cc
rate_is_one (Some a) (Some b) d e i j to from =
    let g : (c : ℕ) × (Some b ≡ Some c) × (a * e ≡ c * d) = to a refl in
    let same : g.0 ≡ b = cc in
    ap Some (reduced_same a d b e i j (g.2 ∙ ap (λ c. c * d) same))

-- those that stay, with rates that match
sending_is_one : {P : Type 0} (t : ℕ) (xs ys : Parts) (d e : ℕ) (bs fs gs : List (RatedFlight P)) → 0 < d → 0 < e
    → AllZip (Stay t) bs fs → AllZip (Stay t) bs gs
    → AllZip (λ rate f. f.rate ≡ rate_of d rate) xs fs → AllZip (λ rate f. f.rate ≡ rate_of e rate) ys gs
    → Match xs ys d e → Match ys xs e d → fs ≡ gs
sending_is_one t xs ys d e [] [] [] i j h k r s to from = refl
sending_is_one t xs ys d e [] [] (g ∷ gs) i j h k r s to from = absurd k
sending_is_one t xs ys d e [] (f ∷ fs) gs i j h k r s to from = absurd h
sending_is_one t xs ys d e (b ∷ bs) [] gs i j h k r s to from = absurd h
sending_is_one t xs ys d e (b ∷ bs) (f ∷ fs) [] i j h k r s to from = absurd k
sending_is_one t [] ys d e (b ∷ bs) (f ∷ fs) (g ∷ gs) i j h k r s to from = absurd r
sending_is_one t (x ∷ xs) [] d e (b ∷ bs) (f ∷ fs) (g ∷ gs) i j h k r s to from = absurd s
sending_is_one {P} t (x ∷ xs) (y ∷ ys) d e (b ∷ bs) (f ∷ fs) (g ∷ gs) i j h k r s to from =
    let rate = rate_is_one x y d e i j (λ a is. head x y a e d (to 0 a (ap Some is)))
    (λ c is. head y x c d e (from 0 c (ap Some is))) in
    let rest = sending_is_one t xs ys d e bs fs gs i j h.1 k.1 r.1 s.1 (λ n. to (suc n)) (λ n. from (suc n)) in
    let id : f.id ≡ g.id = h.0.0 ∙ sym k.0.0 in
    let message : f.message ≡ g.message = h.0.1 ∙ sym k.0.1 in
    let left : f.left ≡ g.left = h.0.2 ∙ sym k.0.2 in
    let own : f.rate ≡ g.rate = r.0 ∙ rate ∙ sym s.0 in
    let updated : f.updated ≡ g.updated = h.0.3 ∙ sym k.0.3 in
    λ n. record { id = id n; message = message n; left = left n; rate = own n; updated = updated n } ∷ rest n
  where
    head : (x z : Option ℕ) (a p q : ℕ) → (b : ℕ) × (Some z ≡ Some (Some b)) × (a * p ≡ b * q) → (b : ℕ) × (z ≡ Some b)
        × (a * p ≡ b * q)
    head x z a p q (b, is, e) = (b, cc, e)

stays_flows : {P : Type 0} (t : ℕ) (bs fs : List (RatedFlight P)) → AllZip (Stay t) bs fs
    → rated_messages fs ≡ rated_messages bs
stays_flows t [] [] all = refl
stays_flows t [] (f ∷ fs) all = absurd all
stays_flows t (b ∷ bs) [] all = absurd all
stays_flows t (b ∷ bs) (f ∷ fs) all = rw (all.0.1, stays_flows t bs fs all.1) refl

module _ {P : Type 0} (cmp : P → P → Ordering) (order : IsTotalOrder cmp) where
  pub account_is_one : (t : ℕ) (old new other : Planned P) (ls ms : List (Message P)) → Accounts cmp t old ls new
      → Accounts cmp t old ms other → goes ls new ≡ goes ms other
  account_is_one t old new other ls ms f g =
      let flows : rated_messages other.sending ≡ rated_messages new.sending = grind (arith, stays_flows) in
      let fair : AreFair cmp old.caps (rated_messages new.sending) g.per g.rates = grind arith in
      let sending = sending_is_one t f.rates g.rates f.per g.per _ new.sending other.sending f.fair.fair.some_part
      g.fair.fair.some_part f.stayed g.stayed f.rated g.rated (rates_match cmp (same_itself cmp order) old.caps _ f.per
      g.per f.rates g.rates f.fair fair) (rates_match cmp (same_itself cmp order) old.caps _ g.per f.per g.rates f.rates
      fair f.fair) in
      let finish = least_is_one _ new.finish other.finish f.finish
      (subst (λ (fs : List (RatedFlight P)). IsLeastMoment (SomeSpentAt fs) other.finish) (sym sending) g.finish) in
      let here : record old { sending = new.sending; accounted = t; finish = new.finish } ≡ record old {
        sending = other.sending;
        accounted = t;
        finish = other.finish;
      } = λ i. record old {
        sending = sending i;
        accounted = t;
        finish = finish i;
      } in
      let world = f.same ∙ here ∙ sym g.same in
      let left = f.left ∙ sym g.left in
      grind arith

  look_is_one : (t : ℕ) (old new other : Planned P) → PlansStart cmp t old new → PlansStart cmp t old other
      → new ≡ other
  look_is_one t old new other f g = grind (arith, least_is_one)

  -- ---- a launch

  -- what the launch of that message may be
  abbrev Launch : ℕ → Planned P → Message P → Course (Message P) (Planned P) → Type 0
  Launch t old m c =
      ((may_launch cmp t old m ≡ false) × (c ≡ goes [] old))
      ⊎ (((may_launch cmp t old m ≡ true) × (last_moment ≤ old.next_id) × (c ≡ meets FlowIdsUsedUp))
      ⊎ ((may_launch cmp t old m ≡ true) × (old.next_id < last_moment)
      × ((ls : List (Message P)) × (new : Planned P) × Accounts cmp t (launched cmp t old m) ls new
      × (c ≡ goes ls new))))

  no_launch_of : {t : ℕ} {old : Planned P} {o : Option (Message P)} {c : Course (Message P) (Planned P)}
      → Launches cmp t old o c → o ≡ None → c ≡ goes [] old
  no_launch_of nothing_waits e = refl
  no_launch_of _ e = cc

  launch_of : {t : ℕ} {old : Planned P} {o : Option (Message P)} {c : Course (Message P) (Planned P)}
      → Launches cmp t old o c → (m : Message P) → o ≡ Some m → Launch t old m c
  launch_of nothing_waits n e = cc
  launch_of {t = t} {old = old} (too_early {m = m} may) n e = grind arith
  launch_of {t = t} {old = old} (no_id {m = m} may last) n e = grind arith
  launch_of {t = t} {old = old} (starts {m = m} {leavers = ls} {new = new} may below account) n e = grind arith

  launch_is_one : {t : ℕ} {old : Planned P} {o : Option (Message P)} {c : Course (Message P) (Planned P)}
      → Launches cmp t old o c → (d : Course (Message P) (Planned P)) → Launches cmp t old o d → c ≡ d
  launch_is_one nothing_waits d l = sym (no_launch_of l refl)
  launch_is_one {t = t} {old = old} (too_early {m = m} may) d l = grind (arith, launch_of)
  launch_is_one {t = t} {old = old} (no_id {m = m} may last) d l = grind (arith, launch_of)
  launch_is_one {t = t} {old = old} (starts {m = m} {leavers = ls} {new = new} may below account) d l =
      by_case (launch_of l m refl)
    where
      by_case : Launch t old m d → goes ls new ≡ d
      by_case (inl h) = cc
      by_case (inr (inl h)) = absurd (omega (arith, h.1))
      by_case (inr (inr h)) = account_is_one t (launched cmp t old m) new h.2.1 ls h.2.0 account h.2.2 ∙ sym h.2.3

  -- ---- finishes

  preceded_alike : (cs : List (Completed P)) (c d : Course (Completed P) (Planned P)) → c ≡ d
      → preceded cs c ≡ preceded cs d
  preceded_alike cs c d e = ap (preceded cs) e

  -- what follows the launch after a completion
  abbrev FinishOn : ℕ → Message P → List (Message P) → Course (Message P) (Planned P) → Course (Completed P) (Planned P)
      → Type 0
  FinishOn t m ms (meets fault) c = c ≡ meets fault
  FinishOn t m ms (goes more q) c =
      (r : Course (Completed P) (Planned P)) × Finishes cmp t (ms ++ more) q r
      × (c ≡ preceded (completed cmp t m ∷ []) r)

  abbrev Finish : ℕ → Message P → List (Message P) → Planned P → Course (Completed P) (Planned P) → Type 0
  Finish t m ms p c =
      ((is_late cmp t m ≡ true) × (c ≡ meets MomentTooLate))
      ⊎ ((is_late cmp t m ≡ false) × ((l : Course (Message P) (Planned P))
      × Launches cmp t (landed cmp t p m) (next_of cmp p m) l × FinishOn t m ms l c))

  no_finish_of : {t : ℕ} {ms : List (Message P)} {p : Planned P} {c : Course (Completed P) (Planned P)}
      → Finishes cmp t ms p c → ms ≡ [] → (q : Planned P) × PlansStart cmp t p q × (c ≡ goes [] q)
  no_finish_of (all_completed {q = q} looks) e = (q, looks, refl)
  no_finish_of _ e = cc

  finish_of : {t : ℕ} {ms : List (Message P)} {p : Planned P} {c : Course (Completed P) (Planned P)}
      → Finishes cmp t ms p c → (m : Message P) (ns : List (Message P)) → ms ≡ m ∷ ns → Finish t m ns p c
  finish_of (all_completed looks) n ns e = cc
  finish_of {t = t} (late {m = m} is) n ns e = grind arith
  finish_of {t = t} {p = p} (stopped {m = m} {fault = fault} in_time launch) n ns e = grind arith
  finish_of {t = t} {p = p} (completes {m = m} {ms = ms} {more = more} {q = q} {rest = rest} in_time launch finishes) n
      ns e = grind arith

  finish_is_one : {t : ℕ} {ms : List (Message P)} {p : Planned P} {c : Course (Completed P) (Planned P)}
      → Finishes cmp t ms p c → (d : Course (Completed P) (Planned P)) → Finishes cmp t ms p d → c ≡ d
  finish_is_one {t = t} {p = p} (all_completed {q = q} looks) d f = grind (arith, no_finish_of, look_is_one)
  finish_is_one {t = t} {p = p} (late {m = m} {ms = ms} is) d f = grind (arith, (finish_of f m ms refl))
  finish_is_one {t = t} {p = p} (stopped {m = m} {ms = ms} {fault = fault} in_time launch) d f =
      grind (arith, launch_is_one, (finish_of f m ms refl))
  finish_is_one {t = t} {p = p} (completes {m = m} {ms = ms} {more = more} {q = q} {rest = rest} in_time launch
      finishes) d f = grind (arith, launch_is_one, preceded_alike, (finish_is_one finishes), (finish_of f m ms refl))

  -- ---- wakes

  abbrev WakeOn : ℕ → List (Message P) → Course (Completed P) (Planned P) → Course (Completed P) (Planned P) → Type 0
  WakeOn t ms (meets fault) c = c ≡ meets fault
  WakeOn t ms (goes cs r) c =
      (rest : Course (Completed P) (Planned P)) × WakesEach cmp t ms r rest × (c ≡ preceded cs rest)

  abbrev WakeFrom : ℕ → List (Message P) → Course (Message P) (Planned P) → Course (Completed P) (Planned P) → Type 0
  WakeFrom t ms (meets fault) c = c ≡ meets fault
  WakeFrom t ms (goes more q) c = (f : Course (Completed P) (Planned P)) × Finishes cmp t more q f × WakeOn t ms f c

  abbrev Wake : ℕ → Message P → List (Message P) → Planned P → Course (Completed P) (Planned P) → Type 0
  Wake t m ms p c = (l : Course (Message P) (Planned P)) × Launches cmp t p (next_of cmp p m) l × WakeFrom t ms l c

  no_wake_of : {t : ℕ} {ms : List (Message P)} {p : Planned P} {c : Course (Completed P) (Planned P)}
      → WakesEach cmp t ms p c → ms ≡ [] → (q : Planned P) × PlansStart cmp t p q × (c ≡ goes [] q)
  no_wake_of (all_started {q = q} looks) e = (q, looks, refl)
  no_wake_of _ e = cc

  wake_of : {t : ℕ} {ms : List (Message P)} {p : Planned P} {c : Course (Completed P) (Planned P)}
      → WakesEach cmp t ms p c → (m : Message P) (ns : List (Message P)) → ms ≡ m ∷ ns → Wake t m ns p c
  wake_of (all_started looks) n ns e = cc
  wake_of {t = t} {p = p} (no_start {m = m} {fault = fault} launch) n ns e = grind arith
  wake_of {t = t} {p = p} (no_finish {m = m} {more = more} {q = q} {fault = fault} launch finishes) n ns e = grind arith
  wake_of {t = t} {p = p} (starts_one {m = m} {ms = ms} {more = more} {q = q} {r = r} {cs = cs} {rest = rest} launch
      finishes wakes) n ns e = grind arith

  wake_is_one : {t : ℕ} {ms : List (Message P)} {p : Planned P} {c : Course (Completed P) (Planned P)}
      → WakesEach cmp t ms p c → (d : Course (Completed P) (Planned P)) → WakesEach cmp t ms p d → c ≡ d
  wake_is_one {t = t} {p = p} (all_started {q = q} looks) d w = grind (arith, no_wake_of, look_is_one)
  wake_is_one {t = t} {p = p} (no_start {m = m} {ms = ms} {fault = fault} launch) d w =
      grind (arith, (launch_is_one launch), (wake_of w m ms refl))
  wake_is_one {t = t} {p = p} (no_finish {m = m} {ms = ms} {more = more} {q = q} {fault = fault} launch finishes) d w =
      grind (arith, finish_is_one, (launch_is_one launch), (wake_of w m ms refl))
  wake_is_one {t = t} {p = p} (starts_one {m = m} {ms = ms} {more = more} {q = q} {r = r} {cs = cs} {rest = rest} launch
      finishes wakes) d w =
      let h : Wake t m ms p d = wake_of w m ms refl in
      let same : goes more q ≡ h.0 = launch_is_one launch h.0 h.1 in
      let from : WakeFrom t ms (goes more q) d = grind arith in
      let ends : goes cs r ≡ from.0 = finish_is_one finishes from.0 from.1 in
      let on = subst (λ (f : Course (Completed P) (Planned P)). WakeOn t ms f d) (sym ends) from.2 in
      preceded_alike cs rest on.0 (wake_is_one wakes on.0 on.1) ∙ sym on.2

  -- ---- settlings, new caps and messages

  settling_is_one : (t : ℕ) (p : Planned P) (c d : Course (Completed P) (Planned P)) → Settles cmp t p c
      → Settles cmp t p d → c ≡ d
  settling_is_one t p c d (settling {leavers = ls} {mid = mid} account finishes)
      (settling {leavers = ms} {mid = other} account_too finishes_too) =
      let same : goes ls mid ≡ goes ms other = account_is_one t p mid other ls ms account account_too in
      let left : ms ≡ ls = cc in
      let world : other ≡ mid = cc in
      finish_is_one finishes d (subst (λ (q : Planned P). Finishes cmp t ls q d) world
      (subst (λ (ks : List (Message P)). Finishes cmp t ks other d) left finishes_too))

  rebalance_is_one : (now : ℕ) (caps : Caps P) (p : Planned P) (c d : Course (Completed P) (Planned P))
      → Rebalances cmp now caps p c → Rebalances cmp now caps p d → c ≡ d
  rebalance_is_one now caps p c d (none_sending {new = new} none looks)
      (none_sending {new = other} none_too looks_too) = grind (arith, look_is_one)
  rebalance_is_one now caps p c d (none_sending none looks) (some_sending some settles) = absurd (some none)
  rebalance_is_one now caps p c d (some_sending some settles) (none_sending none looks) = absurd (some none)
  rebalance_is_one now caps p c d (some_sending some settles) (some_sending some_too settles_too) =
      settling_is_one now (record p { caps = caps; limited = true }) c d settles settles_too

  enqueue_is_one : (now : ℕ) (m : Message P) (p : Planned P) (c d : Course (Completed P) (Planned P))
      → Enqueues cmp now m p c → Enqueues cmp now m p d → c ≡ d
  enqueue_is_one now m p c d (at_once free) (at_once free_too) = refl
  enqueue_is_one now m p c d (at_once free) (no_launch limited launch) = cc
  enqueue_is_one now m p c d (at_once free) (launches limited launch finishes) = cc
  enqueue_is_one now m p c d (no_launch limited launch) (at_once free) = cc
  enqueue_is_one now m p c d (no_launch {fault = fault} limited launch)
      (no_launch {fault = other} limited_too launch_too) = grind (arith, launch_is_one)
  enqueue_is_one now m p c d (no_launch {fault = fault} limited launch)
      (launches {leavers = ls} {mid = mid} limited_too launch_too finishes) = grind (arith, launch_is_one)
  enqueue_is_one now m p c d (launches limited launch finishes) (at_once free) = cc
  enqueue_is_one now m p c d (launches {leavers = ls} {mid = mid} limited launch finishes)
      (no_launch {fault = fault} limited_too launch_too) = grind (arith, launch_is_one)
  enqueue_is_one now m p c d (launches {leavers = ls} {mid = mid} limited launch finishes)
      (launches {leavers = ms} {mid = other} limited_too launch_too finishes_too) =
      grind (arith, launch_is_one, finish_is_one)

  -- ---- an advance

  -- the course of the event that is due at t
  abbrev EventAt : ℕ → Planned P → ℕ → Course (Completed P) (Planned P) → Type 0
  EventAt now p t e =
      ((p.finish ≡ Some t) × (next_event p ≡ Some t) × (t ≤ now) × Settles cmp t (record p { finish = None }) e)
      ⊎ ((p.finish ≢ Some t) × (next_event p ≡ Some t) × (t ≤ now) × Wakes cmp t (record p { start = None }) e)

  event_is_one : (now : ℕ) (p : Planned P) (t s : ℕ) (e f : Course (Completed P) (Planned P)) → EventAt now p t e
      → EventAt now p s f → e ≡ f
  event_is_one now p t s e f (inl h) (inl k) =
      let same : s ≡ t = cc in settling_is_one t _ e f h.3 (subst (λ (u : ℕ). Settles cmp u (record p { finish = None })
      f) same k.3)
  event_is_one now p t s e f (inl h) (inr k) = let same : s ≡ t = cc in absurd (k.0 (h.0 ∙ ap Some (sym same)))
  event_is_one now p t s e f (inr h) (inl k) = let same : s ≡ t = cc in absurd (h.0 (k.0 ∙ ap Some same))
  event_is_one now p t s e f (inr h) (inr k) = grind (arith, wake_is_one)

  -- what follows an event
  abbrev AdvanceOn : ℕ → Course (Completed P) (Planned P) → ℕ → Course (Completed P) (Planned P) → Type 0
  AdvanceOn now (meets fault) n c = (n ≡ 1) × (c ≡ meets fault)
  AdvanceOn now (goes cs q) n c =
      (m : ℕ) × (rest : Course (Completed P) (Planned P)) × Advances cmp now q m rest × (n ≡ m + 1)
      × (c ≡ preceded cs rest)

  abbrev Advance : ℕ → Planned P → ℕ → Course (Completed P) (Planned P) → Type 0
  Advance now p n c =
      (IfSome (next_event p) (λ t. now < t) × Wakes cmp now p c × (n ≡ 0))
      ⊎ ((t : ℕ) × (e : Course (Completed P) (Planned P)) × EventAt now p t e × AdvanceOn now e n c)

  advance_of : {now n : ℕ} {p : Planned P} {c : Course (Completed P) (Planned P)} → Advances cmp now p n c
      → Advance now p n c
  advance_of (no_more before wakes) = inl (before, wakes, refl)
  advance_of (at_finish {q = q} {t = t} {n = n} {cs = cs} {rest = rest} finish next due event more) =
      inr (t, goes cs q, inl (finish, next, due, event), (n, rest, more, refl, refl))
  advance_of (at_start {q = q} {t = t} {n = n} {cs = cs} {rest = rest} finish next due event more) = grind arith
  advance_of (finish_stops {t = t} {fault = fault} finish next due event) =
      inr (t, meets fault, inl (finish, next, due, event), (refl, refl))
  advance_of (start_stops {t = t} {fault = fault} finish next due event) = grind arith

  none_due : (now : ℕ) (p : Planned P) (t : ℕ) → IfSome (next_event p) (λ s. now < s) → next_event p ≡ Some t → t ≤ now
      → ⊥
  none_due now p t before is due = grind arith

  due_at : (now : ℕ) (p : Planned P) (t : ℕ) (e : Course (Completed P) (Planned P)) → EventAt now p t e
      → (next_event p ≡ Some t) × (t ≤ now)
  due_at now p t e (inl h) = (h.1, h.2)
  due_at now p t e (inr h) = (h.1, h.2)

  -- so far one event, and then those of the rest
  after_event : (now : ℕ) (p q : Planned P) (t n m : ℕ) (cs : List (Completed P))
      (rest d : Course (Completed P) (Planned P)) → EventAt now p t (goes cs q)
      → ((k : ℕ) (e : Course (Completed P) (Planned P)) → Advances cmp now q k e → (n ≡ k) × (rest ≡ e))
      → Advance now p m d → (n + 1 ≡ m) × (preceded cs rest ≡ d)
  after_event now p q t n m cs rest d event ih (inl h) = grind arith
  after_event now p q t n m cs rest d event ih (inr h) =
      grind (arith, common_steps, preceded_alike, (event_is_one now p t h.0 (goes cs q) h.1 event h.2))

  event_stops : (now : ℕ) (p : Planned P) (t m : ℕ) (fault : Error) (d : Course (Completed P) (Planned P))
      → EventAt now p t (meets fault) → Advance now p m d → (1 ≡ m) × (meets fault ≡ d)
  event_stops now p t m fault d event (inl h) = grind arith
  event_stops now p t m fault d event (inr h) =
      grind (arith, common_steps, (event_is_one now p t h.0 (meets fault) h.1 event h.2))

  pub advance_is_one : {now n : ℕ} {p : Planned P} {c : Course (Completed P) (Planned P)} → Advances cmp now p n c
      → (m : ℕ) (d : Course (Completed P) (Planned P)) → Advances cmp now p m d → (n ≡ m) × (c ≡ d)
  advance_is_one {now = now} {p = p} {c = c} (no_more before wakes) m d a =
      grind (arith, advance_of, wake_is_one, due_at, none_due)
  advance_is_one {now = now} {p = p} (at_finish {q = q} {t = t} {n = n} {cs = cs} {rest = rest} finish next due event
      more) m d a =
      after_event now p q t n m cs rest d (inl (finish, next, due, event)) (advance_is_one more) (advance_of a)
  advance_is_one {now = now} {p = p} (at_start {q = q} {t = t} {n = n} {cs = cs} {rest = rest} finish next due event
      more) m d a =
      after_event now p q t n m cs rest d (inr (finish, next, due, event)) (advance_is_one more) (advance_of a)
  advance_is_one {now = now} {p = p} (finish_stops {t = t} {fault = fault} finish next due event) m d a =
      event_stops now p t m fault d (inl (finish, next, due, event)) (advance_of a)
  advance_is_one {now = now} {p = p} (start_stops {t = t} {fault = fault} finish next due event) m d a =
      event_stops now p t m fault d (inr (finish, next, due, event)) (advance_of a)

  -- ---- messages one after another

  each_is_one : (now : ℕ) (ms : List (Message P)) (p : Planned P) (c d : Course (Completed P) (Planned P))
      → EnqueuesEach cmp now ms p c → EnqueuesEach cmp now ms p d → c ≡ d
  each_is_one now [] p c d all_enqueued all_enqueued = refl
  each_is_one now (m ∷ ms) p c d (one_stops {fault = fault} one) (one_stops {fault = other} one_too) =
      grind (arith, enqueue_is_one)
  each_is_one now (m ∷ ms) p c d (one_stops {fault = fault} one) (enqueues_one {q = q} {cs = cs} one_too more) =
      let same : meets fault ≡ goes cs q = enqueue_is_one now m p (meets fault) (goes cs q) one one_too in cc
  each_is_one now (m ∷ ms) p c d (enqueues_one {q = q} {cs = cs} one more) (one_stops {fault = fault} one_too) =
      let same : goes cs q ≡ meets fault = enqueue_is_one now m p (goes cs q) (meets fault) one one_too in cc
  each_is_one now (m ∷ ms) p c d (enqueues_one {q = q} {cs = cs} {rest = rest} one more)
      (enqueues_one {q = r} {cs = ds} {rest = on} one_too more_too) =
      grind (arith, enqueue_is_one, preceded_alike, (each_is_one now ms q rest on more))

  -- ---- any call

  pub course_is_one : (p : Planned P) (call : Call P) (c d : Course (Completed P) (Planned P)) → Obeys cmp p call c
      → Obeys cmp p call d → c ≡ d
  course_is_one p (call_limit now peer egress ingress) c d f g = rebalance_is_one now _ p c d f g
  course_is_one p (call_limit_link now origin recipient cap) c d f g = rebalance_is_one now _ p c d f g
  course_is_one p (call_enqueue now m) c d f g = enqueue_is_one now m p c d f g
  course_is_one p (call_enqueue_all now ms) c d f g = each_is_one now ms p c d f g
  course_is_one p (call_advance now) c d f g = (advance_is_one f.1 g.0 d g.1).1
  course_is_one p call_next c d f g = f ∙ sym g
