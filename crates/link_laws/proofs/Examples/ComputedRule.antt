-- Calls by the event rule, and the replies to them, found by computing: for worked examples.
use Rattle.link_simulation.proofs.Common.{◌≡◌, ◌≢◌, ℕ, zero, suc, ◌+◌, ◌≤◌, List, [], ◌∷◌, Bool, true, false, cond}
use Rattle.link_simulation.proofs.Common.{Option, Some, None, refl, sym, ap, subst, arith, ◌∙◌, length, max, ◌&&◌, ◌==◌}
use Rattle.link_simulation.proofs.Common.{nat_le, nat_lt, if◌then◌else◌, filter, AllZip, Ordering, IsTotalOrder}
use Rattle.link_simulation.proofs.Common.{ltb-true, eqb-true, eq-eqb, OutOfMemory, NumberTooLarge, MomentTooLate}
use Rattle.link_simulation.proofs.Common.{FlowIdsUsedUp, Message, Caps, new_world, Completed, Course, goes, meets}
use Rattle.link_simulation.proofs.Common.{last_moment, preceded, fronts, moment_of, Call, call_limit, call_limit_link}
use Rattle.link_simulation.proofs.Common.{call_enqueue, call_advance, call_enqueue_all, call_next, limited_by}
use Rattle.link_simulation.proofs.Common.{linked_by, Agrees, Reply, reply_done, reply_next, reply_refused}
use Rattle.link_simulation.proofs.Common.{SameCompletion, new_planned, Planned, RatedFlight, next_event, next_of}
use Rattle.link_simulation.proofs.Common.{may_launch, Launches, Rebalances, none_sending, some_sending}
use Rattle.link_simulation.proofs.Common.{completed_at_once, with_queued, Enqueues, at_once, no_launch, launches}
use Rattle.link_simulation.proofs.Common.{Advances, no_more, at_finish, at_start, finish_stops, start_stops, Obeys}
use Rattle.link_simulation.proofs.Common.{EnqueuesEach, all_enqueued, one_stops, enqueues_one, MayBeRefused, Obeyed}
use Rattle.link_simulation.proofs.Common.{InTime}
use Rattle.std.proofs.lemmas.Bool.{ltb-false}
use Rattle.link_simulation.proofs.Rule.Agreeing.{obeyed_agree}
use Rattle.link_laws.proofs.Examples.ComputedReplies.{Holding, same_all, Shares}
use Rattle.link_laws.proofs.Examples.ComputedSteps.{the_same, bind, bound, followed, is_none_of, look, look_so}
use Rattle.link_laws.proofs.Examples.ComputedSteps.{launch, launch_so, finish_all, finish_all_so, wake_each_so}
use Rattle.link_laws.proofs.Examples.ComputedSteps.{wake_at, settle_at, settle_at_so}
use Rattle.link_simulation.proofs.Simulation.Queue.{by_option}

module _ {P : Type 0} (cmp : P → P → Ordering) (order : IsTotalOrder cmp) (plan : Caps P → List (Message P) → Shares)
    (hint : ℕ → List (Message P) → ℕ) (n : ℕ) where
  -- ---- calls

  abbrev pub rebalance_at : ℕ → Caps P → Planned P → Option (Course (Completed P) (Planned P))
  rebalance_at now caps p =
      if is_none_of p.sending then bind (look cmp order plan hint n now (record p { caps = caps; limited = true }))
      (λ q. Some (goes [] q)) else settle_at cmp order plan hint n now (record p { caps = caps; limited = true })

  rebalance_at_so : (now : ℕ) (caps : Caps P) (p : Planned P) (c : Course (Completed P) (Planned P))
      → rebalance_at now caps p ≡ Some c → Rebalances cmp now caps p c
  rebalance_at_so now caps p c e = by_sending p.sending refl e
    where
      by_sending : (fs : List (RatedFlight P)) → p.sending ≡ fs
          → (if is_none_of fs then bind (look cmp order plan hint n now (record p {
            caps = caps;
            limited = true;
          })) (λ q. Some (goes [] q))
          else settle_at cmp order plan hint n now (record p { caps = caps; limited = true }))
          ≡ Some c
          → Rebalances cmp now caps p c
      by_sending [] is e =
          let found = bound _ (λ q. Some _) c e in
          subst (Rebalances cmp now caps p) (the_same found.2)
          (none_sending is (look_so cmp order plan hint n now (record p {
            caps = caps;
            limited = true;
          }) found.0 found.1))
      by_sending (f ∷ fs) is e = some_sending (λ none. not_none (sym is ∙ none))
          (settle_at_so cmp order plan hint n now (record p { caps = caps; limited = true }) c e)
        where
          not_none : f ∷ fs ≡ [] → ⊥
          not_none h = cc

  abbrev pub enqueue_at : ℕ → Message P → Planned P → Option (Course (Completed P) (Planned P))
  enqueue_at now m p =
      cond p.limited
      (bind (launch cmp order plan hint n now (with_queued cmp p m) (next_of cmp (with_queued cmp p m) m))
      (λ c. followed c (λ leavers mid. finish_all cmp order plan hint n now n leavers mid)))
      (Some (completed_at_once cmp now p m))

  enqueue_at_so : (now : ℕ) (m : Message P) (p : Planned P) (c : Course (Completed P) (Planned P))
      → enqueue_at now m p ≡ Some c → Enqueues cmp now m p c
  enqueue_at_so now m p c e = by_limited p.limited refl e
    where
      by_launch : (l : Course (Message P) (Planned P)) → p.limited ≡ true
          → Launches cmp now (with_queued cmp p m) (next_of cmp (with_queued cmp p m) m) l
          → followed l (λ leavers mid. finish_all cmp order plan hint n now n leavers mid) ≡ Some c
          → Enqueues cmp now m p c
      by_launch (meets fault) is l e = subst (Enqueues cmp now m p) (the_same e) (no_launch is l)
      by_launch (goes leavers mid) is l e = launches is l (finish_all_so cmp order plan hint n now n leavers mid c e)

      by_limited : (b : Bool) → p.limited ≡ b
          → cond b (bind (launch cmp order plan hint n now (with_queued cmp p m) (next_of cmp (with_queued cmp p m) m))
          (λ c. followed c (λ leavers mid. finish_all cmp order plan hint n now n leavers mid)))
          (Some (completed_at_once cmp now p m)) ≡ Some c → Enqueues cmp now m p c
      by_limited true is e = grind (arith, bound, by_launch, launch_so)
      by_limited false is e = subst (Enqueues cmp now m p) (the_same e) (at_once is)

  abbrev pub each_at : ℕ → List (Message P) → Planned P → Option (Course (Completed P) (Planned P))
  each_at now [] p = Some (goes [] p)
  each_at now (m ∷ ms) p =
      bind (enqueue_at now m p) (λ c. followed c (λ cs q. bind (each_at now ms q) (λ rest. Some (preceded cs rest))))

  each_at_so : (now : ℕ) (ms : List (Message P)) (p : Planned P) (c : Course (Completed P) (Planned P))
      → each_at now ms p ≡ Some c → EnqueuesEach cmp now ms p c
  each_at_so now [] p c e = subst (EnqueuesEach cmp now [] p) (the_same e) all_enqueued
  each_at_so now (m ∷ ms) p c e =
      let found = bound _ (λ d. followed d (λ cs q. bind _ (λ rest. Some _))) c e in
      by_course found.0 (enqueue_at_so now m p found.0 found.1) found.2 (each_at_so now ms)
    where
      by_course : (d : Course (Completed P) (Planned P)) → Enqueues cmp now m p d
          → followed d (λ cs q. bind (each_at now ms q) (λ rest. Some (preceded cs rest))) ≡ Some c
          → ((q : Planned P) (f : Course (Completed P) (Planned P)) → each_at now ms q ≡ Some f
          → EnqueuesEach cmp now ms q f) → EnqueuesEach cmp now (m ∷ ms) p c
      by_course (meets fault) one e ih = subst (EnqueuesEach cmp now (m ∷ ms) p) (the_same e) (one_stops one)
      by_course (goes cs q) one e ih =
          let found = bound (each_at now ms q) (λ rest. Some (preceded cs rest)) c e in
          subst (EnqueuesEach cmp now (m ∷ ms) p) (the_same found.2) (enqueues_one one (ih q found.0 found.1))

  -- whether that is the moment
  abbrev pub is_moment : ℕ → Option ℕ → Bool
  is_moment t None = false
  is_moment t (Some s) = s == t

  abbrev pub is_past : ℕ → Option ℕ → Bool
  is_past now None = true
  is_past now (Some t) = nat_lt now t

  -- the event that is planned at that moment
  abbrev pub event_of : Planned P → Option ℕ → Option (Course (Completed P) (Planned P))
  event_of p None = None
  event_of p (Some t) = cond (is_moment t p.finish) (settle_at cmp order plan hint n t (record p { finish = None }))
      (wake_at cmp order plan hint n t (record p { start = None }))

  abbrev pub advance_at : ℕ → ℕ → Planned P → Option (Course (Completed P) (Planned P))
  advance_at now zero p = None
  advance_at now (suc k) p =
      cond (is_past now (next_event p)) (wake_at cmp order plan hint n now p) (bind (event_of p (next_event p))
      (λ c. followed c (λ cs q. bind (advance_at now k q) (λ rest. Some (preceded cs rest)))))

  abbrev Advanced : ℕ → Planned P → Course (Completed P) (Planned P) → Type 0
  Advanced now p c = (m : ℕ) × Advances cmp now p m c

  abbrev AreAdvanced : ℕ → ℕ → Type 0
  AreAdvanced now k =
      (q : Planned P) (c : Course (Completed P) (Planned P)) → advance_at now k q ≡ Some c → Advanced now q c

  is_at : (t : ℕ) (o : Option ℕ) → is_moment t o ≡ true → o ≡ Some t
  is_at t None e = cc
  is_at t (Some s) e = ap (λ (x : ℕ). Some x) (eqb-true s t e)

  is_not_at : (t : ℕ) (o : Option ℕ) → is_moment t o ≡ false → o ≢ Some t
  is_not_at t None e same = cc
  is_not_at t (Some s) e same = let here : (s == t) ≡ true = eq-eqb s t (the_same same) in cc

  advance_at_so : (now k : ℕ) (p : Planned P) (c : Course (Completed P) (Planned P)) → advance_at now k p ≡ Some c
      → Advanced now p c
  advance_at_so now zero p c e = cc
  advance_at_so now (suc k) p c e =
      by_option (next_event p) (λ is. grind (arith, no_more, wake_each_so))
      (λ t is. by_past t (nat_lt now t) is refl (rw is at e) (advance_at_so now k))
    where
      at_event : (t : ℕ) (b : Bool) (d : Course (Completed P) (Planned P)) → next_event p ≡ Some t → t ≤ now
          → is_moment t p.finish ≡ b
          → cond b (settle_at cmp order plan hint n t (record p { finish = None }))
          (wake_at cmp order plan hint n t (record p { start = None })) ≡ Some d
          → followed d (λ cs q. bind (advance_at now k q) (λ rest. Some (preceded cs rest))) ≡ Some c
          → AreAdvanced now k → Advanced now p c
      at_event t true (meets fault) is due finish e more ih =
          subst (Advanced now p) (the_same more) (
            1,
            finish_stops (is_at t p.finish finish) is due
                (settle_at_so cmp order plan hint n t (record p { finish = None }) (meets fault) e),
          )
      at_event t false (meets fault) is due finish e more ih =
          subst (Advanced now p) (the_same more) (
            1,
            start_stops (is_not_at t p.finish finish) is due
                (wake_each_so cmp order plan hint n t (filter (may_launch cmp t p) (fronts cmp p.waiting))
                (record p { start = None }) (meets fault) e),
          )
      at_event t true (goes cs q) is due finish e more ih =
          let found = bound (advance_at now k q) (λ rest. Some (preceded cs rest)) c more in
          let rest : Advanced now q found.0 = ih q found.0 found.1 in
          subst (Advanced now p) (the_same found.2) (
            rest.0 + 1,
            at_finish (is_at t p.finish finish) is due
                (settle_at_so cmp order plan hint n t (record p { finish = None }) (goes cs q) e)
                rest.1,
          )
      at_event t false (goes cs q) is due finish e more ih =
          let found = bound (advance_at now k q) (λ rest. Some (preceded cs rest)) c more in
          let rest : Advanced now q found.0 = ih q found.0 found.1 in
          subst (Advanced now p) (the_same found.2) (
            rest.0 + 1,
            at_start (is_not_at t p.finish finish) is due
                (wake_each_so cmp order plan hint n t (filter (may_launch cmp t p) (fronts cmp p.waiting))
                (record p { start = None }) (goes cs q) e) rest.1,
          )

      by_past : (t : ℕ) (b : Bool) → next_event p ≡ Some t → nat_lt now t ≡ b
          → cond b (wake_at cmp order plan hint n now p) (bind (event_of p (Some t))
          (λ d. followed d (λ cs q. bind (advance_at now k q) (λ rest. Some (preceded cs rest))))) ≡ Some c
          → AreAdvanced now k → Advanced now p c
      by_past t true is past e ih = grind (arith, no_more, ltb-true, wake_each_so)
      by_past t false is past e ih =
          let found = bound _ (λ d. followed d (λ cs q. bind _ (λ rest. Some _))) c e in
          at_event t (is_moment t p.finish) found.0 is (ltb-false now t past) refl found.1 found.2 ih

  abbrev pub obeys_at : Planned P → Call P → Option (Course (Completed P) (Planned P))
  obeys_at p (call_limit now peer egress ingress) = rebalance_at now (limited_by cmp p.caps peer egress ingress) p
  obeys_at p (call_limit_link now origin recipient cap) = rebalance_at now (linked_by cmp p.caps origin recipient cap) p
  obeys_at p (call_enqueue now m) = enqueue_at now m p
  obeys_at p (call_enqueue_all now ms) = each_at now ms p
  obeys_at p (call_advance now) = advance_at now n p
  obeys_at p call_next = Some (goes [] p)

  obeys_at_so : (p : Planned P) (call : Call P) (c : Course (Completed P) (Planned P)) → obeys_at p call ≡ Some c
      → Obeys cmp p call c
  obeys_at_so p (call_limit now peer egress ingress) c e =
      rebalance_at_so now (limited_by cmp p.caps peer egress ingress) p c e
  obeys_at_so p (call_limit_link now origin recipient cap) c e =
      rebalance_at_so now (linked_by cmp p.caps origin recipient cap) p c e
  obeys_at_so p (call_enqueue now m) c e = enqueue_at_so now m p c e
  obeys_at_so p (call_enqueue_all now ms) c e = each_at_so now ms p c e
  obeys_at_so p (call_advance now) c e = advance_at_so now n p c e
  obeys_at_so p call_next c e = sym (the_same e)

  -- ---- replies

  abbrev pub replied_to : Course (Completed P) (Planned P) → Planned P → (Planned P → Option (List (Reply P)))
      → Option (List (Reply P))
  replied_to (goes cs q) p rest = bind (rest q) (λ replies. Some (reply_done cs ∷ replies))
  replied_to (meets OutOfMemory) p rest = None
  replied_to (meets NumberTooLarge) p rest = None
  replied_to (meets MomentTooLate) p rest = bind (rest p) (λ replies. Some (reply_refused MomentTooLate ∷ replies))
  replied_to (meets FlowIdsUsedUp) p rest = bind (rest p) (λ replies. Some (reply_refused FlowIdsUsedUp ∷ replies))

  -- the replies by the event rule
  abbrev pub replies_by_rule : Planned P → List (Call P) → Option (List (Reply P))
  replies_by_rule p [] = Some []
  replies_by_rule p (call_limit now peer egress ingress ∷ calls) =
      bind (obeys_at p (call_limit now peer egress ingress)) (λ c. replied_to c p (λ q. replies_by_rule q calls))
  replies_by_rule p (call_limit_link now origin recipient cap ∷ calls) =
      bind (obeys_at p (call_limit_link now origin recipient cap)) (λ c. replied_to c p (λ q. replies_by_rule q calls))
  replies_by_rule p (call_enqueue now m ∷ calls) =
      bind (obeys_at p (call_enqueue now m)) (λ c. replied_to c p (λ q. replies_by_rule q calls))
  replies_by_rule p (call_enqueue_all now ms ∷ calls) =
      bind (obeys_at p (call_enqueue_all now ms)) (λ c. replied_to c p (λ q. replies_by_rule q calls))
  replies_by_rule p (call_advance now ∷ calls) =
      bind (obeys_at p (call_advance now)) (λ c. replied_to c p (λ q. replies_by_rule q calls))
  replies_by_rule p (call_next ∷ calls) =
      bind (replies_by_rule p calls) (λ replies. Some (reply_next (next_event p) ∷ replies))

  -- what a reply to a call, other than for the next event, must be
  abbrev Replied : Planned P → Call P → List (Call P) → List (Reply P) → Type 0
  Replied p call calls [] = ⊥
  Replied p call calls (reply_next t ∷ replies) = ⊥
  Replied p call calls (reply_refused why ∷ replies) = MayBeRefused cmp p call why × Obeyed cmp p calls replies
  Replied p call calls (reply_done cs ∷ replies) =
      (ds : List (Completed P)) × (q : Planned P) × Obeys cmp p call (goes ds q) × AllZip (SameCompletion cmp) cs ds
      × Obeyed cmp q calls replies

  limit_obeyed : (p : Planned P) (now : ℕ) (peer : P) (egress ingress : Option ℕ) (calls : List (Call P))
      (replies : List (Reply P)) → Replied p (call_limit now peer egress ingress) calls replies
      → Obeyed cmp p (call_limit now peer egress ingress ∷ calls) replies
  limit_obeyed p now peer egress ingress calls _ h = h

  link_obeyed : (p : Planned P) (now : ℕ) (origin recipient : P) (cap : Option ℕ) (calls : List (Call P))
      (replies : List (Reply P)) → Replied p (call_limit_link now origin recipient cap) calls replies
      → Obeyed cmp p (call_limit_link now origin recipient cap ∷ calls) replies
  link_obeyed p now origin recipient cap calls _ h = h

  enqueue_obeyed : (p : Planned P) (now : ℕ) (m : Message P) (calls : List (Call P)) (replies : List (Reply P))
      → Replied p (call_enqueue now m) calls replies → Obeyed cmp p (call_enqueue now m ∷ calls) replies
  enqueue_obeyed p now m calls _ h = h

  all_obeyed : (p : Planned P) (now : ℕ) (ms : List (Message P)) (calls : List (Call P)) (replies : List (Reply P))
      → Replied p (call_enqueue_all now ms) calls replies → Obeyed cmp p (call_enqueue_all now ms ∷ calls) replies
  all_obeyed p now ms calls _ h = h

  advance_obeyed : (p : Planned P) (now : ℕ) (calls : List (Call P)) (replies : List (Reply P))
      → Replied p (call_advance now) calls replies → Obeyed cmp p (call_advance now ∷ calls) replies
  advance_obeyed p now calls _ h = h

  replied_so : (p : Planned P) (call : Call P) (calls : List (Call P)) (replies : List (Reply P))
      → ((q : Planned P) (others : List (Reply P)) → replies_by_rule q calls ≡ Some others → Obeyed cmp q calls others)
      → bind (obeys_at p call) (λ c. replied_to c p (λ q. replies_by_rule q calls)) ≡ Some replies
      → Replied p call calls replies
  replied_so p call calls replies ih e =
      let found = bound (obeys_at p call) (λ c. replied_to c p (λ q. replies_by_rule q calls)) replies e in
      grind (arith, bound, the_same, same_all, (obeys_at_so p call found.0 found.1))

  pub obeyed_so : (p : Planned P) (calls : List (Call P)) (replies : List (Reply P))
      → replies_by_rule p calls ≡ Some replies → Obeyed cmp p calls replies
  obeyed_so p [] replies e = subst (Obeyed cmp p []) (the_same e) tt
  obeyed_so p (call_limit now peer egress ingress ∷ calls) replies e =
      limit_obeyed p now peer egress ingress calls replies
      (replied_so p (call_limit now peer egress ingress) calls replies (λ q others h. obeyed_so q calls others h) e)
  obeyed_so p (call_limit_link now origin recipient cap ∷ calls) replies e =
      link_obeyed p now origin recipient cap calls replies
      (replied_so p (call_limit_link now origin recipient cap) calls replies
      (λ q others h. obeyed_so q calls others h) e)
  obeyed_so p (call_enqueue now m ∷ calls) replies e =
      enqueue_obeyed p now m calls replies
      (replied_so p (call_enqueue now m) calls replies (λ q others h. obeyed_so q calls others h) e)
  obeyed_so p (call_enqueue_all now ms ∷ calls) replies e =
      all_obeyed p now ms calls replies
      (replied_so p (call_enqueue_all now ms) calls replies (λ q others h. obeyed_so q calls others h) e)
  obeyed_so p (call_advance now ∷ calls) replies e =
      advance_obeyed p now calls replies
      (replied_so p (call_advance now) calls replies (λ q others h. obeyed_so q calls others h) e)
  obeyed_so p (call_next ∷ calls) replies e = grind (arith, (obeyed_so p calls))

-- ---- the simulation

abbrev pub are_in_time : {P : Type 0} → List (Call P) → Bool
are_in_time [] = true
are_in_time (call ∷ calls) =
    elim (moment_of call) [ None ↦ true | Some now ↦ nat_le now last_moment ] && are_in_time calls

in_time_so : {P : Type 0} (calls : List (Call P)) → are_in_time calls ≡ true → InTime calls
in_time_so [] e = tt
in_time_so (call ∷ calls) e = grind (arith, (in_time_so calls))

-- what the event rule replies agrees with the simulation
pub agrees_by_rule : {P : Type 0} (cmp : P → P → Ordering) (order : IsTotalOrder cmp)
    (plan : Caps P → List (Message P) → Shares) (hint : ℕ → List (Message P) → ℕ) (n : ℕ) (calls : List (Call P))
    (replies : List (Reply P))
    → are_in_time calls ≡ true → replies_by_rule cmp order plan hint n (new_planned 0) calls ≡ Some replies
    → Holding (Agrees cmp (new_world 0) calls replies)
agrees_by_rule cmp order plan hint n calls replies times e =
    record { it = grind (arith, obeyed_agree, in_time_so, obeyed_so) }

-- ---- plans

-- all messages share one cap evenly
abbrev pub shared : {P : Type 0} → ℕ → Caps P → List (Message P) → Shares
shared cap caps ms = record { per = max 1 (length ms); parts = λ place. cap }

-- without a hint
abbrev pub no_hint : {P : Type 0} → ℕ → List (Message P) → ℕ
no_hint t ms = t
