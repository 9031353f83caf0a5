-- Each call completes, sends or keeps waiting what there was of a pair and what it enqueues: none is lost or doubled,
-- and their order stays.
use Rattle.link_simulation.proofs.Common.{arith, ◌≡◌, ℕ, ◌+◌, List, [], ◌∷◌, ◌++◌, Bool, true, false, cond, not}
use Rattle.link_simulation.proofs.Common.{Option, Some, None, refl, sym, ap, ◌∙◌, subst, append_assoc, append-nil, ⊤}
use Rattle.link_simulation.proofs.Common.{◌&&◌, nat_lt, if◌then◌else◌, filter, AllZip, Ordering, IsTotalOrder}
use Rattle.link_simulation.proofs.Common.{map-append, filter-append, without_first, MomentTooLate, Message, Caps}
use Rattle.link_simulation.proofs.Common.{OneForEachPair, same_pair, is_delivered, Completed, Course, goes, meets}
use Rattle.link_simulation.proofs.Common.{last_moment, preceded, raised, later_of, completion_of, completed, arrival}
use Rattle.link_simulation.proofs.Common.{Call, call_limit, call_limit_link, call_enqueue, call_advance}
use Rattle.link_simulation.proofs.Common.{call_enqueue_all, call_next, enqueued, IsCompletionOf, Planned, RatedFlight}
use Rattle.link_simulation.proofs.Common.{rated_messages, drained_to, next_of, may_launch, is_spent, Accounts}
use Rattle.link_simulation.proofs.Common.{PlansStart, Launches, nothing_waits, too_early, no_id, starts, Finishes}
use Rattle.link_simulation.proofs.Common.{all_completed, late, stopped, completes, WakesEach, all_started, no_start}
use Rattle.link_simulation.proofs.Common.{no_finish, starts_one, Settles, settling, Rebalances, none_sending}
use Rattle.link_simulation.proofs.Common.{some_sending, Enqueues, at_once, no_launch, launches, Advances, no_more}
use Rattle.link_simulation.proofs.Common.{at_finish, at_start, finish_stops, start_stops, launched, landed, with_queued}
use Rattle.link_simulation.proofs.Common.{completed_at_once, Obeys, EnqueuesEach, all_enqueued, one_stops, enqueues_one}
use Rattle.link_simulation.proofs.Common.{IsOrderly, of_pair, held_of, zip-append, common_steps, by_bool}
use Rattle.link_simulation.proofs.Simulation.Queue.{find_passes, any_like}
use Rattle.link_simulation.proofs.Simulation.SettlingEnds.{find_like, goes_no_fault}
use Rattle.link_simulation.proofs.Rule.Launch.{rest_of, head_of, head_found, waits_without}
use Rattle.link_simulation.proofs.Rule.Enqueue.{queued_last}
use Rattle.fairness.proofs.Lists.Members.{filter_nothing}
use Rattle.link_simulation.proofs.Laws.Orderly.{drained_messages, stayed_messages, any_of_fewer, IsSteady, steady}
use Rattle.link_simulation.proofs.Laws.Orderly.{idle_if_may, launched_steady, account_orderly, launch_orderly}
use Rattle.link_simulation.proofs.Laws.Orderly.{landed_orderly, finish_orderly, wake_orderly, settle_orderly}
use Rattle.link_simulation.proofs.Laws.Orderly.{no_finish_steady, no_start_orderly, recapped_steady, limited_by_alike}
use Rattle.link_simulation.proofs.Laws.Orderly.{linked_by_alike, queued_orderly, obeys_orderly}

headed : {X : Type 0} (xs : List X) (x : X) → head_of xs ≡ Some x → xs ≡ x ∷ rest_of xs
headed [] x e = cc
headed {X} (y ∷ ys) x e = let same : y ≡ x = cc in ap (λ (z : X). z ∷ ys) same

-- an element before each of two lists
before_both : {X : Type 0} (b : Bool) (x : X) (xs ys us vs : List X) → xs ++ us ≡ ys ++ vs
    → cond b (x ∷ xs) xs ++ us ≡ cond b (x ∷ ys) ys ++ vs
before_both {X} true x xs ys us vs e = ap (λ (zs : List X). x ∷ zs) e
before_both false x xs ys us vs e = e

module _ {P : Type 0} (cmp : P → P → Ordering) (order : IsTotalOrder cmp) where
  -- ---- the steps

  -- where at most one message of a pair is in flight, it is among those that pass a test or among the others
  one_split : (k : Message P) (test : RatedFlight P → Bool) (fs : List (RatedFlight P))
      → OneForEachPair cmp (rated_messages fs) → of_pair cmp k (rated_messages (filter test fs))
      ++ of_pair cmp k (rated_messages (filter (λ f. not (test f)) fs)) ≡ of_pair cmp k (rated_messages fs)
  one_split k test [] one = refl
  one_split k test (f ∷ fs) one =
      grind (arith, filter_nothing, any_of_fewer, any_like, before_both, append-nil, (one_split k test fs))

  account_holds : (t : ℕ) (old new : Planned P) (leavers : List (Message P)) → Accounts cmp t old leavers new
      → OneForEachPair cmp (rated_messages old.sending)
      → (k : Message P) → of_pair cmp k leavers ++ held_of cmp k new ≡ held_of cmp k old
  account_holds t old new leavers a one k =
      let split = ap (λ (ms : List (Message P)). of_pair cmp k ms ++ of_pair cmp k (rated_messages new.sending)) a.left
      ∙ ap (λ (ms : List (Message P)). of_pair cmp k (rated_messages (filter (is_spent cmp old.caps) all)) ++ of_pair
      cmp k ms) (stayed_messages t _ new.sending a.stayed) ∙ one_split k _ all
      (subst (OneForEachPair cmp) (sym (drained_messages t old.sending)) one) ∙ ap (of_pair cmp k)
      (drained_messages t old.sending) in
      sym (append_assoc (of_pair cmp k leavers) (of_pair cmp k _) (of_pair cmp k new.waiting)) ∙ ap
      (λ (ms : List (Message P)). ms ++ of_pair cmp k new.waiting) split ∙ ap
      (λ (q : Planned P). of_pair cmp k (rated_messages old.sending) ++ of_pair cmp k q.waiting) a.same
    where
      all : List (RatedFlight P)
      all = drained_to t old.sending

  launched_holds : (t : ℕ) (p : Planned P) (n m : Message P) → next_of cmp p n ≡ Some m → may_launch cmp t p m ≡ true
      → (k : Message P) → held_of cmp k (launched cmp t p m) ≡ held_of cmp k p
  launched_holds t p n m found may k =
      ap (λ (ms : List (Message P)). of_pair cmp k ms ++ of_pair cmp k (without_first (same_pair cmp m) p.waiting))
      (map-append _ p.sending _)
      ∙ ap (λ (ms : List (Message P)). ms ++ of_pair cmp k (without_first (same_pair cmp m) p.waiting))
      (filter-append _ (rated_messages p.sending) (m ∷ []))
      ∙ ap (λ (ms : List (Message P)). (of_pair cmp k (rated_messages p.sending) ++ of_pair cmp k (m ∷ [])) ++ ms)
      (waits_without cmp order k m p.waiting) ∙ by_bool (same_pair cmp k m) (λ is. rw is (
      let none : flying ≡ [] = (rw is at own_idle) refl in
      ap (λ (ms : List (Message P)). (ms ++ m ∷ []) ++ rest_of waits) none ∙ sym ((rw is at own_first) refl)
      ∙ sym (ap (λ (ms : List (Message P)). ms ++ waits) none)))
      (λ is. rw is (ap (λ (ms : List (Message P)). ms ++ waits) (append-nil flying)))
    where
      flying : List (Message P)
      flying = of_pair cmp k (rated_messages p.sending)

      waits : List (Message P)
      waits = of_pair cmp k p.waiting

      own_first : same_pair cmp k m ≡ true → waits ≡ m ∷ rest_of waits
      own_first own = grind (arith, find_like, find_passes, headed, head_found)

      own_idle : same_pair cmp k m ≡ true → flying ≡ []
      own_idle own = grind (arith, filter_nothing, same_pair, any_like, idle_if_may)

  launch_holds : {t : ℕ} {p : Planned P} {o : Option (Message P)} {c : Course (Message P) (Planned P)}
      → Launches cmp t p o c
      → (n : Message P) (ms : List (Message P)) (q : Planned P) → next_of cmp p n ≡ o → c ≡ goes ms q → IsOrderly cmp p
      → (k : Message P) → of_pair cmp k ms ++ held_of cmp k q ≡ held_of cmp k p
  launch_holds {p = p} nothing_waits n ms q is e h k = grind arith
  launch_holds {p = p} (too_early may) n ms q is e h k = grind arith
  launch_holds (no_id may last) n ms q is e h k = absurd (goes_no_fault e)
  launch_holds {t = t} {p = p} (starts {m = m} {leavers = leavers} {new = new} may below account) n ms q is e h k =
      grind (
        arith,
        common_steps,
        (account_holds t (launched cmp t p m) new leavers account
            (launched_steady cmp order t p n m is may (steady cmp order p h)).one_each k),
        (launched_holds t p n m is may k),
      )

  look_holds : (t : ℕ) (p q : Planned P) → PlansStart cmp t p q → (k : Message P) → held_of cmp k q ≡ held_of cmp k p
  look_holds t p q looks k = ap (held_of cmp k) looks.same

  -- ---- courses

  -- what completed, then what is in flight, then what waits are the queue, then what was in flight, then what waited
  record Moves (queue : List (Message P)) (p : Planned P) (cs : List (Completed P)) (q : Planned P) : Type 0 where
    pub done : List (Message P)
    pub completions_are : AllZip IsCompletionOf cs done
    pub each_pair : (k : Message P) → of_pair cmp k done ++ held_of cmp k q ≡ of_pair cmp k queue ++ held_of cmp k p

  -- if it goes
  abbrev MovesOn : List (Message P) → Planned P → Course (Completed P) (Planned P) → Type 0
  MovesOn queue p (goes cs q) = Moves queue p cs q
  MovesOn queue p (meets fault) = ⊤

  stays : (p q : Planned P) → ((k : Message P) → held_of cmp k q ≡ held_of cmp k p) → Moves [] p [] q
  stays p q same = record { done = []; completions_are = tt; each_pair = same }

  moves_then : (queue : List (Message P)) (p q r : Planned P) (cs ds : List (Completed P)) → Moves queue p cs q
      → Moves [] q ds r → Moves queue p (cs ++ ds) r
  moves_then queue p q r cs ds a b = grind (arith, zip-append, filter-append, append_assoc)

  on_then : (queue : List (Message P)) (p q : Planned P) (cs : List (Completed P))
      (c : Course (Completed P) (Planned P)) → Moves queue p cs q → MovesOn [] q c → MovesOn queue p (preceded cs c)
  on_then queue p q cs (goes ds r) a b = moves_then queue p q r cs ds a b
  on_then queue p q cs (meets fault) a b = tt

  -- what the queue holds was held before
  on_from : (queue : List (Message P)) (p q : Planned P) (c : Course (Completed P) (Planned P))
      → ((k : Message P) → of_pair cmp k queue ++ held_of cmp k q ≡ held_of cmp k p)
      → MovesOn queue q c → MovesOn [] p c
  on_from queue p q (goes cs r) same a =
      record { done = a.done; completions_are = a.completions_are; each_pair = λ k. a.each_pair k ∙ same k }
  on_from queue p q (meets fault) same a = tt

  first_done : (t : ℕ) (m : Message P) (ms more : List (Message P)) (p q : Planned P)
      (c : Course (Completed P) (Planned P))
      → ((k : Message P) → of_pair cmp k more ++ held_of cmp k q ≡ held_of cmp k p) → MovesOn (ms ++ more) q c
      → MovesOn (m ∷ ms) p (preceded (completed cmp t m ∷ []) c)
  first_done t m ms more p q (goes cs r) same a = record {
    done = m ∷ a.done;
    completions_are = ((t, (if is_delivered cmp m then Some (arrival cmp t m) else None), refl), a.completions_are);
    each_pair = λ k.
        before_both (same_pair cmp k m) m (of_pair cmp k a.done) (of_pair cmp k ms) (held_of cmp k r) (held_of cmp k p)
        (a.each_pair k ∙ ap (λ (ns : List (Message P)). ns ++ held_of cmp k q) (filter-append (same_pair cmp k) ms more)
        ∙ append_assoc (of_pair cmp k ms) (of_pair cmp k more) (held_of cmp k q)
        ∙ ap (λ (ns : List (Message P)). of_pair cmp k ms ++ ns) (same k));
  }
  first_done t m ms more p q (meets fault) same a = tt

  finish_moves : {t : ℕ} {ms : List (Message P)} {p : Planned P} {c : Course (Completed P) (Planned P)}
      → Finishes cmp t ms p c → IsOrderly cmp p → MovesOn ms p c
  finish_moves {t = t} {p = p} (all_completed {q = q} looks) h = stays p q (look_holds t p q looks)
  finish_moves (late is) h = tt
  finish_moves (stopped is launch) h = tt
  finish_moves {t = t} {p = p} (completes {m = m} {ms = ms} {more = more} {q = q} {rest = rest} is launch finishes) h =
      let there : IsOrderly cmp (landed cmp t p m) = landed_orderly cmp order t p m h in
      first_done t m ms more p q rest (launch_holds launch m more q refl refl there)
      (finish_moves finishes (launch_orderly cmp order launch m more q refl refl there))

  wake_moves : {t : ℕ} {ms : List (Message P)} {p : Planned P} {c : Course (Completed P) (Planned P)}
      → WakesEach cmp t ms p c → IsOrderly cmp p → MovesOn [] p c
  wake_moves {t = t} {p = p} (all_started {q = q} looks) h = stays p q (look_holds t p q looks)
  wake_moves (no_start launch) h = tt
  wake_moves (no_finish launch finishes) h = tt
  wake_moves {p = p} (starts_one {m = m} {more = more} {q = q} {r = r} {cs = cs} {rest = rest} launch finishes wakes)
      h =
      let next : IsOrderly cmp q = launch_orderly cmp order launch m more q refl refl h in
      let after : IsOrderly cmp r = finish_orderly cmp order finishes next in
      let first : Moves [] p cs r = grind (arith, on_from, launch_holds, finish_moves) in
      on_then [] p r cs rest first (wake_moves wakes after)

  settle_moves : {t : ℕ} {p : Planned P} {c : Course (Completed P) (Planned P)} → Settles cmp t p c
      → IsSteady cmp order p → MovesOn [] p c
  settle_moves {t = t} {p = p} {c = c} (settling {leavers = leavers} {mid = mid} account finishes) h =
      on_from leavers p mid c (account_holds t p mid leavers account h.one_each)
      (finish_moves finishes (account_orderly cmp order t p mid leavers account h))

  -- ---- the calls

  -- but for what is planned
  no_finish_moves : (p : Planned P) (c : Course (Completed P) (Planned P)) → MovesOn [] (record p { finish = None }) c
      → MovesOn [] p c
  no_finish_moves p (goes cs q) a =
      record { done = a.done; completions_are = a.completions_are; each_pair = a.each_pair }
  no_finish_moves p (meets fault) a = tt

  no_start_moves : (p : Planned P) (c : Course (Completed P) (Planned P)) → MovesOn [] (record p { start = None }) c
      → MovesOn [] p c
  no_start_moves p (goes cs q) a =
      record { done = a.done; completions_are = a.completions_are; each_pair = a.each_pair }
  no_start_moves p (meets fault) a = tt

  advance_moves : {now n : ℕ} {p : Planned P} {c : Course (Completed P) (Planned P)} → Advances cmp now p n c
      → IsOrderly cmp p → MovesOn [] p c
  advance_moves (no_more before wakes) h = wake_moves wakes h
  advance_moves {p = p} (at_finish {q = q} {cs = cs} {rest = rest} is next due event more) h =
      let after : IsOrderly cmp q = settle_orderly cmp order event (no_finish_steady cmp order p h) in
      on_then [] p q cs rest (no_finish_moves p (goes cs q) (settle_moves event (no_finish_steady cmp order p h)))
      (advance_moves more after)
  advance_moves {p = p} (at_start {q = q} {cs = cs} {rest = rest} is next due event more) h =
      grind (arith, wake_orderly, no_start_orderly, on_then, no_start_moves, wake_moves, (advance_moves more))
  advance_moves (finish_stops is next due event) h = tt
  advance_moves (start_stops is next due event) h = tt

  -- what completed, then what is in flight, then what waits are what was in flight, then what waited, then those
  -- messages
  pub record IsKept (p : Planned P) (messages : List (Message P)) (cs : List (Completed P)) (q : Planned P) : Type 0
    where
      pub done : List (Message P)
      pub completions_are : AllZip IsCompletionOf cs done
      pub each_pair : (k : Message P) → of_pair cmp k done ++ held_of cmp k q ≡ held_of cmp k p
          ++ of_pair cmp k messages

  -- if it goes
  abbrev pub KeepsAll : Planned P → List (Message P) → Course (Completed P) (Planned P) → Type 0
  KeepsAll p messages (goes cs q) = IsKept p messages cs q
  KeepsAll p messages (meets fault) = ⊤

  none_enqueued : (p : Planned P) (c : Course (Completed P) (Planned P)) → MovesOn [] p c → KeepsAll p [] c
  none_enqueued p (goes cs q) a = grind (arith, append-nil)
  none_enqueued p (meets fault) a = tt

  rebalance_moves : {now : ℕ} {caps : Caps P} {p : Planned P} {c : Course (Completed P) (Planned P)}
      → Rebalances cmp now caps p c → IsSteady cmp order (record p { caps = caps; limited = true }) → MovesOn [] p c
  rebalance_moves {now = now} {caps = caps} {p = p} (none_sending {new = new} empty looks) h =
      stays p new (look_holds now (record p { caps = caps; limited = true }) new looks)
  rebalance_moves {caps = caps} {p = p} {c = c} (some_sending some event) h =
      on_from [] p (record p { caps = caps; limited = true }) c (λ k. refl) (settle_moves event h)

  queued_holds : (p : Planned P) (m : Message P) → IsOrderly cmp p → (k : Message P)
      → held_of cmp k (with_queued cmp p m) ≡ held_of cmp k p ++ of_pair cmp k (m ∷ [])
  queued_holds p m h k = grind (arith, queued_last, append_assoc)

  -- before any limit
  at_once_keeps : (now : ℕ) (m : Message P) (p : Planned P) → p.limited ≡ false → IsOrderly cmp p
      → KeepsAll p (m ∷ []) (completed_at_once cmp now p m)
  at_once_keeps now m p free h = by_late (m.should_deliver && nat_lt last_moment (now + m.latency))
    where
      at : ℕ
      at = if m.should_deliver then later_of (p.last_arrival m.origin m.recipient) (now + m.latency) else now

      nothing_held : (k : Message P) → held_of cmp k p ≡ []
      nothing_held k = grind arith

      by_late : (b : Bool)
          → KeepsAll p (m ∷ [])
          (cond b (meets MomentTooLate)
          (goes (completion_of m now (if m.should_deliver then Some at else None) ∷ [])
          (record p { last_arrival = raised cmp p.last_arrival m at })))
      by_late true = tt
      by_late false = record {
        done = m ∷ [];
        completions_are = ((now, (if m.should_deliver then Some at else None), refl), tt);
        each_pair = grind (arith, nothing_held, append-nil);
      }

  joined_keeps : (p : Planned P) (m : Message P) (c : Course (Completed P) (Planned P)) → IsOrderly cmp p
      → MovesOn [] (with_queued cmp p m) c → KeepsAll p (m ∷ []) c
  joined_keeps p m (goes cs q) h a = grind (arith, queued_holds)
  joined_keeps p m (meets fault) h a = tt

  enqueue_keeps : {now : ℕ} {m : Message P} {p : Planned P} {c : Course (Completed P) (Planned P)}
      → Enqueues cmp now m p c → IsOrderly cmp p → KeepsAll p (m ∷ []) c
  enqueue_keeps {now = now} {m = m} {p = p} (at_once free) h = at_once_keeps now m p free h
  enqueue_keeps (no_launch limits launch) h = tt
  enqueue_keeps {m = m} {p = p} {c = c} (launches {leavers = leavers} {mid = mid} limits launch finishes) h =
      let there : IsOrderly cmp (with_queued cmp p m) = queued_orderly cmp order p m limits h in
      let next : IsOrderly cmp mid = launch_orderly cmp order launch m leavers mid refl refl there in
      joined_keeps p m c h (on_from leavers _ mid c (launch_holds launch m leavers mid refl refl there)
      (finish_moves finishes next))

  kept_then : (p q : Planned P) (ms ns : List (Message P)) (cs : List (Completed P))
      (c : Course (Completed P) (Planned P)) → KeepsAll p ms (goes cs q) → KeepsAll q ns c
      → KeepsAll p (ms ++ ns) (preceded cs c)
  kept_then p q ms ns cs (goes ds r) a b =
      grind (
        arith,
        common_steps,
        filter-append,
        append_assoc,
        (zip-append IsCompletionOf cs ds a.done b.done a.completions_are b.completions_are),
      )
  kept_then p q ms ns cs (meets fault) a b = tt

  each_keeps : {now : ℕ} {ms : List (Message P)} {p : Planned P} {c : Course (Completed P) (Planned P)}
      → EnqueuesEach cmp now ms p c → IsOrderly cmp p → KeepsAll p ms c
  each_keeps (all_enqueued {p = p}) h = none_enqueued p (goes [] p) (stays p p (λ k. refl))
  each_keeps (one_stops one) h = tt
  each_keeps {now = now} (enqueues_one {m = m} {ms = ms} {p = p} {q = q} {cs = cs} {rest = rest} one more) h =
      kept_then p q (m ∷ []) ms cs rest (enqueue_keeps one h)
      (each_keeps more (obeys_orderly cmp order p q (call_enqueue now m) cs one h))

  pub call_keeps : (p : Planned P) (call : Call P) (c : Course (Completed P) (Planned P)) → Obeys cmp p call c
      → IsOrderly cmp p → KeepsAll p (enqueued (call ∷ [])) c
  call_keeps p (call_limit now peer egress ingress) c obeys h =
      none_enqueued p c (rebalance_moves obeys
      (recapped_steady cmp order p _ (limited_by_alike cmp order p.caps peer egress ingress h.caps) h))
  call_keeps p (call_limit_link now origin recipient cap) c obeys h =
      grind (arith, none_enqueued, rebalance_moves, recapped_steady, linked_by_alike)
  call_keeps p (call_enqueue now m) c obeys h = enqueue_keeps obeys h
  call_keeps p (call_enqueue_all now ms) c obeys h =
      subst (λ (ns : List (Message P)). KeepsAll p ns c) (sym (append-nil ms)) (each_keeps obeys h)
  call_keeps p (call_advance now) c obeys h = none_enqueued p c (advance_moves obeys.1 h)
  call_keeps p call_next c obeys h =
      subst (KeepsAll p []) (sym obeys) (none_enqueued p (goes [] p) (stays p p (λ k. refl)))
