-- A call has the same course on planned worlds that are the same up to equal peers.
use Rattle.link_simulation.proofs.Common.{arith, ◌≡◌, ℕ, ◌<◌, ◌≤◌, List, [], ◌∷◌, ◌++◌, true, not, Option, Some, None}
use Rattle.link_simulation.proofs.Common.{refl, sym, ◌∙◌, subst, filter, AllZip, Ordering, IsTotalOrder, MomentTooLate}
use Rattle.link_simulation.proofs.Common.{FlowIdsUsedUp, Message, Caps, CapsAlike, SameMessage, Parts, rate_of}
use Rattle.link_simulation.proofs.Common.{Completed, Course, goes, meets, last_moment, preceded, completed, Call}
use Rattle.link_simulation.proofs.Common.{SameCompletion, Planned, RatedFlight, IsLeastMoment, SomeSpentAt, SomeReadyAt}
use Rattle.link_simulation.proofs.Common.{rated_messages, drained_to, next_of, is_spent, Accounts, PlansStart, Launches}
use Rattle.link_simulation.proofs.Common.{nothing_waits, too_early, no_id, starts, launched, landed, Finishes}
use Rattle.link_simulation.proofs.Common.{all_completed, late, stopped, completes, WakesEach, all_started, no_start}
use Rattle.link_simulation.proofs.Common.{no_finish, starts_one, Wakes, Settles, settling, Rebalances, none_sending}
use Rattle.link_simulation.proofs.Common.{some_sending, completed_at_once, with_queued, Enqueues, at_once, no_launch}
use Rattle.link_simulation.proofs.Common.{launches, Advances, no_more, at_finish, at_start, finish_stops, start_stops}
use Rattle.link_simulation.proofs.Common.{Obeys, EnqueuesEach, all_enqueued, one_stops, enqueues_one, IsSameRatedFlight}
use Rattle.link_simulation.proofs.Common.{IsSamePlanned, same_limit, same_limit_link, same_enqueue, same_enqueue_all}
use Rattle.link_simulation.proofs.Common.{same_advance, same_next, zip-append}
use Rattle.link_simulation.specs.Rule.SamePlanned.{IsSameCall, IsSameCourse}
use Rattle.link_simulation.proofs.Simulation.AlikeMessages.{fair_alike}
use Rattle.link_simulation.proofs.Rule.Launch.{OptionsAlike}
use Rattle.link_simulation.proofs.Rule.SameSteps.{least_same, none_same, some_same, IsSameLaunch, course_went}
use Rattle.link_simulation.proofs.Rule.SameSteps.{course_met, launch_went, launch_met, limited_by_same, linked_by_same}
use Rattle.link_simulation.proofs.Rule.SameSteps.{flows_same, some_spent_same, leaving_same, staying_same, may_same}
use Rattle.link_simulation.proofs.Rule.SameSteps.{next_same, ready_same, some_ready_same, next_event_same}
use Rattle.link_simulation.proofs.Rule.SameSteps.{recapped_same, accounted_same, planned_same, no_finish_same}
use Rattle.link_simulation.proofs.Rule.SameSteps.{no_start_same, launched_same, landed_same, with_queued_same}
use Rattle.link_simulation.proofs.Rule.SameSteps.{at_once_same}
use Rattle.link_simulation.proofs.Rule.Settling.{completed_alike, late_alike}
use Rattle.link_simulation.proofs.Rule.SamePlanned.{zip_turned, paced_turned, same_turned}

module _ {P : Type 0} (cmp : P → P → Ordering) (order : IsTotalOrder cmp) where
  -- ---- an account

  -- the one list, with the rates of the other from t on
  abbrev rerated : ℕ → List (RatedFlight P) → List (RatedFlight P) → List (RatedFlight P)
  rerated t [] gs = []
  rerated t (n ∷ ns) [] = []
  rerated t (n ∷ ns) (g ∷ gs) = record g { rate = n.rate; updated = t } ∷ rerated t ns gs

  abbrev Stays : ℕ → RatedFlight P → RatedFlight P → Type 0
  Stays t f g = (g.id ≡ f.id) × (g.message ≡ f.message) × (g.left ≡ f.left) × (g.updated ≡ t)

  rerated_same : (t : ℕ) (fs ns gs : List (RatedFlight P)) → AllZip (Stays t) fs ns
      → AllZip (IsSameRatedFlight cmp) fs gs → AllZip (IsSameRatedFlight cmp) ns (rerated t ns gs)
  rerated_same t [] [] gs stays all = tt
  rerated_same t [] (n ∷ ns) gs stays all = absurd stays
  rerated_same t (f ∷ fs) [] gs stays all = absurd stays
  rerated_same t (f ∷ fs) (n ∷ ns) [] stays all = absurd all
  rerated_same t (f ∷ fs) (n ∷ ns) (g ∷ gs) stays all = grind (arith, (rerated_same t fs ns gs))

  rerated_stays : (t : ℕ) (fs ns gs : List (RatedFlight P)) → AllZip (Stays t) fs ns
      → AllZip (IsSameRatedFlight cmp) fs gs → AllZip (Stays t) gs (rerated t ns gs)
  rerated_stays t [] [] [] stays all = tt
  rerated_stays t [] [] (g ∷ gs) stays all = absurd all
  rerated_stays t [] (n ∷ ns) gs stays all = absurd stays
  rerated_stays t (f ∷ fs) [] gs stays all = absurd stays
  rerated_stays t (f ∷ fs) (n ∷ ns) [] stays all = absurd all
  rerated_stays t (f ∷ fs) (n ∷ ns) (g ∷ gs) stays all =
      ((refl, refl, refl, refl), rerated_stays t fs ns gs stays.1 all.1)

  pub rated_so : (per : ℕ) (rates : Parts) (ns gs : List (RatedFlight P)) → AllZip (IsSameRatedFlight cmp) ns gs
      → AllZip (λ rate f. f.rate ≡ rate_of per rate) rates ns → AllZip (λ rate f. f.rate ≡ rate_of per rate) rates gs
  rated_so per [] [] [] all rated = tt
  rated_so per [] [] (g ∷ gs) all rated = absurd all
  rated_so per [] (n ∷ ns) gs all rated = absurd rated
  rated_so per (rate ∷ rates) [] gs all rated = absurd rated
  rated_so per (rate ∷ rates) (n ∷ ns) [] all rated = absurd all
  rated_so per (rate ∷ rates) (n ∷ ns) (g ∷ gs) all rated =
      (sym all.0.rate ∙ rated.0, rated_so per rates ns gs all.1 rated.1)

  -- something has nothing left at the same moments
  pub finish_so : (fs gs : List (RatedFlight P)) (o : Option ℕ) → AllZip (IsSameRatedFlight cmp) fs gs
      → IsLeastMoment (λ s. SomeSpentAt fs s) o → IsLeastMoment (λ s. SomeSpentAt gs s) o
  finish_so fs gs o all least = search (least_same, some_spent_same, zip_turned, paced_turned)

  -- the same account of a planned world
  abbrev pub Accounted : ℕ → Planned P → List (Message P) → Planned P → Type 0
  Accounted t q leavers new =
      (others : List (Message P)) × (n : Planned P) × Accounts cmp t q others n
      × AllZip (SameMessage cmp) leavers others × IsSamePlanned cmp new n

  pub accounts_same : (t : ℕ) (p q : Planned P) (leavers : List (Message P)) (new : Planned P) → IsSamePlanned cmp p q
      → Accounts cmp t p leavers new → Accounted t q leavers new
  accounts_same t p q leavers new same accounts =
      let stays : List (RatedFlight P) = filter (λ f. not (is_spent cmp p.caps f)) (drained_to t p.sending) in
      let stay : List (RatedFlight P) = filter (λ f. not (is_spent cmp q.caps f)) (drained_to t q.sending) in
      let gs : List (RatedFlight P) = rerated t new.sending stay in
      let n : Planned P = record q { sending = gs; accounted = t; finish = new.finish } in
      let alike : AllZip (IsSameRatedFlight cmp) stays stay = staying_same cmp order p q same t in
      let sending : AllZip (IsSameRatedFlight cmp) new.sending gs =
      rerated_same t stays new.sending stay accounts.stayed alike in (
        rated_messages (filter (is_spent cmp q.caps) (drained_to t q.sending)),
        n,
        record {
          per = accounts.per;
          rates = accounts.rates;
          left = refl;
          stayed = rerated_stays t stays new.sending stay accounts.stayed alike;
          fair =
              fair_alike cmp order p.caps q.caps same.caps (rated_messages new.sending) (rated_messages gs) accounts.per
              accounts.rates (flows_same cmp order new.sending gs sending) accounts.fair;
          rated = rated_so accounts.per accounts.rates new.sending gs sending accounts.rated;
          finish = finish_so new.sending gs new.finish sending accounts.finish;
          same = refl;
        },
        subst
            (λ (ms : List (Message P)). AllZip (SameMessage cmp) ms
            (rated_messages (filter (is_spent cmp q.caps) (drained_to t q.sending)))) (sym accounts.left)
            (flows_same cmp order (filter (is_spent cmp p.caps) (drained_to t p.sending))
            (filter (is_spent cmp q.caps) (drained_to t q.sending)) (leaving_same cmp order p q same t)),
        subst (λ (z : Planned P). IsSamePlanned cmp z n) (sym accounts.same)
            (accounted_same cmp order p q same t new.sending gs new.finish sending),
      )

  -- ---- the start, launches and finishes

  pub looks_same : (t : ℕ) (p q new : Planned P) → IsSamePlanned cmp p q → PlansStart cmp t p new
      → (n : Planned P) × PlansStart cmp t q n × IsSamePlanned cmp new n
  looks_same t p q new same looks =
      let n : Planned P = record q { start = new.start } in (
        n,
        record {
          start =
              least_same (λ s. (t ≤ s) × SomeReadyAt cmp p s) (λ s. (t ≤ s) × SomeReadyAt cmp q s) new.start
              (λ s h. (h.0, some_ready_same cmp order p q same s h.1))
              (λ s h. (h.0, some_ready_same cmp order q p (same_turned cmp order p q same) s h.1)) looks.start;
          same = refl;
        },
        subst (λ (z : Planned P). IsSamePlanned cmp z n) (sym looks.same) (planned_same cmp order p q same new.start),
      )

  launch_same : {t : ℕ} {p : Planned P} {o : Option (Message P)} {course : Course (Message P) (Planned P)}
      → Launches cmp t p o course → (q : Planned P) (r : Option (Message P))
      → IsSamePlanned cmp p q → OptionsAlike (SameMessage cmp) o r
      → (c : Course (Message P) (Planned P)) × Launches cmp t q r c × IsSameLaunch cmp order course c
  launch_same nothing_waits q None same alike = (goes [] q, nothing_waits, (tt, same))
  launch_same {t = t} {p = p} (too_early {m = m} early) q (Some n) same alike =
      (goes [] q, too_early (sym (may_same cmp order p q same t m n alike) ∙ early), (tt, same))
  launch_same {t = t} {p = p} (no_id {m = m} may last) q (Some n) same alike = (
    meets FlowIdsUsedUp,
    no_id (sym (may_same cmp order p q same t m n alike) ∙ may)
        (subst (λ (k : ℕ). last_moment ≤ k) same.next_id last),
    refl,
  )
  launch_same {t = t} {p = p} (starts {m = m} {leavers = leavers} {new = new} may below account) q (Some n) same alike =
      let a = accounts_same t (launched cmp t p m) (launched cmp t q n) leavers new
      (launched_same cmp order p q same t m n alike) account in (
        goes a.0 a.1,
        starts (sym (may_same cmp order p q same t m n alike) ∙ may)
            (subst (λ (k : ℕ). k < last_moment) same.next_id below) a.2,
        (a.3, a.4),
      )
  launch_same _ q _ same alike = absurd alike

  pub preceded_same : (cs ds : List (Completed P)) (x y : Course (Completed P) (Planned P))
      → AllZip (SameCompletion cmp) cs ds → IsSameCourse cmp x y → IsSameCourse cmp (preceded cs x) (preceded ds y)
  preceded_same cs ds (goes es p) (goes fs q) all same = (zip-append _ cs es ds fs all same.0, same.1)
  preceded_same cs ds (goes es p) (meets fault) all same = absurd same
  preceded_same cs ds (meets fault) (goes fs q) all same = absurd same
  preceded_same cs ds (meets fault) (meets other) all same = same

  finish_same : {t : ℕ} {ms : List (Message P)} {p : Planned P} {course : Course (Completed P) (Planned P)}
      → Finishes cmp t ms p course → (ns : List (Message P)) (q : Planned P)
      → IsSamePlanned cmp p q → AllZip (SameMessage cmp) ms ns
      → (c : Course (Completed P) (Planned P)) × Finishes cmp t ns q c × IsSameCourse cmp course c
  finish_same {t = t} (all_completed {p = p} {q = r} looks) [] q same all =
      let l : (n : Planned P) × PlansStart cmp t q n × IsSamePlanned cmp r n = looks_same t p q r same looks in
      (goes [] l.0, all_completed l.1, (tt, l.2))
  finish_same {t = t} (late {m = m} is) (n ∷ ns) q same all =
      (meets MomentTooLate, late (sym (late_alike cmp order t m n all.0) ∙ is), refl)
  finish_same {t = t} (stopped {m = m} {p = p} {fault = fault} is launch) (n ∷ ns) q same all = (
    meets fault,
    stopped (sym (late_alike cmp order t m n all.0) ∙ is)
        (launch_met cmp order (λ c. Launches cmp t (landed cmp t q n) (next_of cmp q n) c) fault
        (launch_same launch (landed cmp t q n) (next_of cmp q n) (landed_same cmp order p q same t m n all.0)
        (next_same cmp order p q same m n all.0))),
    refl,
  )
  finish_same {t = t} (completes {m = m} {ms = ms} {more = more} {p = p} {q = s} {rest = rest} is launch finishes)
      (n ∷ ns) q same all =
      let went = launch_went cmp order (λ c. Launches cmp t (landed cmp t q n) (next_of cmp q n) c) more s
      (launch_same launch _ _ (landed_same cmp order p q same t m n all.0) (next_same cmp order p q same m n all.0)) in
      let later = finish_same finishes (ns ++ went.0) went.1 went.4
      (zip-append (SameMessage cmp) ms more ns went.0 all.1 went.3) in (
        preceded (completed cmp t n ∷ []) later.0,
        completes {rest = later.0}
            (sym (late_alike cmp order t m n all.0) ∙ is) went.2 later.1,
        preceded_same (completed cmp t m ∷ []) (completed cmp t n ∷ []) rest later.0
            (completed_alike cmp order t m n all.0, tt) later.2,
      )
  finish_same _ _ q same all = absurd all

  -- ---- waking and settling

  wake_same : {t : ℕ} {ms : List (Message P)} {p : Planned P} {course : Course (Completed P) (Planned P)}
      → WakesEach cmp t ms p course → (ns : List (Message P)) (q : Planned P)
      → IsSamePlanned cmp p q → AllZip (SameMessage cmp) ms ns
      → (c : Course (Completed P) (Planned P)) × WakesEach cmp t ns q c × IsSameCourse cmp course c
  wake_same {t = t} (all_started {p = p} {q = r} looks) [] q same all =
      let l : (n : Planned P) × PlansStart cmp t q n × IsSamePlanned cmp r n = looks_same t p q r same looks in
      (goes [] l.0, all_started l.1, (tt, l.2))
  wake_same {t = t} (no_start {m = m} {p = p} {fault = fault} launch) (n ∷ ns) q same all = (
    meets fault,
    no_start
        (launch_met cmp order (λ c. Launches cmp t q (next_of cmp q n) c) fault
        (launch_same launch q (next_of cmp q n) same (next_same cmp order p q same m n all.0))),
    refl,
  )
  wake_same {t = t} (no_finish {m = m} {more = more} {p = p} {q = s} {fault = fault} launch finishes) (n ∷ ns) q same
      all =
      let went = launch_went cmp order (λ c. Launches cmp t q (next_of cmp q n) c) more s
      (launch_same launch q (next_of cmp q n) same (next_same cmp order p q same m n all.0)) in (
        meets fault,
        no_finish went.2
            (course_met cmp order (λ c. Finishes cmp t went.0 went.1 c) fault
            (finish_same finishes went.0 went.1 went.4 went.3)),
        refl,
      )
  wake_same {t = t}
      (starts_one {m = m} {ms = ms} {more = more} {p = p} {q = s} {r = r} {cs = cs} {rest = rest} launch finishes wakes)
      (n ∷ ns) q same all =
      let went = launch_went cmp order (λ c. Launches cmp t q (next_of cmp q n) c) more s
      (launch_same launch q (next_of cmp q n) same (next_same cmp order p q same m n all.0)) in
      let done = course_went cmp order (λ c. Finishes cmp t went.0 went.1 c) cs r
      (finish_same finishes went.0 went.1 went.4 went.3) in
      let later = wake_same wakes ns done.1 done.4 all.1 in (
        preceded done.0 later.0,
        starts_one {rest = later.0} went.2 done.2 later.1,
        preceded_same cs done.0 rest later.0 done.3 later.2,
      )
  wake_same _ _ q same all = absurd all

  pub wakes_same : (t : ℕ) (p q : Planned P) (course : Course (Completed P) (Planned P)) → IsSamePlanned cmp p q
      → Wakes cmp t p course → (c : Course (Completed P) (Planned P)) × Wakes cmp t q c × IsSameCourse cmp course c
  wakes_same t p q course same wakes = wake_same wakes _ q same (ready_same cmp order p q same t)

  settle_same : {t : ℕ} {p : Planned P} {course : Course (Completed P) (Planned P)} → Settles cmp t p course
      → (q : Planned P) → IsSamePlanned cmp p q
      → (c : Course (Completed P) (Planned P)) × Settles cmp t q c × IsSameCourse cmp course c
  settle_same {t = t} {p = p} {course = course} (settling {leavers = leavers} {mid = mid} accounts finishes) q same =
      let a : Accounted t q leavers mid = accounts_same t p q leavers mid same accounts in
      let done = finish_same finishes a.0 a.1 a.4 a.3 in
      (done.0, settling a.2 done.1, done.2)

  -- ---- calls

  rebalance_same : {now : ℕ} {caps : Caps P} {p : Planned P} {course : Course (Completed P) (Planned P)}
      → Rebalances cmp now caps p course → (others : Caps P) (q : Planned P)
      → CapsAlike cmp caps others → IsSamePlanned cmp p q
      → (c : Course (Completed P) (Planned P)) × Rebalances cmp now others q c × IsSameCourse cmp course c
  rebalance_same {now = now} {caps = caps} {p = p} (none_sending {new = new} empty looks) others q alike same =
      let l = looks_same now (record p { caps = caps; limited = true }) (record q { caps = others; limited = true })
      new (recapped_same cmp order p q same caps others alike) looks in (
        goes [] l.0,
        none_sending (none_same (IsSameRatedFlight cmp) p.sending q.sending same.sending empty) l.1,
        (tt, l.2),
      )
  rebalance_same {now = now} {caps = caps} {p = p} {course = course} (some_sending some settles) others q alike same =
      let done = settle_same settles (record q { caps = others; limited = true }) (recapped_same cmp order p q same
      caps others alike) in
      (done.0, some_sending (some_same (IsSameRatedFlight cmp) p.sending q.sending same.sending some) done.1, done.2)

  enqueue_same : {now : ℕ} {m : Message P} {p : Planned P} {course : Course (Completed P) (Planned P)}
      → Enqueues cmp now m p course → (n : Message P) (q : Planned P) → SameMessage cmp m n → IsSamePlanned cmp p q
      → (c : Course (Completed P) (Planned P)) × Enqueues cmp now n q c × IsSameCourse cmp course c
  enqueue_same {now = now} {m = m} {p = p} (at_once free) n q messages same = (
    completed_at_once cmp now q n,
    at_once (sym same.limited ∙ free),
    at_once_same cmp order p q same now m n messages,
  )
  enqueue_same {now = now} {m = m} {p = p} (no_launch {fault = fault} limited launch) n q messages same =
      let queues : IsSamePlanned cmp (with_queued cmp p m) (with_queued cmp q n) = grind (arith, with_queued_same) in (
        meets fault,
        no_launch (sym same.limited ∙ limited)
            (launch_met cmp order (λ c. Launches cmp now (with_queued cmp q n)
            (next_of cmp (with_queued cmp q n) n) c) fault
            (launch_same launch (with_queued cmp q n) (next_of cmp (with_queued cmp q n) n) queues
            (next_same cmp order (with_queued cmp p m) (with_queued cmp q n) queues m n messages))),
        refl,
      )
  enqueue_same {now = now} {m = m} {p = p} {course = course}
      (launches {leavers = leavers} {mid = mid} limited launch finishes) n q messages same =
      let queues : IsSamePlanned cmp (with_queued cmp p m) (with_queued cmp q n) = grind (arith, with_queued_same) in
      let went = launch_went cmp order
      (λ c. Launches cmp now (with_queued cmp q n) (next_of cmp (with_queued cmp q n) n) c) leavers mid (launch_same
      launch (with_queued cmp q n) (next_of cmp (with_queued cmp q n) n) queues
      (next_same cmp order (with_queued cmp p m) (with_queued cmp q n) queues m n messages)) in
      let done = finish_same finishes went.0 went.1 went.4 went.3 in
      (done.0, launches {course = done.0} (sym same.limited ∙ limited) went.2 done.1, done.2)

  abbrev pub Went : (Course (Completed P) (Planned P) → Type 0) → List (Completed P) → Planned P → Type 0
  Went Q cs p =
      (ds : List (Completed P)) × (s : Planned P) × Q (goes ds s) × AllZip (SameCompletion cmp) cs ds
      × IsSamePlanned cmp p s

  each_same : {now : ℕ} {ms : List (Message P)} {p : Planned P} {course : Course (Completed P) (Planned P)}
      → EnqueuesEach cmp now ms p course → (ns : List (Message P)) (q : Planned P)
      → AllZip (SameMessage cmp) ms ns → IsSamePlanned cmp p q
      → (c : Course (Completed P) (Planned P)) × EnqueuesEach cmp now ns q c × IsSameCourse cmp course c
  each_same all_enqueued [] q messages same = (goes [] q, all_enqueued, (tt, same))
  each_same {now = now} (one_stops {fault = fault} one) (n ∷ ns) q messages same =
      grind (arith, one_stops, course_met, enqueue_same)
  each_same {now = now} (enqueues_one {q = r} {cs = cs} {rest = rest} one more) (n ∷ ns) q messages same =
      let done : Went (λ c. Enqueues cmp now n q c) cs r = grind (arith, course_went, enqueue_same) in
      let later = each_same more ns done.1 messages.1 done.4 in (
        preceded done.0 later.0,
        enqueues_one {rest = later.0} done.2 later.1,
        preceded_same cs done.0 rest later.0 done.3 later.2,
      )
  each_same _ _ q messages same = absurd messages

  advance_same : {now : ℕ} {p : Planned P} {n : ℕ} {course : Course (Completed P) (Planned P)}
      → Advances cmp now p n course → (q : Planned P) → IsSamePlanned cmp p q
      → (c : Course (Completed P) (Planned P)) × Advances cmp now q n c × IsSameCourse cmp course c
  advance_same {now = now} (no_more {p = p} {course = course} after wakes) q same =
      grind (arith, wakes_same, no_more, next_event_same)
  advance_same {now = now}
      (at_finish {p = p} {q = r} {t = t} {n = n} {cs = cs} {rest = rest} finish next within settles advances) q same =
      let done = course_went cmp order (λ c. Settles cmp t (record q { finish = None }) c) cs r (settle_same settles
      (record q { finish = None }) (no_finish_same cmp order p q same)) in
      let later = advance_same advances done.1 done.4 in (
        preceded done.0 later.0,
        at_finish {rest = later.0} (sym same.finish ∙ finish)
            (sym (next_event_same cmp order p q same) ∙ next) within done.2 later.1,
        preceded_same cs done.0 rest later.0 done.3 later.2,
      )
  advance_same {now = now}
      (at_start {p = p} {q = r} {t = t} {n = n} {cs = cs} {rest = rest} not_finish next within wakes advances) q same =
      let done = course_went cmp order (λ c. Wakes cmp t (record q { start = None }) c) cs r (wakes_same t (record p
      { start = None }) (record q { start = None }) (goes cs r) (no_start_same cmp order p q same) wakes) in
      let later = advance_same advances done.1 done.4 in (
        preceded done.0 later.0,
        at_start {rest = later.0} (λ e. not_finish (same.finish ∙ e))
            (sym (next_event_same cmp order p q same) ∙ next) within done.2 later.1,
        preceded_same cs done.0 rest later.0 done.3 later.2,
      )
  advance_same (finish_stops {p = p} {t = t} {fault = fault} finish next within settles) q same = (
    meets fault,
    finish_stops (sym same.finish ∙ finish) (sym (next_event_same cmp order p q same) ∙ next) within
        (course_met cmp order (λ c. Settles cmp t (record q { finish = None }) c) fault
        (settle_same settles (record q { finish = None }) (no_finish_same cmp order p q same))),
    refl,
  )
  advance_same (start_stops {p = p} {t = t} {fault = fault} not_finish next within wakes) q same = (
    meets fault,
    start_stops (λ e. not_finish (same.finish ∙ e))
        (sym (next_event_same cmp order p q same) ∙ next) within
        (course_met cmp order (λ c. Wakes cmp t (record q { start = None }) c) fault
        (wakes_same t (record p { start = None }) (record q { start = None }) (meets fault)
        (no_start_same cmp order p q same) wakes)),
    refl,
  )

  pub advances_same : (p q : Planned P) (now n : ℕ) (course : Course (Completed P) (Planned P)) → IsSamePlanned cmp p q
      → Advances cmp now p n course
      → (c : Course (Completed P) (Planned P)) × Advances cmp now q n c × IsSameCourse cmp course c
  advances_same p q now n course same advances = advance_same advances q same

  obey_same : {call other : Call P} → IsSameCall cmp call other
      → (p q : Planned P) (course : Course (Completed P) (Planned P)) → IsSamePlanned cmp p q → Obeys cmp p call course
      → (c : Course (Completed P) (Planned P)) × Obeys cmp q other c × IsSameCourse cmp course c
  obey_same (same_limit {now = now} {peer = peer} {other = other} {egress = egress} {ingress = ingress} peers) p q
      course same obeys =
      rebalance_same obeys _ q (limited_by_same cmp order p.caps q.caps peer other egress ingress same.caps peers) same
  obey_same (same_limit_link {now = now} {origin = origin} {recipient = recipient} {o = o} {r = r} {cap = cap} origins
      recipients) p q course same obeys = rebalance_same obeys _ q (linked_by_same cmp order p.caps q.caps origin
      recipient o r cap same.caps origins recipients) same
  obey_same (same_enqueue {now = now} {m = m} {n = n} messages) p q course same obeys = grind (arith, enqueue_same)
  obey_same (same_enqueue_all {now = now} {ms = ms} {ns = ns} messages) p q course same obeys = grind (arith, each_same)
  obey_same (same_advance {now = now}) p q course same (n, advances) = grind (arith, advance_same)
  obey_same same_next p q course same obeys = grind arith

  pub obeys_same : (p q : Planned P) (call other : Call P) (course : Course (Completed P) (Planned P))
      → IsSamePlanned cmp p q → IsSameCall cmp call other → Obeys cmp p call course
      → (c : Course (Completed P) (Planned P)) × Obeys cmp q other c × IsSameCourse cmp course c
  obeys_same p q call other course same calls obeys = obey_same calls p q course same obeys
