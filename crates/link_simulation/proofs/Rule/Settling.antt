-- Settling in the planned world is settling in the world: the same completions or the same fault, and the two agree
-- afterwards.
use Rattle.link_simulation.proofs.Common.{◌≡◌, ℕ, zero, suc, ◌+◌, ◌≤◌, List, [], ◌∷◌, ◌++◌, map, length, Bool, true}
use Rattle.link_simulation.proofs.Common.{false, not, Option, None, refl, sym, ap, ◌∙◌, subst, arith, length-append}
use Rattle.link_simulation.proofs.Common.{filter, find, list_any, AllZip, Ordering, IsTotalOrder, map-append, or_from}
use Rattle.link_simulation.proofs.Common.{Completed, Course, Flight, World, flows, goes, is_done, meets, preceded}
use Rattle.link_simulation.proofs.Common.{raised, settle, EndsWith, is_late, completed, arrival, Finishes, PlansStart}
use Rattle.link_simulation.proofs.Common.{Settles, all_completed, completes, landed, late, settling, stopped, Message}
use Rattle.link_simulation.proofs.Common.{OneForEachPair, PairsAlike, SameMessage, same_pair, IsLeastMoment, Planned}
use Rattle.link_simulation.proofs.Common.{SomeReadyAt, SameCompletion, CoursesAlike, Follows, IsSettled, Tallies}
use Rattle.link_simulation.proofs.Common.{MomentTooLate, leaving, staying, arrived, launch_then, finish_within, Each}
use Rattle.link_simulation.proofs.Common.{zip-append}
use Rattle.link_simulation.proofs.Rule.Launch.{NoneDone, staying_none, next_alike, launch_alike}
use Rattle.link_simulation.proofs.Simulation.Queue.{over_state, settles_as_queue}
use Rattle.link_simulation.proofs.Simulation.AlikeMessages.{delivered_alike, peers_alike}
use Rattle.link_simulation.proofs.Rule.Accounts.{leavers_alike, account_follows}
use Rattle.link_simulation.proofs.Simulation.SettlingEnds.{settle_rests}
use Rattle.fairness.proofs.Lists.Filters.{length-filter}

-- ---- lists

all_without : {X : Type 0} (test : X → Bool) (xs : List X) → find test xs ≡ None → filter (λ x. not (test x)) xs ≡ xs
all_without test [] e = refl
all_without {X} test (x ∷ xs) e = grind (arith, (all_without test xs))

module _ {P : Type 0} (cmp : P → P → Ordering) (order : IsTotalOrder cmp) where
  -- ---- a message lands

  pub arrival_alike : (t : ℕ) (m n : Message P) → SameMessage cmp m n → arrival cmp t m ≡ arrival cmp t n
  arrival_alike t m n e = rw (delivered_alike cmp order m n e, e.latency) refl

  pub late_alike : (t : ℕ) (m n : Message P) → SameMessage cmp m n → is_late cmp t m ≡ is_late cmp t n
  late_alike t m n e = rw (delivered_alike cmp order m n e, e.latency) refl

  pub completed_alike : (t : ℕ) (m n : Message P) → SameMessage cmp m n
      → SameCompletion cmp (completed cmp t m) (completed cmp t n)
  completed_alike t m n e = grind (arith, delivered_alike)

  pub raised_alike : (last last' : P → P → Option ℕ) (m n : Message P) (at at' : ℕ) → PairsAlike cmp last last'
      → SameMessage cmp m n → at ≡ at' → PairsAlike cmp (raised cmp last m at) (raised cmp last' n at')
  raised_alike last last' m n at at' same e f p q r s pq rs =
      rw (
        peers_alike cmp order m.origin n.origin p q e.origin pq,
        peers_alike cmp order m.recipient n.recipient r s e.recipient rs,
        same p q r s pq rs,
        f,
      )
      refl

  landed_follows : (t : ℕ) (p : Planned P) (w : World P) (m n : Message P) → Follows cmp t p w → SameMessage cmp m n
      → Follows cmp t (landed cmp t p m) (arrived cmp t w n)
  landed_follows t p w m n follows e = grind (arith, raised_alike, arrival_alike)

  -- ---- courses

  abbrev pub CourseAlike : ℕ → Course (Completed P) (Planned P) → Course (Completed P) (World P) → Type 0
  CourseAlike t = CoursesAlike cmp (IsSettled cmp t)

  none_of : {X : Type 0} (test : X → Bool) (xs : List X) → Each (λ x. test x ≡ false) xs → list_any test xs ≡ false
  none_of test [] h = refl
  none_of test (x ∷ xs) h = or_from (test x) (list_any test xs) h.0 (none_of test xs h.1)

  preceded_alike : (t : ℕ) (c d : Completed P) (x : Course (Completed P) (Planned P))
      (y : Course (Completed P) (World P)) → SameCompletion cmp c d → CourseAlike t x y
      → CourseAlike t (preceded (c ∷ []) x) (preceded (d ∷ []) y)
  preceded_alike t c d (goes cs q) (goes ds v) e h = ((e, h.0), h.1)
  preceded_alike t c d (goes cs q) (meets g) e h = absurd h
  preceded_alike t c d (meets f) (goes ds v) e h = absurd h
  preceded_alike t c d (meets f) (meets g) e h = h

  pub looked : (t : ℕ) (p q : Planned P) (w : World P) → Follows cmp t p w → NoneDone cmp order w → PlansStart cmp t p q
      → IsSettled cmp t q w
  looked t p q w follows none looks = record {
    follows = subst (λ (x : Planned P). Follows cmp t x w) (sym looks.same) (grind arith);
    none_done = none_of (is_done cmp w) w.sending none;
    start =
        subst (λ (x : Planned P). IsLeastMoment (λ s. (t ≤ s) × SomeReadyAt cmp x s) q.start) (sym looks.same)
        looks.start;
  }

  -- ---- a queue of leavers

  pub no_queue : (n t : ℕ) (w : World P) → finish_within cmp n t [] w ≡ goes [] w
  unfolding finish_within
  no_queue zero t w = refl
  no_queue (suc n) t w = refl

  first_late : (n t : ℕ) (f : Flight P) (fs : List (Flight P)) (w : World P) → is_late cmp t f.message ≡ true
      → finish_within cmp (suc n) t (f ∷ fs) w ≡ meets MomentTooLate
  unfolding finish_within
  first_late n t f fs w e = rw e refl

  first_lands : (n t : ℕ) (f : Flight P) (fs : List (Flight P)) (w : World P) → is_late cmp t f.message ≡ false
      → finish_within cmp (suc n) t (f ∷ fs) w ≡ preceded (completed cmp t f.message ∷ [])
      (launch_then cmp (finish_within cmp n t) t fs (arrived cmp t w f.message)
      (find (same_pair cmp f.message) w.waiting))
  unfolding finish_within
  first_lands n t f fs w e = rw e refl

  abbrev pub WhenFollowed : ℕ → List (Message P) → Planned P → Course (Completed P) (Planned P) → Type 0
  WhenFollowed t ms p course =
      (n : ℕ) (fs : List (Flight P)) (w : World P) → Follows cmp t p w → NoneDone cmp order w
      → AllZip (SameMessage cmp) ms (map (λ (g : Flight P). g.message) fs) → length fs + length w.waiting ≤ n
      → CourseAlike t course (finish_within cmp n t fs w)

  pub finishes_alike : {t : ℕ} {ms : List (Message P)} {p : Planned P} {course : Course (Completed P) (Planned P)}
      → Finishes cmp t ms p course → WhenFollowed t ms p course
  finishes_alike {t = t} {p = p} (all_completed {q = q} looks) n [] w follows none all fuel =
      grind (arith, no_queue, looked)
  finishes_alike (all_completed looks) n (f ∷ fs) w follows none all fuel = absurd all
  finishes_alike (late too) n [] w follows none all fuel = absurd all
  finishes_alike (late too) zero (f ∷ fs) w follows none all fuel = absurd (omega arith)
  finishes_alike {t = t} (late {m = m} too) (suc n) (f ∷ fs) w follows none all fuel =
      grind (arith, first_late, late_alike)
  finishes_alike (stopped not_late launch) n [] w follows none all fuel = absurd all
  finishes_alike (stopped not_late launch) zero (f ∷ fs) w follows none all fuel = absurd (omega arith)
  finishes_alike {t = t} {p = p} (stopped {m = m} {fault = fault} not_late launch) (suc n) (f ∷ fs) w follows none all
      fuel =
      let there = landed_follows t p w m f.message follows all.0 in
      let fails = launch_alike cmp order launch _ fs f.message _ there none refl
      (next_alike cmp order t p w m f.message follows.tallies all.0) in
      subst (λ (c : Course (Completed P) (World P)). CourseAlike t (meets fault) c)
      (sym (first_lands n t f fs w (sym (late_alike t m f.message all.0) ∙ not_late) ∙ ap
      (preceded (completed cmp t f.message ∷ [])) (fails _))) refl
  finishes_alike (completes not_late launch rest) n [] w follows none all fuel = absurd all
  finishes_alike (completes not_late launch rest) zero (f ∷ fs) w follows none all fuel = absurd (omega arith)
  finishes_alike {t = t} {p = p} (completes {m = m} {ms = ms} {more = more} {q = q} {rest = after} not_late launch rest)
      (suc n) (f ∷ fs) w follows none all fuel =
      let there = landed_follows t p w m f.message follows all.0 in
      let on = launch_alike cmp order launch _ fs f.message _ there none refl
      (next_alike cmp order t p w m f.message follows.tallies all.0) in
      let leavers = subst (λ (ns : List (Message P)). AllZip (SameMessage cmp) (ms ++ more) ns)
      (sym (map-append (λ (g : Flight P). g.message) fs on.more)) (zip-append _ ms more _ _ all.1 on.leaves) in
      let many = length-append fs on.more in
      let enough = on.fewer in
      let ih = finishes_alike rest n (fs ++ on.more) on.world on.follows on.none leavers (omega arith) in
      grind (
        arith,
        (first_lands n t f fs w (sym (late_alike t m f.message all.0) ∙ not_late)),
        (preceded_alike t
            (completed cmp t m) (completed cmp t f.message) after (finish_within cmp n t (fs ++ on.more) on.world)
            (completed_alike t m f.message all.0) ih),
      )

  -- ---- settling

  abbrev RestsNone : World P → Type 0
  RestsNone v = find (is_done cmp v) v.sending ≡ None

  stays_same : (v : World P) → RestsNone v → staying cmp v ≡ v
  unfolding staying
  stays_same v e = ap (λ (q : List (Flight P)). record v { sending = q }) (all_without (is_done cmp v) v.sending e)

  settled_same : (c : Course (Completed P) (World P)) → EndsWith RestsNone c → over_state (staying cmp) c ≡ c
  unfolding over_state
  settled_same (goes cs v) h = ap (λ (u : World P). goes cs u) (stays_same v h)
  settled_same (meets fault) h = refl

  pub leaving_fewer : (w : World P) → length (leaving cmp w) ≤ length w.sending
  unfolding leaving
  leaving_fewer w = length-filter (is_done cmp w) w.sending

  pub staying_waiting : (w : World P) → (staying cmp w).waiting ≡ w.waiting
  unfolding staying
  staying_waiting w = refl

  pub settle_is_finish : (t : ℕ) (w : World P) → OneForEachPair cmp (flows w)
      → settle cmp t w ≡ finish_within cmp (length w.sending + length w.waiting) t (leaving cmp w) (staying cmp w)
  settle_is_finish t w one = sym (settled_same _ (settle_rests cmp order t w)) ∙ settles_as_queue cmp order _ t w one

  -- settling in the planned world is settling in the world
  pub settles_alike : {t : ℕ} {p : Planned P} {course : Course (Completed P) (Planned P)} → Settles cmp t p course
      → (w : World P) → Tallies cmp t p w → CourseAlike t course (settle cmp t w)
  settles_alike {t = t} {p = p} {course = course} (settling {leavers = leavers} {mid = mid} account finishes) w same =
      let n : ℕ = length w.sending + length w.waiting in
      let few : length (leaving cmp w) ≤ length w.sending = leaving_fewer w in
      let kept : length (staying cmp w).waiting ≡ length w.waiting = grind (arith, staying_waiting) in
      let queued = finishes_alike finishes n _ _ (account_follows cmp order t p mid leavers w same account)
      (staying_none cmp order w) (leavers_alike cmp order t p mid leavers w same account) (omega arith) in
      let way = settle_is_finish t w same.one_each in
      subst (λ (c : Course (Completed P) (World P)). CourseAlike t course c) (sym way) queued
