-- Fairness, ticks and replies, found by computing: for worked examples.
use Rattle.link_simulation.proofs.Common.{common_steps, ◌≡◌, ℕ, zero, suc, ◌+◌, ◌-◌, ◌*◌, ◌≤◌, List, [], ◌∷◌, length}
use Rattle.link_simulation.proofs.Common.{Bool, true, false, cond, not, Option, Some, None, All, Contains, refl, sym}
use Rattle.link_simulation.proofs.Common.{ap, subst, arith, max, ◌&&◌, ◌==◌, nat_le, nat_lt, list_any, AllZip, Ordering}
use Rattle.link_simulation.proofs.Common.{IsTotalOrder, leb-true, ltb-true, eqb-true, and_parts, All-contains, All-nil}
use Rattle.link_simulation.proofs.Common.{Contains-append_left, Contains-append_right, Side, load, IsFair, Message}
use Rattle.link_simulation.proofs.Common.{capped_sides, rates_from, AreFair, World, Completed, Course, goes, meets}
use Rattle.link_simulation.proofs.Common.{and_then, flows, instant, is_done, ready, IsQuiet, last_moment, Error}
use Rattle.link_simulation.proofs.Common.{OutOfMemory, NumberTooLarge, MomentTooLate, FlowIdsUsedUp, drain_each}
use Rattle.link_simulation.proofs.Common.{drifted, Drains, Ticks, no_tick, one_tick, tick_faults, Passes, no_time}
use Rattle.link_simulation.proofs.Common.{quiet_tick, NextIs, never_comes, comes_next, Call, call_limit}
use Rattle.link_simulation.proofs.Common.{call_limit_link, call_enqueue, call_advance, call_enqueue_all, call_next, act}
use Rattle.link_simulation.proofs.Common.{moment_of, Runs, IsInTurn, Reply, reply_done, reply_next, reply_refused}
use Rattle.link_simulation.proofs.Common.{SameCompletion, Faults, Agrees, MayRefuse, by_bool}
use Rattle.std.specs.List.{list_all}
use Rattle.std.proofs.lemmas.List.Elements.{All-cons}
use Rattle.fairness.specs.Fairness.Fair.{HasBottleneck}
use Rattle.link_simulation.proofs.Rule.Limit.{no_sides}

-- ---- lists

all_found : {X : Type 0} (test : X → Bool) (Q : X → Type 0) → ((x : X) → test x ≡ true → Q x) → (xs : List X)
    → list_all test xs ≡ true → All Q xs
all_found test Q gives [] e = All-nil Q
all_found test Q gives (x ∷ xs) e =
    grind (arith, and_parts, All-cons, (all_found test Q gives xs (and_parts (test x) (list_all test xs) e).1))

one_found : {X : Type 0} (test : X → Bool) (xs : List X) → list_any test xs ≡ true
    → (x : X) × Contains xs x × (test x ≡ true)
one_found test [] e = cc
one_found {X} test (x ∷ xs) e =
    by_bool (test x) (λ is. (x, Contains-append_left (x ∷ []) xs x (0, omega arith, refl), is)) (λ is.
    let found : (y : X) × Contains xs y × (test y ≡ true) = (one_found test xs) (rw is at e) in
    (found.0, Contains-append_right (x ∷ []) xs found.0 found.1, found.2))

-- ---- what is looked for

pub record Holding (A : Type 0) : Type 0 where
  pub it : A

-- what is said of values that the goal tells
pub held : {A : Type 0} → Holding A → A
held h = h.it

-- ---- fairness

module _ (per : ℕ) (parts : ℕ → ℕ) where
  abbrev pub fits : Side → Bool
  fits side = nat_le (load parts side) (side.cap * per)

  abbrev pub holds : ℕ → Side → Bool
  holds flow side =
      list_any (λ user. user == flow) side.users && (load parts side == side.cap * per)
      && list_all (λ other. nat_le (parts other) (parts flow)) side.users

  abbrev pub are_held : List Side → Bool
  are_held sides = list_all (λ (side : Side). list_all (λ flow. list_any (holds flow) sides) side.users) sides

  -- whether the parts are fair
  abbrev pub is_fair : List Side → Bool
  is_fair sides = nat_lt 0 per && list_all fits sides && are_held sides

  bottleneck : (sides : List Side) (flow : ℕ) → list_any (holds flow) sides ≡ true → HasBottleneck sides per parts flow
  bottleneck sides flow e =
      let found : (side : Side) × Contains sides side × (holds flow side ≡ true) = one_found (holds flow) sides e in
      let side : Side = found.0 in
      let all : ((list_any (λ user. user == flow) side.users && (load parts side == side.cap * per)) ≡ true)
      × (list_all (λ other. nat_le (parts other) (parts flow)) side.users ≡ true) = grind (arith, and_parts) in
      let two = and_parts (list_any (λ user. user == flow) side.users) (load parts side == side.cap * per) all.0 in
      let user : (u : ℕ) × Contains side.users u × ((u == flow) ≡ true) = one_found (λ u. u == flow) side.users two.0 in
      let same : user.0 ≡ flow = eqb-true user.0 flow user.2 in
      record {
        side = side;
        uses = record { listed = found.1; used = subst (λ (u : ℕ). Contains side.users u) same user.1 };
        full = eqb-true (load parts side) (side.cap * per) two.1;
        greatest =
            all_found (λ other. nat_le (parts other) (parts flow)) (λ other. parts other ≤ parts flow)
            (λ other h. leb-true (parts other) (parts flow) h) side.users all.1;
      }

  pub fair_if_so : (sides : List Side) → is_fair sides ≡ true → IsFair sides per parts
  fair_if_so sides e = grind (arith, common_steps, and_parts, all_found, bottleneck, ltb-true, leb-true, All-contains)

-- ---- completions

module _ {P : Type 0} (cmp : P → P → Ordering) (order : IsTotalOrder cmp) where
  pub same_all : (cs : List (Completed P)) → AllZip (SameCompletion cmp) cs cs
  same_all [] = tt
  same_all (c ∷ cs) = grind (arith, (same_all cs))

-- ---- time

-- so many parts are a byte a second, and the message at each place gets its own
pub record Shares : Type 0 where
  pub per : ℕ
  pub parts : ℕ → ℕ

module _ {P : Type 0} (cmp : P → P → Ordering) (order : IsTotalOrder cmp) (plan : World P → Shares) where
  -- the next nanosecond at those shares
  abbrev pub drifts : World P → World P
  drifts w = let shares : Shares = plan w in drifted w shares.per (rates_from cmp w.caps shares.parts 0 (flows w)) 1

  -- whether they are fair
  abbrev pub is_planned : World P → Bool
  is_planned w = let shares : Shares = plan w in is_fair shares.per shares.parts (capped_sides cmp w.caps (flows w))

  drains : (w : World P) → is_planned w ≡ true → Drains cmp w (drifts w)
  drains w e = grind (arith, fair_if_so)

  -- so many nanoseconds
  abbrev pub ticked : ℕ → World P → Course (Completed P) (World P)
  ticked zero w = goes [] w
  ticked (suc n) w = and_then (instant cmp (drifts w)) (ticked n)

  abbrev goes_on : Course (Completed P) (World P) → (World P → Bool) → Bool
  goes_on (goes cs u) next = next u
  goes_on (meets fault) next = true

  abbrev pub may_tick : ℕ → World P → Bool
  may_tick zero w = true
  may_tick (suc n) w = is_planned w && goes_on (instant cmp (drifts w)) (may_tick n)

  pub ticks_so : (n : ℕ) (w : World P) → may_tick n w ≡ true → Ticks cmp n w (ticked n w)
  ticks_so zero w e = no_tick
  ticks_so (suc n) w e = grind (arith, goes_on, and_parts, by_instant, drains, (ticks_so n))
    where
      by_instant : (c : Course (Completed P) (World P)) → instant cmp (drifts w) ≡ c → goes_on c (may_tick n) ≡ true
          → Drains cmp w (drifts w) → ((u : World P) → may_tick n u ≡ true → Ticks cmp n u (ticked n u))
          → Ticks cmp (suc n) w (and_then c (ticked n))
      by_instant (goes cs u) is e d ih = one_tick d is (ih u e)
      by_instant (meets fault) is e d ih = tick_faults d is

  -- ---- the next event

  abbrev is_empty : {X : Type 0} → List X → Bool
  is_empty [] = true
  is_empty (x ∷ xs) = false

  abbrev is_quiet : World P → Bool
  is_quiet w = not (list_any (is_done cmp w) w.sending) && is_empty (ready cmp w.moment w)

  -- the first moment of so many at which something happens
  abbrev pub seek : ℕ → World P → Option ℕ
  seek zero w = None
  seek (suc n) w = cond (is_quiet (drifts w)) (seek n (drifts w)) (Some (drifts w).moment)

  -- nothing is in flight and nothing waits at their end, or something happens among them
  abbrev pub may_seek : ℕ → World P → Bool
  may_seek zero w = is_empty w.sending && is_empty w.waiting
  may_seek (suc n) w =
      is_planned w && cond (is_quiet (drifts w)) (may_seek n (drifts w)) (nat_le (drifts w).moment last_moment)

  empty_is : {X : Type 0} (xs : List X) → is_empty xs ≡ true → xs ≡ []
  empty_is [] e = refl
  empty_is (x ∷ xs) e = cc

  quiet_if_so : (w : World P) → is_quiet w ≡ true → IsQuiet cmp w.moment w
  quiet_if_so w e = grind arith

  loud_if_not : (w : World P) → is_quiet w ≡ false → ¬ IsQuiet cmp w.moment w
  loud_if_not w e quiet = grind arith

  -- an empty world rests for any time
  calm : (n : ℕ) (w : World P) → w.sending ≡ [] → w.waiting ≡ [] → (v : World P) × Passes cmp n w v
  calm zero w sends waits = (w, no_time)
  calm (suc n) w sends waits =
      let fair : AreFair cmp w.caps (flows w) 1 [] = grind (arith, no_sides) in
      let on : World P = drifted w 1 [] 1 in
      let sends_on : on.sending ≡ [] = ap (drain_each 1 [] 1) sends in
      let rest : (v : World P) × Passes cmp n on v = calm n on sends_on waits in (
        rest.0,
        quiet_tick (record { per = 1; rates = []; fair = fair; world = refl })
            (grind arith)
            rest.1,
      )

  step_next : (w v : World P) (o : Option ℕ) → Drains cmp w v → IsQuiet cmp v.moment v → NextIs cmp v o → NextIs cmp w o
  step_next w v o d q (never_comes {v = x} p) =
      let on : v.moment ≡ w.moment + 1 = ap (λ (u : World P). u.moment) d.world in
      by_end (last_moment - w.moment) refl on
    where
      by_end : (n : ℕ) → last_moment - w.moment ≡ n → v.moment ≡ w.moment + 1 → NextIs cmp w None
      by_end zero is on = never_comes (subst (λ (k : ℕ). Passes cmp k w w) (sym is) no_time)
      by_end (suc n) is on =
          let count : last_moment - v.moment ≡ n = omega arith in
          never_comes (subst (λ (k : ℕ). Passes cmp k w x) (sym is)
          (quiet_tick d q (subst (λ (k : ℕ). Passes cmp k v x) count p)))
  step_next w v o d q (comes_next p drains loud le) = comes_next (quiet_tick d q p) drains loud le

  pub next_so : (n : ℕ) (w : World P) → may_seek n w ≡ true → NextIs cmp w (seek n w)
  next_so zero w e =
      let two : (is_empty w.sending ≡ true) × (is_empty w.waiting ≡ true) = grind (arith, and_parts) in
      never_comes (calm (last_moment - w.moment) w (empty_is w.sending two.0) (empty_is w.waiting two.1)).1
  next_so (suc n) w e =
      let two = and_parts (is_planned w)
      (cond (is_quiet (drifts w)) (may_seek n (drifts w)) (nat_le (drifts w).moment last_moment)) e in
      by_bool (is_quiet (drifts w)) (λ is. rw is (step_next w (drifts w) (seek n (drifts w)) (drains w two.0)
      (quiet_if_so _ is) ((next_so n) (drifts w) (rw is at two.1)))) (λ is. rw is
      (comes_next no_time (drains w two.0) (loud_if_not _ is) (leb-true (drifts w).moment last_moment
      (rw is at two.1))))

  -- ---- replies

  -- the course of a call
  abbrev pub course_of : World P → Call P → ℕ → Course (Completed P) (World P)
  course_of w call now = and_then (ticked (now - w.moment) w) (λ v. act cmp v call)

  abbrev replied : Course (Completed P) (World P) → World P → (World P → List (Reply P)) → List (Reply P)
  replied (goes cs v) w rest = reply_done cs ∷ rest v
  replied (meets fault) w rest = reply_refused fault ∷ rest w

  abbrev may_reply : Course (Completed P) (World P) → World P → (World P → Bool) → Bool
  may_reply (goes cs v) w rest = rest v
  may_reply (meets OutOfMemory) w rest = false
  may_reply (meets NumberTooLarge) w rest = false
  may_reply (meets MomentTooLate) w rest = rest w
  may_reply (meets FlowIdsUsedUp) w rest = rest w

  -- what the simulation answers to the calls, where an event is sought for so many nanoseconds
  abbrev pub answers : ℕ → World P → List (Call P) → List (Reply P)
  answers n w [] = []
  answers n w (call_limit now peer egress ingress ∷ calls) =
      replied (course_of w (call_limit now peer egress ingress) now) w (λ v. answers n v calls)
  answers n w (call_limit_link now origin recipient cap ∷ calls) =
      replied (course_of w (call_limit_link now origin recipient cap) now) w (λ v. answers n v calls)
  answers n w (call_enqueue now m ∷ calls) = replied (course_of w (call_enqueue now m) now) w (λ v. answers n v calls)
  answers n w (call_enqueue_all now ms ∷ calls) =
      replied (course_of w (call_enqueue_all now ms) now) w (λ v. answers n v calls)
  answers n w (call_advance now ∷ calls) = replied (course_of w (call_advance now) now) w (λ v. answers n v calls)
  answers n w (call_next ∷ calls) = reply_next (seek n w) ∷ answers n w calls

  abbrev pub may_answer : ℕ → World P → List (Call P) → Bool
  may_answer n w [] = true
  may_answer n w (call_limit now peer egress ingress ∷ calls) =
      may_tick (now - w.moment) w
      && may_reply (course_of w (call_limit now peer egress ingress) now) w (λ v. may_answer n v calls)
  may_answer n w (call_limit_link now origin recipient cap ∷ calls) =
      may_tick (now - w.moment) w
      && may_reply (course_of w (call_limit_link now origin recipient cap) now) w (λ v. may_answer n v calls)
  may_answer n w (call_enqueue now m ∷ calls) =
      may_tick (now - w.moment) w && may_reply (course_of w (call_enqueue now m) now) w (λ v. may_answer n v calls)
  may_answer n w (call_enqueue_all now ms ∷ calls) =
      may_tick (now - w.moment) w && may_reply (course_of w (call_enqueue_all now ms) now) w (λ v. may_answer n v calls)
  may_answer n w (call_advance now ∷ calls) =
      may_tick (now - w.moment) w && may_reply (course_of w (call_advance now) now) w (λ v. may_answer n v calls)
  may_answer n w (call_next ∷ calls) = may_seek n w && may_answer n w calls

  pub runs_so : (w : World P) (call : Call P) (now : ℕ) → may_tick (now - w.moment) w ≡ true
      → Runs cmp w call now (course_of w call now)
  runs_so w call now e =
      record { ticked = ticked (now - w.moment) w; ticks = ticks_so (now - w.moment) w e; acts = refl }

  -- a call is accepted, or meets its fault
  abbrev Accepted : World P → Call P → List (Call P) → List (Completed P) → List (Reply P) → Type 0
  Accepted w call calls cs replies =
      (now : ℕ) × (ds : List (Completed P)) × (v : World P) × (moment_of call ≡ Some now)
      × Runs cmp w call now (goes ds v) × AllZip (SameCompletion cmp) cs ds × Agrees cmp v calls replies

  accepts : (w : World P) (call : Call P) (calls : List (Call P)) (now : ℕ) (cs : List (Completed P)) (v : World P)
      (replies : List (Reply P))
      → moment_of call ≡ Some now → may_tick (now - w.moment) w ≡ true → course_of w call now ≡ goes cs v
      → Agrees cmp v calls replies → Accepted w call calls cs replies
  accepts w call calls now cs v replies at ticks is rest =
      grind (arith, (runs_so w call now ticks), (same_all cmp order cs))

  faults : (w : World P) (call : Call P) (now : ℕ) (fault : Error) → moment_of call ≡ Some now
      → may_tick (now - w.moment) w ≡ true → course_of w call now ≡ meets fault → Faults cmp w call fault
  faults w call now fault at ticks is =
      (now, at, subst (λ (c : Course (Completed P) (World P)). Runs cmp w call now c) is (runs_so w call now ticks))

  abbrev Replied : World P → Call P → List (Call P) → List (Reply P) → Type 0
  Replied w call calls [] = ⊥
  Replied w call calls (reply_next t ∷ replies) = ⊥
  Replied w call calls (reply_done cs ∷ replies) = IsInTurn cmp w call → Accepted w call calls cs replies
  Replied w call calls (reply_refused why ∷ replies) =
      IsInTurn cmp w call → MayRefuse cmp w call why × Agrees cmp w calls replies

  limit_agrees : (w : World P) (now : ℕ) (peer : P) (egress ingress : Option ℕ) (calls : List (Call P))
      (replies : List (Reply P)) → Replied w (call_limit now peer egress ingress) calls replies
      → Agrees cmp w (call_limit now peer egress ingress ∷ calls) replies
  limit_agrees w now peer egress ingress calls _ h = h

  link_agrees : (w : World P) (now : ℕ) (origin recipient : P) (cap : Option ℕ) (calls : List (Call P))
      (replies : List (Reply P)) → Replied w (call_limit_link now origin recipient cap) calls replies
      → Agrees cmp w (call_limit_link now origin recipient cap ∷ calls) replies
  link_agrees w now origin recipient cap calls _ h = h

  enqueue_agrees : (w : World P) (now : ℕ) (m : Message P) (calls : List (Call P)) (replies : List (Reply P))
      → Replied w (call_enqueue now m) calls replies → Agrees cmp w (call_enqueue now m ∷ calls) replies
  enqueue_agrees w now m calls _ h = h

  all_agree : (w : World P) (now : ℕ) (ms : List (Message P)) (calls : List (Call P)) (replies : List (Reply P))
      → Replied w (call_enqueue_all now ms) calls replies → Agrees cmp w (call_enqueue_all now ms ∷ calls) replies
  all_agree w now ms calls _ h = h

  advance_agrees : (w : World P) (now : ℕ) (calls : List (Call P)) (replies : List (Reply P))
      → Replied w (call_advance now) calls replies → Agrees cmp w (call_advance now ∷ calls) replies
  advance_agrees w now calls _ h = h

  module _ (n : ℕ) (calls : List (Call P)) (ih : (v : World P) → may_answer n v calls ≡ true
      → Agrees cmp v calls (answers n v calls)) where
    reply_agrees : (w : World P) (call : Call P) (now : ℕ) → moment_of call ≡ Some now
        → (may_tick (now - w.moment) w && may_reply (course_of w call now) w (λ v. may_answer n v calls)) ≡ true
        → Replied w call calls (replied (course_of w call now) w (λ v. answers n v calls))
    reply_agrees w call now at e = grind (arith, and_parts, answers, accepts, faults)

  -- those replies agree
  pub answers_agree : (n : ℕ) (calls : List (Call P)) (w : World P) → may_answer n w calls ≡ true
      → Agrees cmp w calls (answers n w calls)
  answers_agree n [] w e = tt
  answers_agree n (call_limit now peer egress ingress ∷ calls) w e =
      grind (
        arith,
        common_steps,
        limit_agrees,
        answers,
        (reply_agrees n calls (answers_agree n calls) w (call_limit now peer egress ingress) now refl e),
      )
  answers_agree n (call_limit_link now origin recipient cap ∷ calls) w e =
      link_agrees w now origin recipient cap calls _ (reply_agrees n calls (answers_agree n calls) w
      (call_limit_link now origin recipient cap) now refl e)
  answers_agree n (call_enqueue now m ∷ calls) w e =
      enqueue_agrees w now m calls _ (reply_agrees n calls (answers_agree n calls) w (call_enqueue now m) now refl e)
  answers_agree n (call_enqueue_all now ms ∷ calls) w e =
      all_agree w now ms calls _ (reply_agrees n calls (answers_agree n calls) w (call_enqueue_all now ms) now refl e)
  answers_agree n (call_advance now ∷ calls) w e =
      advance_agrees w now calls _ (reply_agrees n calls (answers_agree n calls) w (call_advance now) now refl e)
  answers_agree n (call_next ∷ calls) w e = grind (arith, and_parts, next_so, (answers_agree n calls w))

  -- a list of replies that these are
  pub replied_so : (n : ℕ) (w : World P) (calls : List (Call P)) (replies : List (Reply P))
      → may_answer n w calls ≡ true → answers n w calls ≡ replies → Holding (Agrees cmp w calls replies)
  replied_so n w calls replies e is = record { it = subst (Agrees cmp w calls) is (answers_agree n calls w e) }

-- all messages share one cap evenly
abbrev pub evenly : {P : Type 0} → ℕ → World P → Shares
evenly cap w = record { per = max 1 (length w.sending); parts = λ place. cap }

-- all messages share the egress cap of the first peer evenly
abbrev pub evenly_by_first : World ℕ → Shares
evenly_by_first w =
    record { per = max 1 (length w.sending); parts = λ place. elim (w.caps.egress 1) [ None ↦ 0 | Some cap ↦ cap ] }
