-- Each event makes less of what is still to happen.
use Rattle.link_events.proofs.Common.{◌≡◌, ℕ, zero, suc, ◌+◌, ◌*◌, ◌<◌, ◌≤◌, List, [], ◌∷◌, length, Bool, true, false}
use Rattle.link_events.proofs.Common.{cond, if◌then◌else◌, ◌||◌, inl, inr, Option, Some, None, refl, sym, ap, ◌∙◌}
use Rattle.link_events.proofs.Common.{subst, arith, length-append, ◌==◌, find, filter, list_any, Ordering, IsTotalOrder}
use Rattle.link_events.proofs.Common.{length-map, eq-eqb, or_left, by_bool, without_first, Event, Finish, Start}
use Rattle.link_events.proofs.Common.{Message, same_pair, Completed, Course, goes, meets, preceded, fronts, Planned}
use Rattle.link_events.proofs.Common.{RatedFlight, SomeReadyAt, next_of, left_at, drained_to, is_spent, may_launch}
use Rattle.link_events.proofs.Common.{Accounts, PlansStart, Launches, nothing_waits, too_early, no_id, starts, launched}
use Rattle.link_events.proofs.Common.{landed, Finishes, all_completed, late, stopped, completes, Settles, settling}
use Rattle.link_events.proofs.Common.{WakesEach, all_started, no_start, no_finish, starts_one, Wakes, whole, IsDue}
use Rattle.link_events.proofs.Common.{Happens, Each, pair_itself, fronts_are_first}
use Rattle.std.proofs.Common.{slice_get}
use Rattle.std.proofs.lemmas.Bool.{or_right}
use Rattle.link_simulation.specs.Rule.Planned.{IsLeastMoment, SomeSpentAt}
use Rattle.link_events.proofs.Steps.MessageCounts.{accounts_keep, accounts_waiting, length-without}
use Rattle.link_simulation.proofs.Simulation.InOrder.{Somewhere, in_fronts}
use Rattle.link_simulation.proofs.Rule.Advance.{earlier_start}

any_somewhere : {X : Type 0} (f : X → Bool) (xs : List X) → Somewhere (λ x. f x ≡ true) xs → list_any f xs ≡ true
any_somewhere f [] h = absurd h
any_somewhere f (x ∷ xs) (inl h) = or_left (f x) (list_any f xs) h
any_somewhere f (x ∷ xs) (inr h) = or_right (f x) (list_any f xs) (any_somewhere f xs h)

-- whether a message is spent at the planned finish
abbrev pub spent_at : {P : Type 0} → List (RatedFlight P) → Option ℕ → Bool
spent_at fs None = true
spent_at fs (Some t) = list_any (λ f. (left_at t f).num == 0) fs

spent_found : {P : Type 0} (t : ℕ) (fs : List (RatedFlight P)) (i : ℕ) (f : RatedFlight P) → slice_get fs i ≡ Some f
    → (left_at t f).num ≡ 0 → list_any (λ f. (left_at t f).num == 0) fs ≡ true
spent_found t [] i f is spent = cc
spent_found t (x ∷ fs) zero f is spent =
    let same : x ≡ f = cc in
    or_left ((left_at t x).num == 0) _ (ap (λ g. (left_at t g).num == 0) same ∙ eq-eqb ((left_at t f).num) 0 spent)
spent_found t (x ∷ fs) (suc i) f is spent = or_right ((left_at t x).num == 0) _ (spent_found t fs i f is spent)

spent_least : {P : Type 0} (fs : List (RatedFlight P)) (o : Option ℕ) → IsLeastMoment (λ s. SomeSpentAt fs s) o
    → spent_at fs o ≡ true
spent_least fs None h = refl
spent_least fs (Some t) h = spent_found t fs h.1.0 h.1.1 h.1.2 h.1.4

-- what is spent leaves
spent_leaves : {P : Type 0} (cmp : P → P → Ordering) (p : Planned P) (t : ℕ) (fs : List (RatedFlight P))
    → list_any (λ f. (left_at t f).num == 0) fs ≡ true → 1 ≤ length (filter (is_spent cmp p.caps) (drained_to t fs))
spent_leaves cmp p t [] h = cc
spent_leaves {P} cmp p t (f ∷ fs) h = by_first ((left_at t f).num == 0) refl h (spent_leaves cmp p t fs)
  where
    g : RatedFlight P
    g = record f { left = left_at t f; updated = t }

    more : (b : Bool) → 1 ≤ length (filter (is_spent cmp p.caps) (drained_to t fs))
        → 1 ≤ length (cond b (g ∷ filter (is_spent cmp p.caps) (drained_to t fs))
        (filter (is_spent cmp p.caps) (drained_to t fs)))
    more true le = omega arith
    more false le = le

    one : (b : Bool) → b ≡ true
        → 1
        ≤ length
        (cond b (g ∷ filter (is_spent cmp p.caps) (drained_to t fs))
        (filter (is_spent cmp p.caps) (drained_to t fs)))
    one true is = omega arith
    one false is = cc

    by_first : (b : Bool) → ((left_at t f).num == 0) ≡ b → (b || list_any (λ f. (left_at t f).num == 0) fs) ≡ true
        → (list_any (λ f. (left_at t f).num == 0) fs ≡ true
        → 1 ≤ length (filter (is_spent cmp p.caps) (drained_to t fs)))
        → 1 ≤ length (filter (is_spent cmp p.caps) (drained_to t (f ∷ fs)))
    by_first true is h ih = one (is_spent cmp p.caps g) (or_left ((left_at t f).num == 0) _ is)
    by_first false is h ih = more (is_spent cmp p.caps g) (ih h)

module _ {P : Type 0} (cmp : P → P → Ordering) where
  -- whether some pair is ready at the planned start
  abbrev pub ready_at : Planned P → Option ℕ → Bool
  ready_at p None = true
  ready_at p (Some t) = list_any (may_launch cmp t p) (fronts cmp p.waiting)

  -- each message that waits starts and finishes, each in flight finishes
  abbrev pub weight : Planned P → ℕ
  weight p = 2 * length p.waiting + length p.sending

  abbrev lack : Bool → ℕ
  lack b = if b then 0 else 1

  -- the events that may still come
  abbrev pub events_left : Planned P → ℕ
  events_left p = weight p + lack (spent_at p.sending p.finish) + lack (ready_at p p.start)

  accounts_fit : (t : ℕ) (old new : Planned P) (leavers : List (Message P)) → Accounts cmp t old leavers new
      → spent_at new.sending new.finish ≡ true
  accounts_fit t old new leavers a = spent_least new.sending new.finish a.finish

  module _ (order : IsTotalOrder cmp) where
    some_ready : (p : Planned P) (s : ℕ) → SomeReadyAt cmp p s
        → list_any (may_launch cmp s p) (fronts cmp p.waiting) ≡ true
    some_ready p s h =
        any_somewhere (may_launch cmp s p) (fronts cmp p.waiting)
        (in_fronts cmp order (λ m. may_launch cmp s p m ≡ true) h.0 p.waiting h.1 h.2)

    looks_ready : (t : ℕ) (p : Planned P) (o : Option ℕ) → IsLeastMoment (λ s. (t ≤ s) × SomeReadyAt cmp p s) o
        → ready_at p o ≡ true
    looks_ready t p None h = refl
    looks_ready t p (Some s) h = some_ready p s h.1.1

    -- nothing more is left to happen, the finish fits if it did, and the start does
    record Lightens (p q : Planned P) : Type 0 where
      pub weighs : weight q ≤ weight p
      pub finish : spent_at p.sending p.finish ≡ true → spent_at q.sending q.finish ≡ true
      pub start : ready_at q q.start ≡ true

    looks_light : (t : ℕ) (p q : Planned P) → PlansStart cmp t p q → Lightens p q
    looks_light t p q l =
        let there : Lightens p (record p { start = q.start }) =
        record { weighs = omega arith; finish = λ h. h; start = looks_ready t p q.start l.start } in
        subst (Lightens p) (sym l.same) there

    -- a launch
    record Launched (old : Planned P) (leavers : List (Message P)) (new : Planned P) : Type 0 where
      pub weighs : length leavers + weight new ≤ weight old
      pub finish : spent_at old.sending old.finish ≡ true → spent_at new.sending new.finish ≡ true

    abbrev LaunchedIn : Planned P → Course (Message P) (Planned P) → Type 0
    LaunchedIn old (goes leavers new) = Launched old leavers new
    LaunchedIn old (meets e) = Unit {0}

    start_lighter : (t : ℕ) (old new : Planned P) (m : Message P) (leavers : List (Message P)) (f : Message P → Bool)
        → Accounts cmp t (launched cmp t old m) leavers new → find f old.waiting ≡ Some m
        → length leavers + weight new + 1 ≤ weight old
    start_lighter t old new m leavers f a found =
        let one : length (without_first (same_pair cmp m) old.waiting) + 1 ≡ length old.waiting =
        length-without f (same_pair cmp m) m old.waiting found (pair_itself cmp order m) in
        let kept : length leavers + length new.sending ≡ length (launched cmp t old m).sending =
        accounts_keep cmp t (launched cmp t old m) new leavers a in
        let more : length (launched cmp t old m).sending ≡ length old.sending + 1
        = length-append old.sending (record {
          id = old.next_id;
          message = m;
          left = whole (length m.bytes);
          rate = Some (whole 0);
          updated = t;
        } ∷ []) in
        let waits : length new.waiting ≡ length (without_first (same_pair cmp m) old.waiting) =
        ap length (accounts_waiting cmp t (launched cmp t old m) new leavers a) in
        omega (arith, one, kept, more, waits)

    launch_lightens : {t : ℕ} {old : Planned P} {first : Option (Message P)} {course : Course (Message P) (Planned P)}
        → Launches cmp t old first course → (f : Message P → Bool) → first ≡ find f old.waiting → LaunchedIn old course
    launch_lightens nothing_waits f found = record { weighs = omega arith; finish = λ h. h }
    launch_lightens (too_early early) f found = record { weighs = omega arith; finish = λ h. h }
    launch_lightens (no_id may used) f found = tt
    launch_lightens {t = t} {old = old} (starts {m = m} {leavers = ls} {new = new} may id a) f found =
        let lighter : length ls + weight new + 1 ≤ weight old = start_lighter t old new m ls f a (sym found) in
        record { weighs = omega arith; finish = λ h. accounts_fit t (launched cmp t old m) new ls a }

    -- a message that may start does
    launch_first : {t : ℕ} {old : Planned P} {first : Option (Message P)} {course : Course (Message P) (Planned P)}
        → Launches cmp t old first course → (m : Message P) (f : Message P → Bool) → find f old.waiting ≡ Some m
        → first ≡ Some m → may_launch cmp t old m ≡ true
        → (leavers : List (Message P)) (new : Planned P) → course ≡ goes leavers new
        → length leavers + weight new + 1 ≤ weight old
    launch_first nothing_waits m f found is may leavers new e = cc
    launch_first {t = t} {old = old} (too_early {m = n} early) m f found is may leavers new e =
        let same : n ≡ m = cc in let no : may_launch cmp t old m ≡ false
        = ap (may_launch cmp t old) (sym same) ∙ early in cc
    launch_first (no_id h used) m f found is may leavers new e = cc
    launch_first {t = t} {old = old} (starts {m = n} {leavers = ls} {new = q} h id a) m f found is may leavers new e =
        let same : n ≡ m = cc in
        let both : length ls + weight q ≡ length leavers + weight new = ap counted e in
        let lighter : length ls + weight q + 1 ≤ weight old =
        start_lighter t old q n ls f a (found ∙ ap Some (sym same)) in
        omega (arith, both, lighter)
      where
        counted : Course (Message P) (Planned P) → ℕ
        counted (goes xs q) = length xs + weight q
        counted (meets e) = 0

    abbrev LightensIn : Planned P → Course (Completed P) (Planned P) → Type 0
    LightensIn p (goes cs q) = Lightens p q
    LightensIn p (meets e) = Unit {0}

    after_first : (p q : Planned P) (cs : List (Completed P)) (rest : Course (Completed P) (Planned P))
        → weight q ≤ weight p → (spent_at p.sending p.finish ≡ true → spent_at q.sending q.finish ≡ true)
        → LightensIn q rest → LightensIn p (preceded cs rest)
    after_first p q cs (goes xs r) le fits h =
        record { weighs = omega (arith, h.weighs); finish = λ k. h.finish (fits k); start = h.start }
    after_first p q cs (meets e) le fits h = tt

    finishes_lighten : {t : ℕ} {ms : List (Message P)} {p : Planned P} {course : Course (Completed P) (Planned P)}
        → Finishes cmp t ms p course → LightensIn p course
    finishes_lighten {t = t} {p = p} (all_completed {q = q} l) = looks_light t p q l
    finishes_lighten (late h) = tt
    finishes_lighten (stopped in_time l) = tt
    finishes_lighten {t = t} {p = p} (completes {m = m} {more = more} {q = q} {rest = rest} in_time l f) =
        let one : Launched (landed cmp t p m) more q = launch_lightens l (same_pair cmp m) refl in
        after_first p q (_ ∷ []) rest (omega (arith, one.weighs)) one.finish (finishes_lighten f)

    -- ---- the starts

    wakes_lighten : {t : ℕ} {ms : List (Message P)} {p : Planned P} {course : Course (Completed P) (Planned P)}
        → WakesEach cmp t ms p course → LightensIn p course
    wakes_lighten {t = t} {p = p} (all_started {q = q} l) = looks_light t p q l
    wakes_lighten (no_start l) = tt
    wakes_lighten (no_finish l f) = tt
    wakes_lighten {p = p} (starts_one {m = m} {q = q} {r = r} {cs = cs} {rest = rest} l f w) =
        let one : Launched p _ q = launch_lightens l (same_pair cmp m) refl in
        let two : Lightens q r = finishes_lighten f in
        after_first p r cs rest (omega (arith, one.weighs, two.weighs)) (λ h. two.finish (one.finish h))
        (wakes_lighten w)

    abbrev LighterIn : Planned P → Course (Completed P) (Planned P) → Type 0
    LighterIn p (goes cs q) = weight q + 1 ≤ weight p
    LighterIn p (meets e) = Unit {0}

    lighter_after : (p r : Planned P) (cs : List (Completed P)) (rest : Course (Completed P) (Planned P))
        → weight r + 1 ≤ weight p → LightensIn r rest → LighterIn p (preceded cs rest)
    lighter_after p r cs (goes xs q) le h = omega (arith, le, h.weighs)
    lighter_after p r cs (meets e) le h = tt

    no_cons : {X : Type 0} (x : X) (xs : List X) → [] ≡ x ∷ xs → ⊥
    no_cons x xs e = cc

    wakes_first : {t : ℕ} {ks : List (Message P)} {p : Planned P} {course : Course (Completed P) (Planned P)}
        → WakesEach cmp t ks p course → (m : Message P) (ms : List (Message P)) → ks ≡ m ∷ ms → next_of cmp p m ≡ Some m
        → may_launch cmp t p m ≡ true → LighterIn p course
    wakes_first (all_started l) m ms e found may = absurd (no_cons m ms e)
    wakes_first (no_start l) m ms e found may = tt
    wakes_first (no_finish l f) m ms e found may = tt
    wakes_first {t = t} {p = p} (starts_one {m = n} {more = more} {q = q} {r = r} {cs = cs} {rest = rest} l f w) m ms e
        found may =
        let same : n ≡ m = cc in
        let one : length more + weight q + 1 ≤ weight p =
        launch_first l m (same_pair cmp m) found (ap (next_of cmp p) same ∙ found) may more q refl in
        let two : Lightens q r = finishes_lighten f in
        lighter_after p r cs rest (omega (arith, one, two.weighs)) (wakes_lighten w)

    -- the first one of those that pass
    record FirstThat {X : Type 0} (Q : X → Type 0) (f : X → Bool) (xs : List X) : Type 0 where
      pub one : X
      pub others : List X
      pub are : filter f xs ≡ one ∷ others
      pub passes : f one ≡ true
      pub known : Q one

    first_that : {X : Type 0} (Q : X → Type 0) (f : X → Bool) (xs : List X) → list_any f xs ≡ true → Each Q xs
        → FirstThat Q f xs
    first_that Q f [] h each = cc
    first_that {X} Q f (x ∷ xs) h each = by_test (f x) refl h (λ k. first_that Q f xs k each.1)
      where
        by_test : (b : Bool) → f x ≡ b → (b || list_any f xs) ≡ true → (list_any f xs ≡ true → FirstThat Q f xs)
            → FirstThat Q f (x ∷ xs)
        by_test true is h ih =
            record {
              one = x;
              others = filter f xs;
              are = ap (λ b. cond b (x ∷ filter f xs) (filter f xs)) is;
              passes = is;
              known = each.0;
            }
        by_test false is h ih =
            let r : FirstThat Q f xs = ih h in record {
              one = r.one;
              others = r.others;
              are = ap (λ b. cond b (x ∷ filter f xs) (filter f xs)) is ∙ r.are;
              passes = r.passes;
              known = r.known;
            }

    -- ---- an event

    abbrev EventsIn : Planned P → Course (Completed P) (Planned P) → Type 0
    EventsIn p (goes cs q) = events_left q + 1 ≤ events_left p
    EventsIn p (meets e) = Unit {0}

    settled : (t : ℕ) (p mid : Planned P) (leavers : List (Message P)) (course : Course (Completed P) (Planned P))
        → p.finish ≡ Some t → Accounts cmp t (record p { finish = None }) leavers mid → LightensIn mid course
        → EventsIn p course
    settled t p mid leavers (meets e) is a h = tt
    settled t p mid leavers (goes cs q) is a h =
        let kept : length leavers + length mid.sending ≡ length p.sending =
        accounts_keep cmp t (record p { finish = None }) mid leavers a in
        let waits : length mid.waiting ≡ length p.waiting =
        ap length (accounts_waiting cmp t (record p { finish = None }) mid leavers a) in
        let no_finish : lack (spent_at q.sending q.finish) ≡ 0 =
        ap lack (h.finish (accounts_fit t (record p { finish = None }) mid leavers a)) in
        let no_start : lack (ready_at q q.start) ≡ 0 = ap lack h.start in
        by_bool (spent_at p.sending p.finish)
        (λ fits.
        let some : list_any (λ (f : RatedFlight P). (left_at t f).num == 0) p.sending ≡ true =
        ap (spent_at p.sending) (sym is) ∙ fits in
        let leave : 1 ≤ length (filter (is_spent cmp p.caps) (drained_to t p.sending)) =
        spent_leaves cmp (record p { finish = None }) t p.sending some in
        let left : length leavers ≡ length (filter (is_spent cmp p.caps) (drained_to t p.sending))
        = ap length a.left ∙ length-map (filter (is_spent cmp p.caps) (drained_to t p.sending))
        (λ (f : RatedFlight P). f.message) in
        omega (arith, kept, waits, no_finish, no_start, leave, left, h.weighs))
        (λ fits. let one : lack (spent_at p.sending p.finish) ≡ 1 = ap lack fits in
        omega (arith, kept, waits, no_finish, no_start, one, h.weighs))

    woken : (t : ℕ) (p : Planned P) (course : Course (Completed P) (Planned P)) → p.start ≡ Some t
        → LightensIn (record p { start = None }) course
        → (list_any (may_launch cmp t p) (fronts cmp p.waiting) ≡ true → LighterIn (record p { start = None }) course)
        → EventsIn p course
    woken t p (meets e) is h lighter = tt
    woken t p (goes cs q) is h lighter =
        let no_start : lack (ready_at q q.start) ≡ 0 = ap lack h.start in
        let finish : lack (spent_at q.sending q.finish) ≤ lack (spent_at p.sending p.finish) =
        no_worse (spent_at p.sending p.finish) (spent_at q.sending q.finish) h.finish in
        by_bool (ready_at p p.start)
        (λ fits. let less : weight q + 1
        ≤ weight (record p { start = None }) = lighter (ap (ready_at p) (sym is) ∙ fits) in
        omega (arith, no_start, finish, less))
        (λ fits. let one : lack (ready_at p p.start) ≡ 1 = ap lack fits in
        omega (arith, no_start, finish, one, h.weighs))
      where
        no_worse : (a b : Bool) → (a ≡ true → b ≡ true) → lack b ≤ lack a
        no_worse true b h = let is : b ≡ true = h refl in rw is (omega arith)
        no_worse false true h = omega arith
        no_worse false false h = omega arith

    settles_events : {t : ℕ} {p : Planned P} {course : Course (Completed P) (Planned P)} → Settles cmp t p course
        → (old : Planned P) → p ≡ record old { finish = None } → old.finish ≡ Some t → EventsIn old course
    settles_events {t = t} {course = course} (settling {leavers = leavers} {mid = mid} a f) old same is =
        settled t old mid leavers course is (subst (λ (q : Planned P). Accounts cmp t q leavers mid) same a)
        (finishes_lighten f)

    wakes_events : (t : ℕ) (p : Planned P) (course : Course (Completed P) (Planned P)) → p.start ≡ Some t
        → Wakes cmp t (record p { start = None }) course → EventsIn p course
    wakes_events t p course is w = woken t p course is (wakes_lighten w) (λ some.
        let first : FirstThat (λ (n : Message P). find (same_pair cmp n) p.waiting ≡ Some n) (may_launch cmp t p)
        (fronts cmp p.waiting) = first_that _ (may_launch cmp t p) (fronts cmp p.waiting) some
        (fronts_are_first cmp order p.waiting) in
        wakes_first w first.one first.others first.are first.known first.passes)

    -- an event that is due makes fewer that may come
    pub happens_fewer : (now : ℕ) (event : Event) (p q : Planned P) (cs : List (Completed P)) → IsDue now p (Some event)
        → Happens cmp event p (goes cs q) → events_left q + 1 ≤ events_left p
    happens_fewer now (Finish t) p q cs due h = settles_events h p refl due.0
    happens_fewer now (Start t) p q cs due h =
        wakes_events t p (goes cs q) (earlier_start cmp order p.finish p.start t due.1 due.0).0 h

-- ---- how many there may be

lack_low : {P : Type 0} (cmp : P → P → Ordering) (b : Bool) → lack cmp b ≤ 1
lack_low cmp true = omega arith
lack_low cmp false = omega arith

pub events_few : {P : Type 0} (cmp : P → P → Ordering) (p : Planned P) → length p.waiting < 18446744073709551616
    → length p.sending < 18446744073709551616 → events_left cmp p < 340282366920938463463374607431768211456
events_few cmp p waits sends =
    let one : lack cmp (spent_at p.sending p.finish) ≤ 1 = lack_low cmp (spent_at p.sending p.finish) in
    let two : lack cmp (ready_at cmp p p.start) ≤ 1 = lack_low cmp (ready_at cmp p p.start) in
    omega (arith, waits, one, two, sends)
