-- Advancing the planned world event by event is ticking the world nanosecond by nanosecond.
use Rattle.link_simulation.proofs.Common.{◌≡◌, ℕ, zero, suc, ◌+◌, ◌-◌, ◌<◌, ◌≤◌, List, [], length, false}
use Rattle.link_simulation.proofs.Common.{Option, Some, None, refl, sym, ap, ◌∙◌, subst, arith, ◌⊎◌, inl, inr, IfSome}
use Rattle.link_simulation.proofs.Common.{list_any, Ordering, IsTotalOrder, cases_lt, Completed, Course, World}
use Rattle.link_simulation.proofs.Common.{and_then, goes, instant, is_done, last_moment, meets, preceded, ready, settle}
use Rattle.link_simulation.proofs.Common.{wake, Advances, Settles, Wakes, at_finish, at_start, finish_stops, no_more}
use Rattle.link_simulation.proofs.Common.{start_stops, IsLeastMoment, Planned, SomeReadyAt, SomeSpentAt, next_event}
use Rattle.link_simulation.proofs.Common.{is_unlimited, CoursesAlike, Follows, IsSettled, StandsFor, Tallies, Ticks}
use Rattle.link_simulation.proofs.Common.{no_tick, Error, rules}
use Rattle.std.specs.Prelude.{◌≢◌}
use Rattle.link_simulation.specs.Rule.Planned.{earlier}
use Rattle.link_simulation.proofs.Rule.BeforeNext.{later, follows_later, none_done_before, quiet_before, passes_before}
use Rattle.link_simulation.proofs.Rule.BeforeNext.{passes_to, finish_is_later, spent_at_finish, done_at}
use Rattle.link_simulation.proofs.Rule.Settling.{settles_alike}
use Rattle.link_simulation.proofs.Rule.FinishEvent.{settle_quiet, instant_is, ticks_through, ticks_quiet}
use Rattle.link_simulation.proofs.Rule.FinishEvent.{settled_stands, settled_wakes, ready_later, start_is}
use Rattle.link_simulation.proofs.Simulation.Pass.{wake_none}
use Rattle.link_simulation.proofs.Rule.Waking.{IsWoken, wakes_alike, each_none, preceded_by}
use Rattle.link_simulation.proofs.Simulation.InOrder.{picks_ready, none_ready_back}
use Rattle.link_simulation.proofs.Simulation.Split.{ticks_on, ticks_stop, preceded_append}
use Rattle.link_simulation.proofs.Simulation.Queue.{preceded_none}

module _ {P : Type 0} (cmp : P → P → Ordering) (order : IsTotalOrder cmp) where
  -- ---- one instant

  -- what is planned does not matter to what tallies
  unplanned : (t : ℕ) (p : Planned P) (w : World P) (finish start : Option ℕ) → Tallies cmp t p w
      → Tallies cmp t (record p { finish = finish; start = start }) w
  unplanned t p w finish start same = grind arith

  unstarted : (t : ℕ) (p : Planned P) (w : World P) (start : Option ℕ) → Follows cmp t p w
      → Follows cmp t (record p { start = start }) w
  unstarted t p w start follows = grind arith

  -- a wake in the planned world is a wake in the world
  pub wake_alike : {t : ℕ} {p : Planned P} {course : Course (Completed P) (Planned P)} → Wakes cmp t p course
      → (w : World P) → Follows cmp t p w
      → list_any (is_done cmp w) w.sending ≡ false → CoursesAlike cmp (IsWoken cmp order t) course (wake cmp t w)
  wake_alike {t = t} {p = p} wakes w follows none_done = search (rules, wakes_alike, each_none, picks_ready)

  pub woken_stands : (t : ℕ) (p : Planned P) (w : World P) → t ≤ last_moment → IsWoken cmp order t p w
      → StandsFor cmp p w
  woken_stands t p w within woken = grind (arith, settled_stands, none_ready_back)

  -- ---- up to now

  abbrev pub StandsNow : ℕ → Planned P → World P → Type 0
  StandsNow now q v = StandsFor cmp q v × (v.moment ≡ now)

  -- ticking to now goes as the planned world does
  abbrev pub TicksAlike : ℕ → World P → Course (Completed P) (Planned P) → Type 0
  TicksAlike now w course =
      (c : Course (Completed P) (World P)) × Ticks cmp (now - w.moment) w c × CoursesAlike cmp (StandsNow now) course c

  -- after this wake at t, the ticks from there to now
  abbrev pub OnFrom : ℕ → ℕ → Course (Completed P) (World P) → Course (Completed P) (World P) → Type 0
  OnFrom t now (goes ds u) c = (d : Course (Completed P) (World P)) × Ticks cmp (now - t) u d × (c ≡ preceded ds d)
  OnFrom t now (meets fault) c = c ≡ meets fault

  abbrev pub WakesAlike : ℕ → ℕ → World P → Course (Completed P) (Planned P) → Type 0
  WakesAlike t now v course =
      (c : Course (Completed P) (World P)) × OnFrom t now (wake cmp t v) c × CoursesAlike cmp (StandsNow now) course c

  -- ticks, then a wake, and then the rest
  joined_ticks : (a t now : ℕ) (w : World P) (ds : List (Completed P)) (x c : Course (Completed P) (World P))
      → Ticks cmp a w (preceded ds x) → OnFrom t now x c → Ticks cmp (now - t + a) w (preceded ds c)
  joined_ticks a t now w ds (goes es u) c ticks on = grind (arith, ticks_on, preceded_append)
  joined_ticks a t now w ds (meets fault) c ticks on = grind (arith, ticks_stop)

  -- the tick to the next event, and the whole way there
  to_event : (p : Planned P) (w : World P) (stands : StandsFor cmp p w) (e k : ℕ) → w.moment + suc k ≡ e
      → e ≤ last_moment → next_event p ≡ Some e → Ticks cmp (suc k) w (instant cmp (later cmp order p w stands (suc k)))
  to_event p w stands e k at within next =
      let before : IfSome (next_event p) (λ t. w.moment + k < t) = grind arith in
      let way = passes_before cmp order p w stands k (omega arith) before in
      ticks_through cmp order way.1 _ _ way.2 refl

  pub earlier_start : (a b : Option ℕ) (e : ℕ) → earlier a b ≡ Some e → a ≢ Some e
      → (b ≡ Some e) × IfSome a (λ f. e < f)
  earlier_start None b e is not_a = (is, tt)
  earlier_start (Some f) None e is not_a = absurd (not_a is)
  earlier_start (Some f) (Some s) e is not_a = grind arith

  earlier_first : (a b : Option ℕ) (e t : ℕ) → earlier a b ≡ Some e → a ≡ Some e → b ≡ Some t → e ≤ t
  earlier_first None b e t is left right = cc
  earlier_first (Some f) None e t is left right = cc
  earlier_first (Some f) (Some s) e t is left right = grind arith

  -- in a settled world no finish is planned up to its moment
  no_early_finish : (t e : ℕ) (q : Planned P) (v : World P) → IsSettled cmp t q v → q.finish ≡ Some e → e ≤ t → ⊥
  no_early_finish t e q v settled is le =
      let least = subst (λ (o : Option ℕ). IsLeastMoment (SomeSpentAt q.sending) o) is settled.follows.finish in
      let spent = least.1 in
      let done = done_at cmp order (is_unlimited cmp v.caps) e t q.sending v.sending spent.0 spent.1 le
      settled.follows.tallies.sending spent.2 spent.4 in
      let none = settled.none_done in
      grind arith

  -- a planned start comes after the moment of a world at rest
  pub start_is_later : (p : Planned P) (w : World P) → StandsFor cmp p w → (e : ℕ) → p.start ≡ Some e
      → (e ≤ last_moment) × (w.moment < e)
  start_is_later p w stands e is =
      let least = subst (λ (o : Option ℕ). IsLeastMoment (SomeReadyAt cmp p) o) is stands.start in
      (least.0, by_order (cases_lt w.moment e) least.1)
    where
      by_order : (w.moment < e) ⊎ (e ≤ w.moment) → SomeReadyAt cmp p e → w.moment < e
      by_order (inl lt) some = lt
      by_order (inr le) some =
          absurd (none_ready_back cmp order w.moment p w stands.follows.tallies stands.quiet.none_ready
          (ready_later cmp order p e w.moment le some))

  -- a number of ticks from a moment to a later one
  pub gap : (m e : ℕ) → m < e → (k : ℕ) × (m + suc k ≡ e)
  gap m e lt = by_count (e - m) refl
    where
      by_count : (n : ℕ) → e - m ≡ n → (k : ℕ) × (m + suc k ≡ e)
      by_count zero is = absurd (omega arith)
      by_count (suc k) is = (k, omega arith)

  -- ---- event by event

  abbrev pub FromRest : ℕ → Planned P → Course (Completed P) (Planned P) → Type 0
  FromRest now p course = (w : World P) → StandsFor cmp p w → w.moment ≤ now → TicksAlike now w course

  abbrev pub FromSettled : ℕ → Planned P → Course (Completed P) (Planned P) → Type 0
  FromSettled now p course = (t : ℕ) (v : World P) → t ≤ now → IsSettled cmp t p v → WakesAlike t now v course

  course_map : (R S : Planned P → World P → Type 0) (x : Course (Completed P) (Planned P))
      (c : Course (Completed P) (World P)) → ((q : Planned P) (v : World P) → R q v → S q v)
      → CoursesAlike cmp R x c → CoursesAlike cmp S x c
  course_map R S (goes cs q) (goes ds v) f h = (h.0, f q v h.1)
  course_map R S (goes cs q) (meets g) f h = absurd h
  course_map R S (meets x) (goes ds v) f h = absurd h
  course_map R S (meets x) (meets g) f h = h

  pub decide_start : (o : Option ℕ) (t : ℕ) → (o ≡ Some t) ⊎ (o ≢ Some t)
  decide_start None t = inr (λ e. cc)
  decide_start (Some s) t = grind arith

  -- where nothing may start at once, the settled world is at rest
  at_rest : (t now : ℕ) (p : Planned P) (v : World P) (course : Course (Completed P) (Planned P))
      → FromRest now p course → t ≤ now → now ≤ last_moment → IsSettled cmp t p v
      → p.start ≢ Some t → WakesAlike t now v course
  at_rest t now p v course rest le within settled not_now =
      let never : ¬ SomeReadyAt cmp p t = grind (arith, start_is) in
      let moment = settled.follows.tallies.moment in
      let sleeps : wake cmp t v ≡ goes [] v = grind (arith, settled_wakes) in
      let way : TicksAlike now v course = grind (arith, settled_stands) in
      grind (arith, (preceded_none way.0))

  -- a wake, and then the rest
  wake_on : (t now : ℕ) (p q : Planned P) (v : World P) (cs : List (Completed P))
      (course : Course (Completed P) (Planned P))
      → Wakes cmp t (record p { start = None }) (goes cs q)
      → FromRest now q course → Follows cmp t p v → list_any (is_done cmp v) v.sending ≡ false → t ≤ now
      → now ≤ last_moment
      → WakesAlike t now v (preceded cs course)
  wake_on t now p q v cs course wakes rest follows none_done le within =
      by_course (wake cmp t v) refl (wake_alike wakes v (unstarted t p v None follows) none_done)
    where
      by_course : (c : Course (Completed P) (World P)) → wake cmp t v ≡ c
          → CoursesAlike cmp (IsWoken cmp order t) (goes cs q) c → WakesAlike t now v (preceded cs course)
      by_course (meets g) e h = absurd h
      by_course (goes ds u) e h =
          let moment : u.moment ≡ t = h.1.0.follows.tallies.moment in
          let way : TicksAlike now u course = rest u (woken_stands t q u (omega arith) h.1) (omega arith) in (
            preceded ds way.0,
            subst (λ (x : Course (Completed P) (World P)). OnFrom t now x (preceded ds way.0)) (sym e)
                (way.0, subst (λ (s : ℕ). Ticks cmp (now - s) u way.0) moment way.1, refl),
            preceded_by cmp order (StandsNow now) cs ds course way.0 h.0 way.2,
          )

  wake_stops : (t now : ℕ) (p : Planned P) (v : World P) (fault : Error)
      → Wakes cmp t (record p { start = None }) (meets fault) → Follows cmp t p v
      → list_any (is_done cmp v) v.sending ≡ false → WakesAlike t now v (meets fault)
  wake_stops t now p v fault wakes follows none_done = grind (arith, (wake_alike wakes v))

  -- the tick to a planned start is a wake
  start_ticks : (e now : ℕ) (p : Planned P) (w : World P) (stands : StandsFor cmp p w)
      (course : Course (Completed P) (Planned P)) → p.finish ≢ Some e → next_event p ≡ Some e → e ≤ now
      → ((v : World P) → Follows cmp e p v → list_any (is_done cmp v) v.sending ≡ false → WakesAlike e now v course)
      → TicksAlike now w course
  start_ticks e now p w stands course not_finish next le wakes =
      let first : (p.start ≡ Some e) × IfSome p.finish (λ f. e < f) = grind (arith, earlier_start) in
      let after = start_is_later p w stands e first.0 in
      let steps = gap w.moment e after.1 in
      let u = later cmp order p w stands _ in
      let follows = subst (λ (s : ℕ). Follows cmp s p u) steps.1 (follows_later cmp order p w stands _) in
      let none_done : list_any (is_done cmp u) u.sending ≡ false = grind (arith, none_done_before) in
      let way = wakes u follows none_done in
      let instant_u : instant cmp u ≡ preceded [] (wake cmp e u) = grind (arith, instant_is, settle_quiet) in
      let ticks = joined_ticks _ e now w [] _ way.0 (subst (λ (c : Course (Completed P) (World P)). Ticks cmp
      (suc steps.0) w c) instant_u (to_event p w stands e steps.0 steps.1 after.0 next)) way.1 in
      let count : now - e + suc steps.0 ≡ now - w.moment = omega (arith, steps.1, after.1) in
      grind (arith, (preceded_none way.0))

  -- the tick to a planned finish is a settling, and the wake that follows
  finish_ticks : (e now : ℕ) (p q : Planned P) (w : World P) (stands : StandsFor cmp p w) (cs : List (Completed P))
      (course : Course (Completed P) (Planned P))
      → p.finish ≡ Some e
      → next_event p ≡ Some e → e ≤ now
      → Settles cmp e (record p { finish = None }) (goes cs q) → FromSettled now q course
      → TicksAlike now w (preceded cs course)
  finish_ticks e now p q w stands cs course finish next le event rest =
      let after : w.moment < e = finish_is_later cmp order p w stands e finish in
      let within : e ≤ last_moment = (spent_at_finish cmp order p w stands e finish).0 in
      let steps : (k : ℕ) × (w.moment + suc k ≡ e) = gap w.moment e after in
      let follows = subst (λ (s : ℕ). Follows cmp s p (later cmp order p w stands (suc steps.0))) steps.1
      (follows_later cmp order p w stands _) in
      by_course steps.0 steps.1 after (to_event p w stands e steps.0 steps.1 within next) _ refl
      (settles_alike cmp order event _ (unplanned e p _ None p.start follows.tallies))
    where
      by_course : (k : ℕ) → w.moment + suc k ≡ e → w.moment < e
          → Ticks cmp (suc k) w (instant cmp (later cmp order p w stands (suc k)))
          → (c : Course (Completed P) (World P))
          → settle cmp e (later cmp order p w stands (suc k)) ≡ c → CoursesAlike cmp (IsSettled cmp e) (goes cs q) c
          → TicksAlike now w (preceded cs course)
      by_course k at after ticks (meets g) is h = absurd h
      by_course k at after ticks (goes ds v) is h =
          let way : WakesAlike e now v course = rest e v le h.1 in
          let instant_u = instant_is cmp order (later cmp order p w stands (suc k)) v ds
          (ap (λ (s : ℕ). settle cmp s (later cmp order p w stands (suc k))) at ∙ is) ∙ ap
          (λ (s : ℕ). preceded ds (wake cmp s v)) h.1.follows.tallies.moment in
          let on = joined_ticks (suc k) e now w ds _ way.0
          (subst (λ (c : Course (Completed P) (World P)). Ticks cmp (suc k) w c) instant_u ticks) way.1 in
          let count : now - e + suc k ≡ now - w.moment = omega arith in (
            preceded ds way.0,
            subst (λ (n : ℕ). Ticks cmp n w (preceded ds way.0)) count on,
            preceded_by cmp order _ cs ds course way.0 h.0 way.2,
          )

  finish_faults : (e now : ℕ) (p : Planned P) (w : World P) (stands : StandsFor cmp p w) (fault : Error)
      → p.finish ≡ Some e → next_event p ≡ Some e → e ≤ now
      → Settles cmp e (record p { finish = None }) (meets fault) → TicksAlike now w (meets fault)
  finish_faults e now p w stands fault finish next le event =
      let after : w.moment < e = finish_is_later cmp order p w stands e finish in
      let within : e ≤ last_moment = (spent_at_finish cmp order p w stands e finish).0 in
      let steps : (k : ℕ) × (w.moment + suc k ≡ e) = gap w.moment e after in
      let follows = subst (λ (s : ℕ). Follows cmp s p (later cmp order p w stands (suc steps.0))) steps.1
      (follows_later cmp order p w stands (suc steps.0)) in
      by_course steps.0 steps.1 after (to_event p w stands e steps.0 steps.1 within next) _ refl
      (settles_alike cmp order event (later cmp order p w stands _) (unplanned e p _ None p.start follows.tallies))
    where
      by_course : (k : ℕ) → w.moment + suc k ≡ e → w.moment < e
          → Ticks cmp (suc k) w (instant cmp (later cmp order p w stands (suc k)))
          → (c : Course (Completed P) (World P))
          → settle cmp e (later cmp order p w stands (suc k)) ≡ c → CoursesAlike cmp (IsSettled cmp e) (meets fault) c
          → TicksAlike now w (meets fault)
      by_course k at after ticks (goes ds v) is h = absurd h
      by_course k at after ticks (meets g) is h =
          let instant_u = ap (λ (c : Course (Completed P) (World P)). and_then c (λ v. wake cmp v.moment v))
          (ap (λ (s : ℕ). settle cmp s (later cmp order p w stands (suc k))) at ∙ is) in
          let on = ticks_stop cmp
          (subst (λ (c : Course (Completed P) (World P)). Ticks cmp (suc k) w c) instant_u ticks) (now - e) g refl in
          let count : now - e + suc k ≡ now - w.moment = omega arith in
          (meets g, subst (λ (n : ℕ). Ticks cmp n w (meets g)) count on, h)

  -- with no event up to now, the world drifts there
  drifts_to : (now : ℕ) (p : Planned P) (w : World P) (stands : StandsFor cmp p w)
      (course : Course (Completed P) (Planned P)) → IfSome (next_event p) (λ t. now < t)
      → Wakes cmp now p course → w.moment ≤ now → now ≤ last_moment → TicksAlike now w course
  drifts_to now p w stands course before wakes le within = by_count (now - w.moment) refl
    where
      ends : (v : World P) → Follows cmp now p v → list_any (is_done cmp v) v.sending ≡ false → ready cmp now v ≡ []
          → Ticks cmp (now - w.moment) w (goes [] v) → TicksAlike now w course
      ends v follows none_done none_ready ticks =
          let woken = wake_alike wakes v follows none_done in
          let asleep : wake cmp now v ≡ goes [] v = wake_none cmp order (length v.waiting) now v none_ready in (
            goes [] v,
            ticks,
            course_map (IsWoken cmp order now) (StandsNow now) course (goes [] v)
                (λ q u h. (woken_stands now q u within h, h.0.follows.tallies.moment))
                (subst (λ (c : Course (Completed P) (World P)). CoursesAlike cmp (IsWoken cmp order now) course c)
                asleep
                woken),
          )

      by_count : (n : ℕ) → now - w.moment ≡ n → TicksAlike now w course
      by_count zero is = grind (arith, ends, ready, no_tick)
      by_count (suc k) is =
          let same : w.moment + suc k ≡ now = omega arith in
          let u : World P = later cmp order p w stands (suc k) in
          let still : IfSome (next_event p) (λ t. w.moment + suc k < t) =
          subst (λ (s : ℕ). IfSome (next_event p) (λ t. s < t)) (sym same) before in
          let quiet = quiet_before cmp order p w stands (suc k) (omega arith) still in
          ends u (subst (λ (s : ℕ). Follows cmp s p u) same (follows_later cmp order p w stands (suc k)))
          quiet.none_done (ap (λ (s : ℕ). ready cmp s u) (sym same) ∙ quiet.none_ready)
          (subst (λ (n : ℕ). Ticks cmp n w (goes [] u)) (sym is)
          (ticks_quiet cmp order (passes_to cmp order p w stands k (omega arith) still)))

  -- where an event is due while a start is planned at once, from the wake alone
  from_both : (now : ℕ) (p : Planned P) (course : Course (Completed P) (Planned P)) → now ≤ last_moment
      → FromRest now p course
      → ((t : ℕ) (v : World P) → t ≤ now → IsSettled cmp t p v → p.start ≡ Some t → WakesAlike t now v course)
      → FromRest now p course × FromSettled now p course
  from_both now p course within rest at_once = (rest, λ t v le is. by_start t v le is (decide_start p.start t))
    where
      by_start : (t : ℕ) (v : World P) → t ≤ now → IsSettled cmp t p v → (p.start ≡ Some t) ⊎ (p.start ≢ Some t)
          → WakesAlike t now v course
      by_start t v le is (inl now_is) = at_once t v le is now_is
      by_start t v le is (inr not_now) = at_rest t now p v course rest le within is not_now

  not_after : (now : ℕ) (p : Planned P) (course : Course (Completed P) (Planned P))
      → IfSome (next_event p) (λ t. now < t) → (t : ℕ) (v : World P) → t ≤ now → p.start ≡ Some t
      → WakesAlike t now v course
  not_after now p course before t v le now_is = grind arith

  wake_at : (e now : ℕ) (p : Planned P) (course : Course (Completed P) (Planned P)) → p.finish ≢ Some e
      → next_event p ≡ Some e
      → ((v : World P) → Follows cmp e p v → list_any (is_done cmp v) v.sending ≡ false → WakesAlike e now v course)
      → (t : ℕ) (v : World P) → IsSettled cmp t p v → p.start ≡ Some t → WakesAlike t now v course
  wake_at e now p course not_finish next wakes t v is now_is = grind arith

  -- advancing event by event is ticking, from a world at rest, and from a settled one
  pub advances_alike : {now n : ℕ} {p : Planned P} {course : Course (Completed P) (Planned P)}
      → Advances cmp now p n course → now ≤ last_moment → FromRest now p course × FromSettled now p course
  advances_alike {now = now} {p = p} {course = course} (no_more before wakes) within =
      from_both now p course within (λ w stands le. drifts_to now p w stands course before wakes le within)
      (λ t v le is now_is. not_after now p course before t v le now_is)
  advances_alike {now = now} {p = p} (at_finish {q = q} {t = e} {cs = cs} {rest = more} finish next due event others)
      within =
      let ih : FromRest now q more × FromSettled now q more = advances_alike others within in
      from_both now p _ within
      (λ w stands le. finish_ticks e now p q w stands cs more finish next due event ih.1) (λ t v le is now_is. absurd
      (no_early_finish t e p v is finish (earlier_first p.finish p.start e t next finish now_is)))
  advances_alike {now = now} {p = p} (finish_stops {t = e} {fault = fault} finish next due event) within =
      from_both now p (meets fault) within (λ w stands le. finish_faults e now p w stands fault finish next due event)
      (λ t v le is now_is. absurd
      (no_early_finish t e p v is finish (earlier_first p.finish p.start e t next finish now_is)))
  advances_alike {now = now} {p = p} (at_start {q = q} {t = e} {cs = cs} {rest = more} not_finish next due event others)
      within =
      let ih : FromRest now q more × FromSettled now q more = advances_alike others within in
      from_both now p _ within (λ w stands le. start_ticks e now p w stands _ not_finish next due
      (λ v follows none_done. wake_on e now p q v cs more event ih.0 follows none_done due within))
      (λ t v le is now_is. wake_at e now p _ not_finish next (λ u follows none_done. wake_on e now p q u cs more event
      ih.0 follows none_done due within) t v is now_is)
  advances_alike {now = now} {p = p} (start_stops {t = e} {fault = fault} not_finish next due event) within =
      from_both now p (meets fault) within (λ w stands le. start_ticks e now p w stands (meets fault) not_finish next
      due (λ v follows none_done. wake_stops e now p v fault event follows none_done))
      (λ t v le is now_is. wake_at e now p (meets fault) not_finish next (λ u follows none_done. wake_stops e now p u
      fault event follows none_done) t v is now_is)
