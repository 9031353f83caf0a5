-- Before its next event a world that a planned world stands for only drains, and at the planned finish something is
-- done.
use Rattle.link_simulation.proofs.Common.{common_steps, ◌≡◌, ℕ, zero, suc, ◌+◌, ◌-◌, ◌<◌, ◌≤◌, List, [], ◌∷◌, map, Bool}
use Rattle.link_simulation.proofs.Common.{true, false, not, Option, Some, None, refl, sym, ap, ◌∙◌, subst, arith}
use Rattle.link_simulation.proofs.Common.{add-one, ◌⊎◌, inl, inr, ◌||◌, ◌==◌, IfSome, slice_get, filter, find, list_any}
use Rattle.link_simulation.proofs.Common.{AllZip, Ordering, IsTotalOrder, or_from, or_parts, cases_lt, not-true, Amount}
use Rattle.link_simulation.proofs.Common.{Flight, IsQuiet, World, flows, fronts, is_done, last_moment, may_start, ready}
use Rattle.link_simulation.proofs.Common.{Message, PairsAlike, SameMessage, same_pair, IsLeastMoment, IsRated}
use Rattle.link_simulation.proofs.Common.{RatedFlight, Planned, SomeReadyAt, SomeSpentAt, left_at, may_launch}
use Rattle.link_simulation.proofs.Common.{next_event, rated_messages, IsSpentAt, AreFair, Parts, is_unlimited, rate_of}
use Rattle.link_simulation.proofs.Common.{Follows, IsSameFlight, StandsFor, Tallies, ArePositive, Drains, NextIs}
use Rattle.link_simulation.proofs.Common.{Passes, comes_next, drain_each, drifted, never_comes, no_time, Each, each_map}
use Rattle.link_simulation.proofs.Common.{each_filtered, by_bool}
use Rattle.link_simulation.specs.Rule.Planned.{earlier}
use borrow.Author.Tests.{eqb-true, eq-eqb}
use Rattle.link_simulation.proofs.Simulation.LowestTerms.{drained_by_lowest, drained_by_twice, spent_later}
use Rattle.link_simulation.proofs.Simulation.Queue.{pair_sym, both_alike, find_passes}
use Rattle.link_simulation.proofs.Simulation.AlikeMessages.{same_itself, pairs_alike, any_alike, fair_alike}
use Rattle.link_simulation.proofs.Simulation.Stretch.{stretch, drifts_on, flows_drained}
use Rattle.link_simulation.proofs.Simulation.SettlingEnds.{find_like}

-- ---- lists

pub filter_none : {X : Type 0} (test : X → Bool) (xs : List X) → Each (λ x. test x ≡ false) xs → filter test xs ≡ []
filter_none test [] h = refl
filter_none test (x ∷ xs) h = rw (h.0, filter_none test xs h.1) refl

-- ---- moments

pub none_before : (Q : ℕ → Type 0) (o : Option ℕ) → IsLeastMoment Q o → (t : ℕ) → t ≤ last_moment
    → IfSome o (λ e. t < e) → Q t → ⊥
none_before Q None least t within before q = least t within q
none_before Q (Some e) least t within before q = let le : e ≤ t = least.2 t q in absurd (omega arith)

pub both_before : (a b : Option ℕ) (t : ℕ) → IfSome (earlier a b) (λ e. t < e)
    → IfSome a (λ e. t < e) × IfSome b (λ e. t < e)
both_before None b t h = (tt, h)
both_before (Some a) None t h = (h, tt)
both_before (Some a) (Some b) t h = (omega arith, omega arith)

pub before_still : (o : Option ℕ) (s t : ℕ) → s ≤ t → IfSome o (λ e. t < e) → IfSome o (λ e. s < e)
before_still None s t le h = tt
before_still (Some e) s t le h = omega arith

module _ {P : Type 0} (cmp : P → P → Ordering) (order : IsTotalOrder cmp) where
  -- ---- what is in flight

  pub messages_alike : (t : ℕ) (fs : List (RatedFlight P)) (gs : List (Flight P)) → AllZip (IsSameFlight cmp t) fs gs
      → AllZip (SameMessage cmp) (rated_messages fs) (map (λ (g : Flight P). g.message) gs)
  messages_alike t [] [] all = tt
  messages_alike t [] (g ∷ gs) all = absurd all
  messages_alike t (f ∷ fs) [] all = absurd all
  messages_alike t (f ∷ fs) (g ∷ gs) all = (all.0.message, messages_alike t fs gs all.1)

  drained_on : (t k per : ℕ) (rates : Parts) (fs : List (RatedFlight P)) (gs : List (Flight P))
      → AllZip (λ rate f. f.rate ≡ rate_of per rate) rates fs
      → AllZip (IsSameFlight cmp t) fs gs → AllZip (IsSameFlight cmp (t + k)) fs (drain_each per rates k gs)
  drained_on t k per [] [] [] rated all = tt
  drained_on t k per [] [] (g ∷ gs) rated all = absurd all
  drained_on t k per [] (f ∷ fs) gs rated all = absurd rated
  drained_on t k per (rate ∷ rates) [] gs rated all = absurd rated
  drained_on t k per (rate ∷ rates) (f ∷ fs) [] rated all = absurd all
  drained_on t k per (rate ∷ rates) (f ∷ fs) (g ∷ gs) rated all =
      grind (arith, rate_of, drained_by_twice, (drained_on t k per rates fs gs))

  pub positive_flights : (t : ℕ) (fs : List (RatedFlight P)) (gs : List (Flight P)) → AllZip (IsSameFlight cmp t) fs gs
      → ArePositive gs
  positive_flights t [] [] all = tt
  positive_flights t [] (g ∷ gs) all = absurd all
  positive_flights t (f ∷ fs) [] all = absurd all
  positive_flights t (f ∷ fs) (g ∷ gs) all = grind (arith, drained_by_lowest, (positive_flights t fs gs))

  -- ---- nothing is done before the planned finish

  unlimited_none : (a : Flight P → Bool) (u : Message P → Bool) (gs : List (Flight P))
      → list_any (λ (g : Flight P). a g || u g.message) gs ≡ false
      → list_any u (map (λ (g : Flight P). g.message) gs) ≡ false
  unlimited_none a u [] e = refl
  unlimited_none a u (g ∷ gs) e = grind (arith, (unlimited_none a u gs))

  none_done_at : (u : Message P → Bool) (t : ℕ) (fs : List (RatedFlight P)) (gs : List (Flight P))
      → AllZip (IsSameFlight cmp t) fs gs
      → ((i : ℕ) (f : RatedFlight P) → slice_get fs i ≡ Some f → f.updated ≤ t → ((left_at t f).num ≡ 0) → ⊥)
      → list_any u (map (λ (g : Flight P). g.message) gs) ≡ false
      → list_any (λ (g : Flight P). (g.left.num == 0) || u g.message) gs ≡ false
  none_done_at u t [] [] all none e = refl
  none_done_at u t [] (g ∷ gs) all none e = absurd all
  none_done_at u t (f ∷ fs) [] all none e = absurd all
  none_done_at u t (f ∷ fs) (g ∷ gs) all none e =
      let parts = or_parts (u g.message) (list_any u (map (λ (g : Flight P). g.message) gs)) e in
      or_from ((g.left.num == 0) || u g.message) (list_any (λ (g : Flight P). (g.left.num == 0) || u g.message) gs)
      (or_from (g.left.num == 0) (u g.message) (by_bool (g.left.num == 0) (λ is. rw is (
      absurd (none 0 f refl all.0.updated (ap (λ (a : Amount). a.num) (sym all.0.left) ∙ eqb-true (g.left.num) 0 is))))
      (λ is. rw is refl)) parts.0) (none_done_at u t fs gs all.1 (λ i. none (suc i)) parts.1)

  -- what was spent at s is done at t
  pub done_at : (u : Message P → Bool) (s t : ℕ) (fs : List (RatedFlight P)) (gs : List (Flight P)) (i : ℕ)
      (f : RatedFlight P) → s ≤ t → AllZip (IsSameFlight cmp t) fs gs → slice_get fs i ≡ Some f → IsSpentAt s f
      → list_any (λ (g : Flight P). (g.left.num == 0) || u g.message) gs ≡ true
  done_at u s t [] gs i f le all at spent = cc
  done_at u s t (x ∷ fs) [] i f le all at spent = absurd all
  done_at u s t (x ∷ fs) (g ∷ gs) zero f le all at spent = grind (arith, spent_later, eq-eqb)
  done_at u s t (x ∷ fs) (g ∷ gs) (suc i) f le all at spent = grind (arith, (done_at u s t fs gs i f le))

  -- ---- nothing is ready before the planned start

  skipped : (m n : Message P) (ws : List (Message P)) → same_pair cmp m n ≡ false
      → filter (same_pair cmp m) (n ∷ ws) ≡ filter (same_pair cmp m) ws
  skipped m n ws e = rw e refl

  abbrev pub IsFront : List (Message P) → Message P → Type 0
  IsFront ws m = (rest : List (Message P)) × (filter (same_pair cmp m) ws ≡ m ∷ rest)

  -- each front is the first of its pair
  pub fronts_first : (ws : List (Message P)) → Each (IsFront ws) (fronts cmp ws)
  fronts_first [] = tt
  fronts_first (x ∷ ws) = (
    (
      filter (same_pair cmp x) ws,
      grind (arith, both_alike, same_itself),
    ),
    grind (arith, each_map, later, each_filtered, (fronts_first ws)),
  )
    where
      later : (m : Message P) → IsFront ws m → not (same_pair cmp x m) ≡ true → IsFront (x ∷ ws) m
      later m front apart = grind (arith, skipped, pair_sym, not-true)

  -- what stands first among a pair's is what is found first
  pub first_found : {X : Type 0} (test : X → Bool) (x : X) (rest xs : List X) → filter test xs ≡ x ∷ rest
      → find test xs ≡ Some x
  first_found test x rest [] e = cc
  first_found {X} test x rest (y ∷ ys) e = grind (arith, (first_found test x rest ys))

  -- the first of a pair is the first of its own pair
  pub own_first : (m x : Message P) (rest ms : List (Message P)) → filter (same_pair cmp m) ms ≡ x ∷ rest
      → find (same_pair cmp x) ms ≡ Some x
  own_first m x rest ms e = grind (arith, same_pair, first_found, find_like, find_passes)

  -- a pair may start in the planned world where it may in the world
  pub may_alike : (t : ℕ) (p : Planned P) (w : World P) (m n : Message P) → PairsAlike cmp p.last_arrival w.last_arrival
      → AllZip (SameMessage cmp) (rated_messages p.sending) (flows w) → SameMessage cmp m n
      → may_launch cmp t p m ≡ may_start cmp t w n
  may_alike t p w m n last all same = grind (arith, any_alike, pairs_alike)

  first_alike : (xs : List (Message P)) (y : Message P) (ys : List (Message P)) → AllZip (SameMessage cmp) xs (y ∷ ys)
      → (x : Message P) × (rest : List (Message P)) × (xs ≡ x ∷ rest) × SameMessage cmp x y
  first_alike [] y ys all = absurd all
  first_alike (x ∷ xs) y ys all = (x, xs, refl, all.0)

  -- where no pair is ready in the planned world, none is in the world
  pub none_ready_at : (t : ℕ) (p : Planned P) (w : World P) → Tallies cmp t p w → ¬ SomeReadyAt cmp p t
      → ready cmp t w ≡ []
  none_ready_at t p w same none = filter_none _ _ (each_map _ _ _ (λ m front. not_ready m front.0 front.1)
      (fronts_first w.waiting))
    where
      not_ready : (m : Message P) (rest : List (Message P)) → filter (same_pair cmp m) w.waiting ≡ m ∷ rest
          → may_start cmp t w m ≡ false
      not_ready m rest e =
          let first = first_alike _ m rest (subst (λ (ms : List (Message P)). AllZip (SameMessage cmp)
          (filter (same_pair cmp m) p.waiting) ms) e (same.waiting m)) in
          let alike : may_launch cmp t p first.0 ≡ may_start cmp t w m =
          may_alike t p w first.0 m same.last_arrival (messages_alike t p.sending w.sending same.sending) first.3 in
          by_test _ first.0 alike (own_first m first.0 first.1 p.waiting first.2)
        where
          by_test : (b : Bool) (x : Message P) → may_launch cmp t p x ≡ b → find (same_pair cmp x) p.waiting ≡ Some x
              → b ≡ false
          by_test false x alike at = refl
          by_test true x alike at = absurd (none (x, at, alike))

  -- ---- between events

  module _ (p : Planned P) (w : World P) (stands : StandsFor cmp p w) where
    abbrev pub rated : IsRated cmp p
    rated = stands.follows.rated

    abbrev pub later : ℕ → World P
    later k = drifted w stands.follows.rated.per stands.follows.rated.rates k

    pub rates_fair : AreFair cmp w.caps (flows w) stands.follows.rated.per stands.follows.rated.rates
    rates_fair = grind (arith, fair_alike, rated, messages_alike)

    pub all_positive : ArePositive w.sending
    all_positive = positive_flights w.moment p.sending w.sending stands.follows.tallies.sending

    flights_later : (k : ℕ) → AllZip (IsSameFlight cmp (w.moment + k)) p.sending (later k).sending
    flights_later k = grind (arith, drained_on, rated)

    flows_later : (k : ℕ) → map (λ (g : Flight P). g.message) (later k).sending ≡ flows w
    flows_later k = flows_drained cmp stands.follows.rated.per stands.follows.rated.rates k w.sending

    -- the drained world is what the planned world says of that moment
    pub follows_later : (k : ℕ) → Follows cmp (w.moment + k) p (later k)
    follows_later k = grind (arith, flights_later, flows_later, rated)

    none_unlimited : list_any (is_unlimited cmp w.caps) (flows w) ≡ false
    none_unlimited = unlimited_none _ _ w.sending stands.quiet.none_done

    -- before the planned finish nothing is done
    pub none_done_before : (k : ℕ) → w.moment + k ≤ last_moment → IfSome p.finish (λ e. w.moment + k < e)
        → list_any (is_done cmp (later k)) (later k).sending ≡ false
    none_done_before k within before =
        none_done_at (is_unlimited cmp w.caps) (w.moment + k) p.sending (later k).sending (flights_later k)
        (λ i f at early spent. none_before (SomeSpentAt p.sending) p.finish stands.follows.finish (w.moment + k) within
        before (i, f, at, early, spent)) (ap (list_any (is_unlimited cmp w.caps)) (flows_later k) ∙ none_unlimited)

    -- before the next event the world is quiet
    pub quiet_before : (k : ℕ) → w.moment + k ≤ last_moment → IfSome (next_event p) (λ e. w.moment + k < e)
        → IsQuiet cmp (w.moment + k) (later k)
    quiet_before k within before =
        grind (
          arith,
          (none_done_before k within),
          (none_ready_at (w.moment + k) p (later k) (follows_later k).tallies
              (none_before (SomeReadyAt cmp p) p.start stands.start (w.moment + k) within
              (both_before p.finish p.start (w.moment + k) before).1)),
        )

    -- ---- the next event

    first_drain : Drains cmp w (later 1)
    first_drain = grind (arith, rates_fair)

    pub passes_to : (n : ℕ) → w.moment + suc n ≤ last_moment → IfSome (next_event p) (λ e. w.moment + suc n < e)
        → Passes cmp (suc n) w (later (suc n))
    passes_to n within before =
        stretch cmp w stands.follows.rated.per stands.follows.rated.rates rates_fair all_positive n
        (λ k h j. quiet_before k (omega arith) (before_still _ _ _ (omega arith) before))

    -- every nanosecond before the next event passes, and the one after them drains the world once for all
    pub passes_before : (n : ℕ) → w.moment + n ≤ last_moment → IfSome (next_event p) (λ e. w.moment + n < e)
        → (v : World P) × Passes cmp n w v × Drains cmp v (later (suc n))
    passes_before zero within before = (w, no_time, first_drain)
    passes_before (suc n) within before =
        grind (
          arith,
          common_steps,
          later,
          (later (suc n)),
          (passes_to n within before),
          (add-one (suc n)),
          (drifts_on cmp w stands.follows.rated.per stands.follows.rated.rates (suc n) rates_fair all_positive),
        )

    pub comes_at : (n : ℕ) → w.moment + suc n ≤ last_moment → IfSome (next_event p) (λ e. w.moment + n < e)
        → ¬ IsQuiet cmp (w.moment + suc n) (later (suc n)) → NextIs cmp w (Some (w.moment + suc n))
    comes_at n within before event =
        let way : (v : World P) × Passes cmp n w v × Drains cmp v (later (suc n)) = grind (arith, passes_before) in
        comes_next way.1 way.2 event within

    pub nothing_comes : next_event p ≡ None → NextIs cmp w None
    nothing_comes e = by_count (last_moment - w.moment) refl
      where
        by_count : (n : ℕ) → last_moment - w.moment ≡ n → NextIs cmp w None
        by_count zero is = never_comes (subst (λ (k : ℕ). Passes cmp k w w) (sym is) no_time)
        by_count (suc n) is =
            never_comes (subst (λ (k : ℕ). Passes cmp k w (later (suc n))) (sym is)
            (passes_to n (omega arith) (subst (λ (o : Option ℕ). IfSome o (λ e. w.moment + suc n < e)) (sym e) tt)))

    pub spent_at_finish : (e : ℕ) → p.finish ≡ Some e → (e ≤ last_moment) × SomeSpentAt p.sending e
    spent_at_finish e is = grind arith

    pub finish_is_later : (e : ℕ) → p.finish ≡ Some e → w.moment < e
    finish_is_later e is = by_order (cases_lt w.moment e) (spent_at_finish e is).1
      where
        by_order : (w.moment < e) ⊎ (e ≤ w.moment) → SomeSpentAt p.sending e → w.moment < e
        by_order (inl lt) spent = lt
        by_order (inr le) spent =
            let done = done_at (is_unlimited cmp w.caps) e w.moment p.sending w.sending spent.0 spent.1 le
            stands.follows.tallies.sending spent.2 spent.4 in
            let quiet : list_any (is_done cmp w) w.sending ≡ false = stands.quiet.none_done in
            cc

    pub busy_at_finish : (e k : ℕ) → p.finish ≡ Some e → w.moment + k ≡ e → ¬ IsQuiet cmp (w.moment + k) (later k)
    busy_at_finish e k is at quiet =
        let spent : SomeSpentAt p.sending e = (spent_at_finish e is).1 in
        let done = done_at (is_unlimited cmp w.caps) e (w.moment + k) p.sending (later k).sending spent.0 spent.1
        (omega arith) (flights_later k) spent.2 spent.4 in
        let none : list_any (is_done cmp (later k)) (later k).sending ≡ false = quiet.none_done in
        cc

    -- the planned finish, where it comes first, is the next event
    pub finish_is_next : (e : ℕ) → p.finish ≡ Some e → next_event p ≡ Some e → NextIs cmp w (Some e)
    finish_is_next e is first =
        let after : w.moment < e = finish_is_later e is in
        let within : e ≤ last_moment = (spent_at_finish e is).0 in
        by_count (e - w.moment) after within refl
      where
        by_count : (n : ℕ) → w.moment < e → e ≤ last_moment → e - w.moment ≡ n → NextIs cmp w (Some e)
        by_count zero after within count = absurd (omega arith)
        by_count (suc n) after within count =
            let at : w.moment + suc n ≡ e = omega arith in
            subst (λ (t : ℕ). NextIs cmp w (Some t)) at (comes_at n (omega arith)
            (subst (λ (o : Option ℕ). IfSome o (λ e. w.moment + n < e)) (sym first) (omega arith))
            (busy_at_finish e (suc n) is at))
