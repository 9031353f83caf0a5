-- A message that joins the planned waiting ones stands last among those of its pair, and their order by pairs stays.
use Rattle.link_simulation.proofs.Common.{◌≡◌, ℕ, ◌+◌, ◌<◌, ◌≤◌, length, arith, inl, inr, List, [], ◌∷◌, ◌++◌, Bool}
use Rattle.link_simulation.proofs.Common.{true, false, cond, Option, Some, refl, sym, ap, ◌∙◌, subst, IfSome, filter}
use Rattle.link_simulation.proofs.Common.{find, list_any, AllZip, Ordering, IsTotalOrder, or_from, or_left}
use Rattle.link_simulation.proofs.Common.{filter-append, Completed, Course, World, and_then, goes, is_done, last_moment}
use Rattle.link_simulation.proofs.Common.{may_start, meets, ready, settle, start, start_next, EndsWith, flight_of, Runs}
use Rattle.link_simulation.proofs.Common.{act, call_enqueue, Enqueues, Launches, launches, no_id, no_launch}
use Rattle.link_simulation.proofs.Common.{nothing_waits, starts, too_early, at_once, Message, SameMessage, pair_before}
use Rattle.link_simulation.proofs.Common.{same_pair, AreInPairOrder, Planned, next_event, next_of, queued, CoursesAlike}
use Rattle.link_simulation.proofs.Common.{Follows, IsSettled, StandsFor, Tallies, out_of_waiting, joined, Each}
use Rattle.link_simulation.proofs.Common.{each_map, zip-append}
use Rattle.link_simulation.proofs.Rule.Limit.{reaches, settled_rests}
use Rattle.std.proofs.lemmas.List.{append-nil}
use Rattle.link_simulation.proofs.Simulation.Queue.{pair_sym, pair_like, find_passes, preceded_none}
use Rattle.link_simulation.proofs.Rule.BeforeNext.{filter_none, may_alike, messages_alike}
use Rattle.link_simulation.proofs.Simulation.SettlingEnds.{find_like}
use Rattle.link_simulation.proofs.Simulation.AlikeMessages.{pair_itself, message_itself}
use Rattle.link_simulation.proofs.Rule.Settling.{finishes_alike, no_queue}
use Rattle.link_simulation.proofs.Rule.Launch.{NoneDone, joining, started, OptionsAlike, next_alike, StartsSo}
use Rattle.link_simulation.proofs.Rule.Launch.{start_alike}
use Rattle.link_simulation.proofs.Rule.FinishEvent.{settle_quiet}
use Rattle.link_simulation.proofs.Simulation.OnePair.{IsRested, only_taken, only_joined, rested_joined}
use Rattle.link_simulation.proofs.Simulation.NoneReadied.{IsHeld, rested_other, find_without, all_rested, finish_rests}
use Rattle.link_simulation.proofs.Simulation.NoneReadied.{none_then}
use Rattle.link_simulation.proofs.Rule.Waking.{each_none, round_is, round_fuel, round_alike}
use Rattle.link_simulation.proofs.Simulation.FilteredFronts.{before_both}
use Rattle.link_simulation.proofs.Simulation.PairOrder.{apart_if_before, not_before_back}

module _ {P : Type 0} (cmp : P → P → Ordering) (order : IsTotalOrder cmp) where
  any_from : (test : Message P → Bool) (ms : List (Message P)) → Each (λ z. test z ≡ false) ms
      → list_any test ms ≡ false
  any_from test [] h = refl
  any_from test (m ∷ ms) h = or_from (test m) (list_any test ms) h.0 (any_from test ms h.1)

  -- all that stand behind a message of a later pair are of later pairs
  all_after : (m n : Message P) (ns : List (Message P)) → pair_before cmp m n ≡ true
      → list_any (λ z. pair_before cmp z n) ns ≡ false → Each (λ z. pair_before cmp m z ≡ true) (n ∷ ns)
  all_after m n ns before none = (
    before,
    each_map (λ z. pair_before cmp z n ≡ false) (λ z. pair_before cmp m z ≡ true) ns
        (λ z k. before_both cmp order m n z before k) (each_none (λ z. pair_before cmp z n) ns none),
  )

  any_queued : (test : Message P → Bool) (m : Message P) (ms : List (Message P)) → test m ≡ false
      → list_any test ms ≡ false → list_any test (queued cmp m ms) ≡ false
  any_queued test m [] e none = or_from (test m) false e refl
  any_queued test m (n ∷ ns) e none = grind (arith, (any_queued test m ns e))

  pub queued_in_order : (m : Message P) (ms : List (Message P)) → AreInPairOrder cmp ms
      → AreInPairOrder cmp (queued cmp m ms)
  queued_in_order m [] h = (refl, tt)
  queued_in_order m (n ∷ ns) h = by_test (pair_before cmp m n) refl (queued_in_order m ns h.1)
    where
      by_test : (b : Bool) → pair_before cmp m n ≡ b → AreInPairOrder cmp (queued cmp m ns)
          → AreInPairOrder cmp (cond b (m ∷ n ∷ ns) (n ∷ queued cmp m ns))
      by_test true e ih = (
        any_from (λ z. pair_before cmp z m) (n ∷ ns)
            (each_map (λ z. pair_before cmp m z ≡ true) (λ z. pair_before cmp z m ≡ false) (n ∷ ns)
            (λ z k. not_before_back cmp order m z k) (all_after m n ns e h.0)),
        h,
      )
      by_test false e ih = (any_queued (λ z. pair_before cmp z n) m ns e h.0, ih)

  -- it stands last among those of its pair
  pub queued_last : (k m : Message P) (ms : List (Message P)) → AreInPairOrder cmp ms
      → filter (same_pair cmp k) (queued cmp m ms) ≡ filter (same_pair cmp k) ms ++ filter (same_pair cmp k) (m ∷ [])
  queued_last k m [] h = refl
  queued_last k m (n ∷ ns) h = by_test (pair_before cmp m n) refl (queued_last k m ns h.1)
    where
      behind : (b : Bool) → same_pair cmp k m ≡ b → Each (λ z. pair_before cmp m z ≡ true) (n ∷ ns)
          → cond b (m ∷ filter (same_pair cmp k) (n ∷ ns)) (filter (same_pair cmp k) (n ∷ ns))
          ≡ filter (same_pair cmp k) (n ∷ ns) ++ cond b (m ∷ []) []
      behind true e after = grind (arith, filter_none, each_map, pair_like, apart_if_before)
      behind false e after = sym (append-nil (filter (same_pair cmp k) (n ∷ ns)))

      later : (b : Bool) → filter (same_pair cmp k) (queued cmp m ns)
          ≡ filter (same_pair cmp k) ns ++ filter (same_pair cmp k) (m ∷ [])
          → cond b (n ∷ filter (same_pair cmp k) (queued cmp m ns)) (filter (same_pair cmp k) (queued cmp m ns))
          ≡ cond b (n ∷ filter (same_pair cmp k) ns) (filter (same_pair cmp k) ns) ++ filter (same_pair cmp k) (m ∷ [])
      later true ih = ap (λ (q : List (Message P)). n ∷ q) ih
      later false ih = ih

      by_test : (b : Bool) → pair_before cmp m n ≡ b → filter (same_pair cmp k) (queued cmp m ns)
          ≡ filter (same_pair cmp k) ns ++ filter (same_pair cmp k) (m ∷ [])
          → filter (same_pair cmp k) (cond b (m ∷ n ∷ ns) (n ∷ queued cmp m ns))
          ≡ filter (same_pair cmp k) (n ∷ ns) ++ filter (same_pair cmp k) (m ∷ [])
      by_test true e ih = behind (same_pair cmp k m) refl (all_after m n ns e h.0)
      by_test false e ih = later (same_pair cmp k n) ih

  -- the worlds still tally with the message among those that wait
  pub queued_tallies : (t : ℕ) (p : Planned P) (w : World P) (m : Message P) → p.limited ≡ true → Tallies cmp t p w
      → Tallies cmp t (record p { waiting = queued cmp m p.waiting }) (record w { waiting = w.waiting ++ m ∷ [] })
  queued_tallies t p w m limits same =
      grind (arith, queued_last, filter-append, zip-append, queued_in_order, message_itself)

  -- ---- the call

  find_end : {X : Type 0} (test : X → Bool) (x : X) (xs : List X) → test x ≡ false
      → find test (xs ++ x ∷ []) ≡ find test xs
  find_end test x [] e = rw e refl
  find_end {X} test x (z ∷ xs) e = grind (arith, (find_end test x xs e))

  found_end : {X : Type 0} (test : X → Bool) (x : X) (xs : List X) → test x ≡ true
      → (z : X) × (find test (xs ++ x ∷ []) ≡ Some z)
  found_end test x [] e = (x, rw e refl)
  found_end {X} test x (z ∷ xs) e = by_test (test z) (found_end test x xs e)
    where
      by_test : (b : Bool) → (y : X) × (find test (xs ++ x ∷ []) ≡ Some y)
          → (y : X) × (cond b (Some z) (find test (xs ++ x ∷ [])) ≡ Some y)
      by_test true ih = (z, refl)
      by_test false ih = ih

  abbrev pub waits_too : World P → Message P → World P
  waits_too u m = record u { waiting = u.waiting ++ m ∷ [] }

  -- every other pair still may not start
  others_rest : (t : ℕ) (u : World P) (m k : Message P) → ready cmp t u ≡ [] → same_pair cmp k m ≡ false
      → IsRested cmp order k t (waits_too u m)
  unfolding IsRested
  others_rest t u m k none_ready off x found =
      all_rested cmp order t u k none_ready x (sym (find_end (same_pair cmp k) m u.waiting off) ∙ found)

  held_after : (t : ℕ) (u : World P) (m y k : Message P) → ready cmp t u ≡ [] → same_pair cmp m y ≡ true
      → IsHeld cmp order k t (joining cmp order (waits_too u m) y) (started cmp order (waits_too u m) y)
  held_after t u m y k none_ready pair = by_pair _ refl _
    where
      off_m : same_pair cmp k y ≡ false → same_pair cmp k m ≡ false
      off_m e = pair_sym cmp order k m ∙ sym (pair_like cmp order m y k pair) ∙ pair_sym cmp order y k ∙ e

      by_pair : (a : Bool) → same_pair cmp k y ≡ a → (b : Bool) → IsHeld cmp order k t (cond b (flight_of y ∷ []) [])
          (cond b (out_of_waiting cmp (waits_too u m) y) (joined cmp (waits_too u m) y))
      by_pair true e true = inl (or_left _ false e)
      by_pair true e false = inr (rested_joined cmp order k t _ y e)
      by_pair false e true =
          inr (rested_other cmp order k y t _ _ e (only_taken cmp order y _ y (pair_itself cmp order y))
          (find_without cmp order k y (waits_too u m).waiting e) (others_rest t u m k none_ready (off_m e)))
      by_pair false e false =
          inr (rested_other cmp order k y t _ _ e (only_joined cmp order y _ y (pair_itself cmp order y))
          (find_without cmp order k y (waits_too u m).waiting e) (others_rest t u m k none_ready (off_m e)))

  all_rest : (t : ℕ) (u : World P) (m y : Message P) → ready cmp t u ≡ []
      → find (same_pair cmp m) (waits_too u m).waiting ≡ Some y → may_start cmp t (waits_too u m) y ≡ false
      → (k : Message P) → IsRested cmp order k t (waits_too u m)
  unfolding IsRested
  all_rest t u m y none_ready found early k = grind (arith, find_like, others_rest)

  -- a launch that is too early changes nothing
  stays_out : {t : ℕ} {p : Planned P} {o : Option (Message P)} {course : Course (Message P) (Planned P)}
      → Launches cmp t p o course → (w : World P) (y : Message P)
      → Follows cmp t p w → may_start cmp t w y ≡ false → OptionsAlike (SameMessage cmp) o (Some y) → course ≡ goes [] p
  stays_out nothing_waits w y follows early alike = refl
  stays_out (too_early e) w y follows early alike = refl
  stays_out {t = t} {p = p} (no_id {m = x} may last) w y follows early alike = grind (arith, may_alike, messages_alike)
  stays_out {t = t} {p = p} (starts {m = x} may below account) w y follows early alike =
      grind (arith, may_alike, messages_alike)

  begins : (t : ℕ) (w : World P) (y : Message P) → may_start cmp t w y ≡ true
      → start_next cmp t w (Some y) ≡ start cmp w y
  begins t w y e = rw e refl

  begins_not : (t : ℕ) (w : World P) (y : Message P) → may_start cmp t w y ≡ false
      → start_next cmp t w (Some y) ≡ goes [] w
  begins_not t w y e = rw e refl

  -- under limits, what a message does as it is enqueued
  joins : (t : ℕ) (p : Planned P) (u : World P) (m : Message P) (course : Course (Completed P) (Planned P))
      → p.limited ≡ true → Follows cmp t p u
      → list_any (is_done cmp u) u.sending ≡ false → ready cmp t u ≡ [] → Enqueues cmp t m p course
      → CoursesAlike cmp (IsSettled cmp t) course
      (and_then (start_next cmp t (waits_too u m) (find (same_pair cmp m) (waits_too u m).waiting)) (settle cmp t))
      × EndsWith (λ v. ready cmp t v ≡ [])
      (and_then (start_next cmp t (waits_too u m) (find (same_pair cmp m) (waits_too u m).waiting)) (settle cmp t))
  joins t p u m course limits follows none_done none_ready enqueues =
      let found = found_end _ m u.waiting (pair_itself cmp order m) in
      by_may found.0 found.1 _ refl enqueues
    where
      there : Follows cmp t (record p { waiting = queued cmp m p.waiting }) (waits_too u m)
      there = grind (arith, queued_tallies)

      idle : NoneDone cmp order (waits_too u m)
      idle = each_none _ u.sending none_done

      abreast : (y : Message P) → find (same_pair cmp m) (u.waiting ++ m ∷ []) ≡ Some y
          → OptionsAlike (SameMessage cmp) (next_of cmp (record p { waiting = queued cmp m p.waiting }) m) (Some y)
      abreast y found =
          subst (λ (o : Option (Message P)). OptionsAlike (SameMessage cmp) (next_of cmp
          (record p { waiting = queued cmp m p.waiting }) m) o) found (next_alike cmp order t _ _ m m there.tallies
          (message_itself cmp order m))

      own_first : (y : Message P) → find (same_pair cmp m) (u.waiting ++ m ∷ []) ≡ Some y
          → find (same_pair cmp y) (u.waiting ++ m ∷ []) ≡ Some y
      own_first y found = grind (arith, find_like, find_passes)

      other_mode : {A : Type 0} → p.limited ≡ false → A
      other_mode off = cc

      result : (c : Course (Completed P) (World P)) (x : Course (Completed P) (Planned P))
          → and_then (start_next cmp t (waits_too u m) (find (same_pair cmp m) (waits_too u m).waiting)) (settle cmp t)
          ≡ c → CoursesAlike cmp (IsSettled cmp t) x c → EndsWith (λ v. ready cmp t v ≡ []) c
          → CoursesAlike cmp (IsSettled cmp t) x (and_then
          (start_next cmp t (waits_too u m) (find (same_pair cmp m) (waits_too u m).waiting)) (settle cmp t))
          × EndsWith (λ v. ready cmp t v ≡ []) (and_then
          (start_next cmp t (waits_too u m) (find (same_pair cmp m) (waits_too u m).waiting)) (settle cmp t))
      result c x e h k = grind arith

      first_is : (y : Message P) (c : Course (Completed P) (World P))
          → find (same_pair cmp m) (u.waiting ++ m ∷ []) ≡ Some y → start_next cmp t (waits_too u m) (Some y) ≡ c
          → and_then (start_next cmp t (waits_too u m) (find (same_pair cmp m) (waits_too u m).waiting)) (settle cmp t)
          ≡ and_then c (settle cmp t)
      first_is y c found e = grind arith

      by_may : (y : Message P) → find (same_pair cmp m) (u.waiting ++ m ∷ []) ≡ Some y → (b : Bool)
          → may_start cmp t (waits_too u m) y ≡ b → {x : Course (Completed P) (Planned P)} → Enqueues cmp t m p x
          → CoursesAlike cmp (IsSettled cmp t) x (and_then
          (start_next cmp t (waits_too u m) (find (same_pair cmp m) (waits_too u m).waiting)) (settle cmp t))
          × EndsWith (λ v. ready cmp t v ≡ []) (and_then
          (start_next cmp t (waits_too u m) (find (same_pair cmp m) (waits_too u m).waiting)) (settle cmp t))
      by_may y found true may (no_launch {fault = fault} under launch) =
          let fails : start cmp (waits_too u m) y ≡ meets fault =
          start_alike cmp order launch (waits_too u m) y there idle may (own_first y found) (abreast y found) in
          result _ (meets fault) (first_is y (meets fault) found (begins t (waits_too u m) y may ∙ fails)) refl tt
      by_may y found true may {x} (launches {leavers = leavers} {mid = mid} under launch finishes) =
          let so : StartsSo cmp order t (waits_too u m) y leavers mid =
          start_alike cmp order launch (waits_too u m) y there idle may (own_first y found) (abreast y found) in
          let alike = round_alike cmp order finishes (waits_too u m) y idle so in
          let pair : same_pair cmp m y ≡ true = find_passes _ y (u.waiting ++ m ∷ []) found in
          let rests = none_then cmp order t (settle cmp t (joined cmp (waits_too u m) y))
          (λ k. subst (λ (c : Course (Completed P) (World P)). EndsWith (IsRested cmp order k t) c)
          (sym (round_is cmp order t (waits_too u m) y idle so.one_each)) (finish_rests cmp order k
          (length (joined cmp (waits_too u m) y).sending + length (joined cmp (waits_too u m) y).waiting) t _ _
          (round_fuel cmp order (waits_too u m) y) (held_after t u m y k none_ready pair))) in
          result _ x (first_is y _ found (begins t _ y may ∙ so.starts) ∙ preceded_none _) alike rests
      by_may y found true may (at_once off) = other_mode off
      by_may y found false may (at_once off) = other_mode off
      by_may y found false may (no_launch {fault = fault} under launch) =
          let none = stays_out launch _ y there may (abreast y found) in
          cc
      by_may y found false may {x} (launches {leavers = leavers} {mid = mid} under launch finishes) =
          let same = stays_out launch _ y there may (abreast y found) in
          let no_leavers : leavers ≡ [] = cc in
          let same_mid : mid ≡ record p { waiting = queued cmp m p.waiting } = cc in
          let still = finishes_alike cmp order finishes (length _) [] (waits_too u m)
          (subst (λ (q : Planned P). Follows cmp t q (waits_too u m)) (sym same_mid) there) idle
          (subst (λ (ms : List (Message P)). AllZip (SameMessage cmp) ms []) (sym no_leavers) tt) (omega arith) in
          let quiet : settle cmp t (waits_too u m) ≡ goes [] (waits_too u m) = settle_quiet cmp order _ t _ none_done in
          result (goes [] (waits_too u m)) x (first_is y (goes [] (waits_too u m)) found
          (begins_not t (waits_too u m) y may) ∙ preceded_none (settle cmp t (waits_too u m)) ∙ quiet)
          (subst (λ (c : Course (Completed P) (World P)). CoursesAlike cmp (IsSettled cmp t) x c)
          (no_queue cmp order (length (u.waiting ++ m ∷ [])) t (waits_too u m)) still)
          (none_then cmp order t (goes [] (waits_too u m)) (all_rest t u m y none_ready found may))

  -- under limits, a message before the next event does in the planned world what it does in the world
  pub enqueues_alike : (p : Planned P) (w : World P) (now : ℕ) (m : Message P)
      (course : Course (Completed P) (Planned P)) → StandsFor cmp p w → p.limited ≡ true → w.moment ≤ now
      → now ≤ last_moment → IfSome (next_event p) (λ t. now < t) → Enqueues cmp now m p course
      → (c : Course (Completed P) (World P)) × Runs cmp w (call_enqueue now m) now c
      × CoursesAlike cmp (λ q v. StandsFor cmp q v × (v.moment ≡ now)) course c
  enqueues_alike p w now m course stands limits le within before enqueues =
      let there = reaches cmp order now p w stands le within before in
      let under = sym there.follows.tallies.limited ∙ limits in
      let c = and_then (start_next cmp now (waits_too there.world m) (find _ (waits_too there.world m).waiting))
      (settle cmp now) in
      let both = joins now p there.world m course limits there.follows there.none_done there.none_ready enqueues in
      let acts : act cmp there.world (call_enqueue now m) ≡ c = rw under refl in
      grind (arith, (preceded_none (act cmp there.world (call_enqueue now m))), (settled_rests cmp order now course c within both.0 both.1))
