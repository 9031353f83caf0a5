-- An instant ends in quiet, and leaves a quiet world as it is; so does each call end in quiet, and the next event comes
-- later.
use Rattle.link_simulation.proofs.Common.{common_steps, ◌≡◌, ℕ, zero, suc, ◌+◌, ◌<◌, ◌≤◌, List, [], ◌∷◌, ◌++◌, length}
use Rattle.link_simulation.proofs.Common.{Bool, true, not, Option, Some, None, refl, ap, ◌∙◌, subst, arith, IfSome}
use Rattle.link_simulation.proofs.Common.{filter, find, Ordering, IsTotalOrder, filter-append, Completed, Course}
use Rattle.link_simulation.proofs.Common.{EndsWith, IsQuiet, World, and_then, first_waiting, goes, instant, is_done}
use Rattle.link_simulation.proofs.Common.{is_in_order, later_of, least_pair, raised, ready, settle, settle_within}
use Rattle.link_simulation.proofs.Common.{start_next, turn, wake, wake_within, Call, Runs, act, call_advance}
use Rattle.link_simulation.proofs.Common.{call_enqueue, call_limit, call_enqueue_all, call_next, complete_at_once}
use Rattle.link_simulation.proofs.Common.{moment_of, limited_by, rebalance, call_limit_link, enqueue}
use Rattle.link_simulation.proofs.Common.{Message, same_pair, Caps, no_time, Drains, NextIs, Passes, Ticks, comes_next}
use Rattle.link_simulation.proofs.Common.{never_comes, no_tick, one_tick, quiet_tick, tick_faults, find_from_any}
use Rattle.std.proofs.lemmas.List.{append-nil}
use Rattle.link_simulation.proofs.Simulation.Queue.{settle_none, preceded_none}
use Rattle.link_simulation.proofs.Simulation.SettlingEnds.{ends_preceded, ends_and_then, ends_cond, each_ends}
use Rattle.link_simulation.proofs.Simulation.SettlingEnds.{settle_rests, settle_keeps}
use Rattle.link_simulation.proofs.Simulation.OtherPairs.{Leaves, ends_more, leaves_like, next_leaves, start_leaves}
use Rattle.link_simulation.proofs.Simulation.OtherPairs.{complete_leaves, ready_without, any_from_find, IsButFor}
use Rattle.link_simulation.proofs.Simulation.AlikeMessages.{pair_itself}
use Rattle.link_simulation.proofs.Simulation.Pass.{ends_both, wake_none, wake_ends_quiet}

filter_none : {X : Type 0} (p q : X → Bool) (xs : List X) → ((x : X) → p x ≡ true → q x ≡ true) → filter q xs ≡ []
    → filter p xs ≡ []
filter_none p q [] more e = refl
filter_none {X} p q (x ∷ xs) more e = grind (arith, (filter_none p q xs more))

later_in_order : (last : Option ℕ) (at moment : ℕ) → is_in_order (Some (later_of last at)) moment ≡ true
    → is_in_order last moment ≡ true
later_in_order None at moment e = refl
later_in_order (Some last) at moment e = grind arith

module _ {P : Type 0} (cmp : P → P → Ordering) (order : IsTotalOrder cmp) where
  -- ---- the moment stays

  abbrev pub IsAt : ℕ → World P → Type 0
  IsAt t v = v.moment ≡ t

  -- what one pair's change leaves alone outlasts settling
  pub settle_outlasts : (Q : World P → Type 0) → ((m : Message P) (v u : World P) → IsButFor cmp m v u → Q v → Q u)
      → (t : ℕ) (w : World P) → Q w → EndsWith Q (settle cmp t w)
  settle_outlasts Q kept t w h =
      settle_keeps cmp order Q t (λ v f e k. ends_more cmp order _ Q _ (λ u l. kept f.message v u l.others k)
      (complete_leaves cmp order t v f e)) _ w h

  pub turn_outlasts : (Q : World P → Type 0) → ((m : Message P) (v u : World P) → IsButFor cmp m v u → Q v → Q u)
      → (t : ℕ) (w : World P) (m : Message P) → Q w → EndsWith Q (turn cmp t w m)
  turn_outlasts Q kept t w m h =
      ends_and_then Q Q _ _ (ends_more cmp order (Leaves cmp order t m w) Q _ (λ u l. kept m w u l.others h)
      (start_leaves cmp order t w m)) (λ v k. settle_outlasts Q kept t v k)

  at_kept : (s : ℕ) (m : Message P) (v u : World P) → IsButFor cmp m v u → IsAt s v → IsAt s u
  at_kept s m v u a h = a.moment ∙ h

  settle_stays : (t s : ℕ) (w : World P) → IsAt s w → EndsWith (IsAt s) (settle cmp t w)
  settle_stays t s w h = settle_outlasts (IsAt s) (at_kept s) t w h

  -- what a property of worlds needs to outlast waking
  pub wake_keeps : (Q : World P → Type 0) (t : ℕ)
      → ((w : World P) (m : Message P) → least_pair cmp (ready cmp t w) ≡ Some m → Q w → EndsWith Q (turn cmp t w m))
      → (n : ℕ) (w : World P) → Q w → EndsWith Q (wake_within cmp n t w)
  wake_keeps Q t step zero w h = h
  wake_keeps Q t step (suc n) w h = grind (arith, (wake_keeps Q t step n))

  pub wake_outlasts : (Q : World P → Type 0) → ((m : Message P) (v u : World P) → IsButFor cmp m v u → Q v → Q u)
      → (t : ℕ) (w : World P) → Q w → EndsWith Q (wake cmp t w)
  wake_outlasts Q kept t w h = wake_keeps Q t (λ v m e k. turn_outlasts Q kept t v m k) (length w.waiting) w h

  pub instant_outlasts : (Q : World P → Type 0) → ((m : Message P) (v u : World P) → IsButFor cmp m v u → Q v → Q u)
      → (w : World P) → Q w → EndsWith Q (instant cmp w)
  instant_outlasts Q kept w h =
      ends_and_then Q Q _ _ (settle_outlasts Q kept w.moment w h) (λ v k. wake_outlasts Q kept v.moment v k)

  wake_stays : (t s : ℕ) (w : World P) → IsAt s w → EndsWith (IsAt s) (wake cmp t w)
  wake_stays t s w h = wake_outlasts (IsAt s) (at_kept s) t w h

  -- ---- the instant

  abbrev pub IsQuietNow : World P → Type 0
  IsQuietNow v = IsQuiet cmp v.moment v

  pub settle_nothing : (n t : ℕ) (w : World P) → find (is_done cmp w) w.sending ≡ None
      → settle_within cmp n t w ≡ goes [] w
  settle_nothing zero t w e = refl
  settle_nothing (suc n) t w e = settle_none cmp order n t w e

  -- the instant of a quiet world leaves it as it is
  pub instant_of_quiet : (w : World P) → IsQuietNow w → instant cmp w ≡ goes [] w
  instant_of_quiet w q = grind (arith, settle_nothing, find_from_any, preceded_none, wake_none)

  -- after an instant the world is quiet
  pub instant_ends_quiet : (w : World P) → EndsWith IsQuietNow (instant cmp w)
  instant_ends_quiet w =
      grind (arith, ends_and_then, settle_rests, ends_more, ends_both, wake_ends_quiet, any_from_find, wake_stays)

  pub instant_stays : (w : World P) → EndsWith (IsAt w.moment) (instant cmp w)
  instant_stays w = instant_outlasts (IsAt w.moment) (at_kept w.moment) w refl

  -- a world that its instant leaves as it is is quiet
  pub quiet_if_unchanged : (w : World P) → instant cmp w ≡ goes [] w → IsQuietNow w
  quiet_if_unchanged w e = grind (arith, instant_ends_quiet)

  -- ---- ticks

  pub next_moment : (w v : World P) → Drains cmp w v → v.moment ≡ w.moment + 1
  next_moment w v d = ap (λ (u : World P). u.moment) d.world

  pub ends_at : (Q : World P → Type 0) (c : Course (Completed P) (World P)) (xs : List (Completed P)) (v : World P)
      → c ≡ goes xs v → EndsWith Q c → Q v
  ends_at Q c xs v e h = subst (EndsWith Q) e h

  pub ticks_end_at : {n : ℕ} {w : World P} {c : Course (Completed P) (World P)} → Ticks cmp n w c
      → EndsWith (IsAt (w.moment + n)) c
  ticks_end_at {w = w} no_tick = let e : w.moment ≡ w.moment + 0 = omega arith in e
  ticks_end_at (one_tick {n = n} {w = w} {v = v} {u = u} {cs = cs} {rest = rest} d i t) =
      grind (arith, ends_at, instant_stays, next_moment, ends_preceded, (ticks_end_at t))
  ticks_end_at (tick_faults d i) = tt

  -- a world that was quiet is quiet after ticks
  pub ticks_end_quiet : {n : ℕ} {w : World P} {c : Course (Completed P) (World P)} → Ticks cmp n w c → IsQuietNow w
      → EndsWith IsQuietNow c
  ticks_end_quiet no_tick q = q
  ticks_end_quiet (one_tick {v = v} {u = u} {cs = cs} {rest = rest} d i t) q =
      ends_preceded IsQuietNow cs rest (ticks_end_quiet t (ends_at IsQuietNow _ cs u i (instant_ends_quiet v)))
  ticks_end_quiet (tick_faults d i) q = tt

  -- ---- calls

  abbrev NoneReady : ℕ → World P → Type 0
  NoneReady t v = ready cmp t v ≡ []

  stays_unready : (t : ℕ) (m : Message P) (w v : World P) → NoneReady t w → Leaves cmp order t m w v → NoneReady t v
  stays_unready t m w v e l = ready_without cmp order t m w v l ∙ ap (filter (λ n. not (same_pair cmp m n))) e

  settle_unready : (t : ℕ) (w : World P) → NoneReady t w → EndsWith (NoneReady t) (settle cmp t w)
  settle_unready t w h =
      settle_keeps cmp order _ t (λ v f e k. ends_more cmp order _ _ _ (λ u l. stays_unready t f.message v u k l)
      (complete_leaves cmp order t v f e)) _ w h

  -- settling a world in which none may start ends in quiet
  settle_ends_quiet : (t : ℕ) (w : World P) → NoneReady t w → EndsWith (IsQuiet cmp t) (settle cmp t w)
  settle_ends_quiet t w h = grind (arith, ends_more, any_from_find, ends_both, settle_rests, settle_unready)

  abbrev pub queued : World P → Message P → World P
  queued w m = record w { waiting = w.waiting ++ m ∷ [] }

  pub queued_but_for : (w : World P) (m : Message P) → IsButFor cmp m w (queued w m)
  queued_but_for w m = grind (arith, filter-append, pair_itself, append-nil)

  abbrev pub QuietAt : ℕ → World P → Type 0
  QuietAt t v = IsQuiet cmp t v × IsAt t v

  enqueue_ends_quiet : (t : ℕ) (w : World P) (m : Message P) → NoneReady t w → IsAt t w → EndsWith (QuietAt t)
      (and_then (start_next cmp t (queued w m) (first_waiting cmp (queued w m) m)) (settle cmp t))
  enqueue_ends_quiet t w m unready at =
      ends_and_then (λ (v : World P). NoneReady t v × IsAt t v) (QuietAt t)
      (start_next cmp t (queued w m) (first_waiting cmp (queued w m) m)) (settle cmp t)
      (ends_more cmp order (Leaves cmp order t m (queued w m)) (λ (v : World P). NoneReady t v × IsAt t v)
      (start_next cmp t (queued w m) (first_waiting cmp (queued w m) m)) (λ v l. (
        grind (arith, stays_unready, leaves_like, pair_itself, queued_but_for),
        l.others.moment ∙ at,
      )) (next_leaves cmp order t (queued w m) m (first_waiting cmp (queued w m) m) refl))
      (λ v k. ends_both (IsQuiet cmp t) (IsAt t) (settle cmp t v) (settle_ends_quiet t v k.0) (settle_stays t t v k.1))

  -- an arrival makes none ready
  arrival_unready : (t : ℕ) (w : World P) (m : Message P) (at : ℕ) → NoneReady t w
      → NoneReady t (record w { last_arrival = raised cmp w.last_arrival m at })
  arrival_unready t w m at unready = grind (arith, filter_none, later_in_order)

  at_once_ends_quiet : (t : ℕ) (w : World P) (m : Message P) → QuietAt t w
      → EndsWith (QuietAt t) (complete_at_once cmp t w m)
  at_once_ends_quiet t w m q = grind (arith, ends_cond, arrival_unready)

  rebalance_ends_quiet : (now t : ℕ) (w : World P) (caps : Caps P) → now ≡ t → QuietAt now w
      → EndsWith (QuietAt now) (rebalance cmp t w caps)
  rebalance_ends_quiet now t w caps same q =
      let changed : World P = record w { caps = caps; limited = true } in
      subst (λ (s : ℕ). EndsWith (QuietAt now) (settle cmp s changed)) same (ends_both _ (IsAt now) _
      (settle_ends_quiet now changed q.0.none_ready) (settle_stays now now changed q.1))

  pub one_ends_quiet : (t : ℕ) (w : World P) (m : Message P) → QuietAt t w → EndsWith (QuietAt t) (enqueue cmp t w m)
  one_ends_quiet t w m q = grind (arith, ends_cond, enqueue_ends_quiet, at_once_ends_quiet)

  act_ends_quiet : (now : ℕ) (call : Call P) (w : World P) → moment_of call ≡ Some now → QuietAt now w
      → EndsWith (QuietAt now) (act cmp w call)
  act_ends_quiet now (call_limit t peer egress ingress) w e q = grind (arith, rebalance_ends_quiet, limited_by)
  act_ends_quiet now (call_limit_link t origin recipient cap) w e q = grind (arith, rebalance_ends_quiet)
  act_ends_quiet now (call_enqueue t m) w e q = grind (arith, one_ends_quiet)
  act_ends_quiet now (call_enqueue_all t ms) w e q =
      grind (arith, common_steps, (each_ends cmp (QuietAt now) now (one_ends_quiet now) ms w q))
  act_ends_quiet now (call_advance t) w e q = q
  act_ends_quiet now call_next w e q = q

  pub passes_end_at : {n : ℕ} {w v : World P} → Passes cmp n w v → v.moment ≡ w.moment + n
  passes_end_at {w = w} no_time = let e : w.moment ≡ w.moment + 0 = omega arith in e
  passes_end_at (quiet_tick {n = n} {w = w} {v = v} {u = u} d q p) = grind (arith, next_moment, (passes_end_at p))

  -- the next event comes later than the world's moment
  pub next_is_later : (w : World P) (next : Option ℕ) → NextIs cmp w next → IfSome next (λ t. w.moment < t)
  next_is_later w next (never_comes p) = tt
  next_is_later w next (comes_next {n = n} {v = v} {u = u} p d q h) = grind (arith, passes_end_at, next_moment)

  -- a call on a quiet world ends in a quiet world, at the call's moment
  pub call_ends_quiet : (w : World P) (call : Call P) (now : ℕ) (course : Course (Completed P) (World P)) → IsQuietNow w
      → moment_of call ≡ Some now → w.moment ≤ now → Runs cmp w call now course → EndsWith (QuietAt now) course
  call_ends_quiet w call now course q e h runs =
      grind (arith, ends_and_then, ends_more, ends_both, ticks_end_quiet, ticks_end_at, act_ends_quiet)
