-- Each call leads from a sound world to a sound world, and to one alone.
use Rattle.link_simulation.proofs.Common.{◌≡◌, ℕ, ◌+◌, List, [], ◌∷◌, ◌++◌, Bool, true, false, cond, Option, Some, None}
use Rattle.link_simulation.proofs.Common.{refl, sym, ◌∙◌, subst, arith, ⊤, ◌&&◌, nat_lt, if◌then◌else◌, Ordering}
use Rattle.link_simulation.proofs.Common.{IsTotalOrder, map-append, not-true, without_first, same_peer, Completed}
use Rattle.link_simulation.proofs.Common.{Course, EndsWith, Flight, IsQuiet, World, and_then, complete, first_waiting}
use Rattle.link_simulation.proofs.Common.{flows, fronts, instant, is_done, is_idle, last_moment, later_of, least_pair}
use Rattle.link_simulation.proofs.Common.{may_start, meets, new_world, raised, ready, settle, start, start_next, turn}
use Rattle.link_simulation.proofs.Common.{wake, out_of_flight, completed, Call, Runs, act, call_advance, call_enqueue}
use Rattle.link_simulation.proofs.Common.{call_limit, call_enqueue_all, call_next, complete_at_once, enqueue, rebalance}
use Rattle.link_simulation.proofs.Common.{limited_by, call_limit_link, Caps, Message, OneForEachPair, CapsAlike}
use Rattle.link_simulation.proofs.Common.{PairsAlike, ArePositive, Drains, IsSound, Ticks, no_tick, one_tick}
use Rattle.link_simulation.proofs.Common.{tick_faults, MomentTooLate, peer_sym, each_filtered, by_bool}
use Rattle.link_simulation.specs.Simulation.Messages.{with_cap, with_link}
use Rattle.link_simulation.proofs.Simulation.Queue.{peer_like, one_without, one_pair_more}
use Rattle.link_simulation.proofs.Simulation.SettlingEnds.{ends_preceded, ends_and_then, ends_cond, each_ends}
use Rattle.link_simulation.proofs.Simulation.SettlingEnds.{settle_keeps}
use Rattle.link_simulation.proofs.Simulation.OtherPairs.{each_of, ends_more, Leaves, next_leaves, IsButFor}
use Rattle.link_simulation.proofs.Simulation.PairOrder.{found_in, least_is}
use Rattle.link_simulation.proofs.Simulation.Stretch.{flows_drained}
use Rattle.link_simulation.proofs.Simulation.OneNext.{drain_each_positive}
use Rattle.link_simulation.proofs.Simulation.QuietInstants.{settle_outlasts, instant_outlasts, wake_keeps}
use Rattle.link_simulation.proofs.Simulation.QuietInstants.{instant_of_quiet, queued, ends_at}

positive_on : {P : Type 0} (fs gs : List (Flight P)) → ArePositive fs → ArePositive gs → ArePositive (fs ++ gs)
positive_on [] gs h k = k
positive_on (f ∷ fs) gs h k = (h.0, positive_on fs gs h.1 k)

positive_without : {P : Type 0} (test : Flight P → Bool) (fs : List (Flight P)) → ArePositive fs
    → ArePositive (without_first test fs)
positive_without test [] h = tt
positive_without {P} test (f ∷ fs) h = grind (arith, (positive_without test fs))

module _ {P : Type 0} (cmp : P → P → Ordering) (order : IsTotalOrder cmp) where
  -- what is in flight is over numbers above zero, and one message for each pair
  pub record IsFit (w : World P) : Type 0 where
    pub positive : ArePositive w.sending
    pub one_each : OneForEachPair cmp (flows w)

  start_fit : (w : World P) (m : Message P) → is_idle cmp w m ≡ true → IsFit w → EndsWith IsFit (start cmp w m)
  start_fit w m idle fit = grind (arith, ends_cond, positive_on, map-append, one_pair_more, not-true)

  idle_if_starts : (t : ℕ) (w : World P) (m : Message P) → may_start cmp t w m ≡ true → is_idle cmp w m ≡ true
  idle_if_starts t w m e = grind arith

  next_fit : (t : ℕ) (w : World P) (o : Option (Message P)) → IsFit w → EndsWith IsFit (start_next cmp t w o)
  next_fit t w None fit = fit
  next_fit t w (Some m) fit = grind (arith, start, start_fit, idle_if_starts)

  complete_fit : (t : ℕ) (w : World P) (m : Message P) → IsFit w → EndsWith IsFit (complete cmp t w m)
  complete_fit t w m fit =
      let landed = out_of_flight cmp t w m in
      grind (
        arith,
        ends_cond,
        (ends_preceded IsFit (completed cmp t m ∷ []) (start_next cmp t landed (first_waiting cmp
            landed m)) (next_fit t landed (first_waiting cmp landed m) (record {
              positive = positive_without (is_done cmp w)
                  w.sending fit.positive;
              one_each = one_without cmp order (is_done cmp w) w.sending fit.one_each;
            }))),
      )

  settle_fit : (t : ℕ) (w : World P) → IsFit w → EndsWith IsFit (settle cmp t w)
  settle_fit t w fit = search (settle_keeps, complete_fit)

  turn_fit : (t : ℕ) (w : World P) (m : Message P) → may_start cmp t w m ≡ true → IsFit w
      → EndsWith IsFit (turn cmp t w m)
  turn_fit t w m e fit =
      ends_and_then IsFit IsFit (start cmp w m) _ (start_fit w m (idle_if_starts t w m e) fit) (λ v k. settle_fit t v k)

  ready_may_start : (t : ℕ) (w : World P) (m : Message P) → least_pair cmp (ready cmp t w) ≡ Some m
      → may_start cmp t w m ≡ true
  ready_may_start t w m e =
      (found_in cmp order _ _ m _ (each_filtered _ _ _ (each_of (λ (n : Message P). ⊤) (λ n. tt)
      (fronts cmp w.waiting))) (least_is cmp order m _ e).0).1

  wake_fit : (t : ℕ) (w : World P) → IsFit w → EndsWith IsFit (wake cmp t w)
  wake_fit t w fit = wake_keeps cmp order IsFit t (λ v m e k. turn_fit t v m (ready_may_start t v m e) k) _ w fit

  pub instant_fit : (w : World P) → IsFit w → EndsWith IsFit (instant cmp w)
  instant_fit w fit = grind (arith, ends_and_then, settle_fit, wake_fit)

  pub drains_fit : (w v : World P) → Drains cmp w v → IsFit w → IsFit v
  drains_fit w v d fit = grind (arith, drain_each_positive, flows_drained)

  pub ticks_fit : {n : ℕ} {w : World P} {c : Course (Completed P) (World P)} → Ticks cmp n w c → IsFit w
      → EndsWith IsFit c
  ticks_fit no_tick fit = fit
  ticks_fit (one_tick {w = w} {v = v} {u = u} {cs = cs} {rest = rest} d i t) fit =
      ends_preceded IsFit cs rest
      (ticks_fit t (ends_at cmp order IsFit (instant cmp v) cs u i (instant_fit v (drains_fit w v d fit))))
  ticks_fit (tick_faults d i) fit = tt

  rebalance_fit : (t : ℕ) (w : World P) (caps : Caps P) → IsFit w → EndsWith IsFit (rebalance cmp t w caps)
  rebalance_fit t w caps fit = grind (arith, settle_fit)

  enqueue_fit : (t : ℕ) (w : World P) (m : Message P) → IsFit w → EndsWith IsFit (enqueue cmp t w m)
  enqueue_fit t w m fit =
      ends_cond IsFit w.limited _ _ (ends_and_then IsFit IsFit (start_next cmp t (queued cmp order w m)
      (first_waiting cmp (queued cmp order w m) m)) _ (next_fit t (queued cmp order w m)
      (first_waiting cmp (queued cmp order w m) m) (record { positive = fit.positive; one_each = fit.one_each }))
      (λ v k. settle_fit t v k)) (ends_cond IsFit (m.should_deliver && nat_lt last_moment _) _ _ tt
      (record { positive = fit.positive; one_each = fit.one_each }))

  act_fit : (call : Call P) (w : World P) → IsFit w → EndsWith IsFit (act cmp w call)
  act_fit (call_limit t peer egress ingress) w fit = rebalance_fit t w _ fit
  act_fit (call_limit_link t origin recipient cap) w fit = rebalance_fit t w _ fit
  act_fit (call_enqueue t m) w fit = enqueue_fit t w m fit
  act_fit (call_enqueue_all t ms) w fit = each_ends cmp IsFit t (enqueue_fit t) ms w fit
  act_fit (call_advance t) w fit = fit
  act_fit call_next w fit = fit

  -- ---- before any limit nothing is in flight and nothing waits

  abbrev IsEmptyAtFirst : World P → Type 0
  IsEmptyAtFirst v = v.limited ≡ false → (v.sending ≡ []) × (v.waiting ≡ [])

  abbrev IsLimited : World P → Type 0
  IsLimited v = v.limited ≡ true

  limited_kept : (m : Message P) (v u : World P) → IsButFor cmp m v u → IsLimited v → IsLimited u
  limited_kept m v u a h = a.limited ∙ h

  empty_if_limited : (v : World P) → IsLimited v → IsEmptyAtFirst v
  empty_if_limited v h e = cc

  empty_is_quiet : (t : ℕ) (v : World P) → v.sending ≡ [] → v.waiting ≡ [] → IsQuiet cmp t v
  empty_is_quiet t v e f = record { none_done = rw e refl; none_ready = rw f refl }

  instant_empty : (w : World P) → IsEmptyAtFirst w → EndsWith IsEmptyAtFirst (instant cmp w)
  instant_empty w h =
      by_bool w.limited (λ e. ends_more cmp order IsLimited IsEmptyAtFirst _ empty_if_limited
      (instant_outlasts cmp order IsLimited limited_kept w e)) (λ e. grind (arith, instant_of_quiet, empty_is_quiet))

  drains_empty : (w v : World P) → Drains cmp w v → IsEmptyAtFirst w → IsEmptyAtFirst v
  drains_empty w v d h = grind arith

  ticks_empty : {n : ℕ} {w : World P} {c : Course (Completed P) (World P)} → Ticks cmp n w c → IsEmptyAtFirst w
      → EndsWith IsEmptyAtFirst c
  ticks_empty no_tick h = h
  ticks_empty (one_tick {w = w} {v = v} {u = u} {cs = cs} {rest = rest} d i t) h =
      grind (arith, ends_preceded, ends_at, instant_empty, drains_empty, (ticks_empty t))
  ticks_empty (tick_faults d i) h = tt

  rebalance_empty : (t : ℕ) (w : World P) (caps : Caps P) → EndsWith IsEmptyAtFirst (rebalance cmp t w caps)
  rebalance_empty t w caps =
      let changed : World P = record w { caps = caps; limited = true } in
      ends_more cmp order IsLimited IsEmptyAtFirst (settle cmp t changed) empty_if_limited
      (settle_outlasts cmp order IsLimited limited_kept t changed refl)

  enqueue_empty : (t : ℕ) (w : World P) (m : Message P) → IsEmptyAtFirst w → EndsWith IsEmptyAtFirst (enqueue cmp t w m)
  enqueue_empty t w m h = by_limited w.limited refl
    where
      course : Course (Completed P) (World P)
      course = start_next cmp t (queued cmp order w m) (first_waiting cmp (queued cmp order w m) m)

      by_limited : (b : Bool) → w.limited ≡ b
          → EndsWith IsEmptyAtFirst (cond b (and_then course (settle cmp t)) (complete_at_once cmp t w m))
      by_limited true e = ends_more cmp order IsLimited IsEmptyAtFirst (and_then course (settle cmp t)) empty_if_limited
          (ends_and_then IsLimited IsLimited course (settle cmp t) (ends_more cmp order (Leaves cmp order t m _)
          IsLimited course (λ v l. l.others.limited ∙ e) (next_leaves cmp order t _ m _ refl))
          (λ v k. settle_outlasts cmp order IsLimited limited_kept t v k))
      by_limited false e = grind (arith, ends_cond)

  act_empty : (call : Call P) (w : World P) → IsEmptyAtFirst w → EndsWith IsEmptyAtFirst (act cmp w call)
  act_empty (call_limit t peer egress ingress) w h = rebalance_empty t w _
  act_empty (call_limit_link t origin recipient cap) w h = rebalance_empty t w _
  act_empty (call_enqueue t m) w h = enqueue_empty t w m h
  act_empty (call_enqueue_all t ms) w h = each_ends cmp IsEmptyAtFirst t (enqueue_empty t) ms w h
  act_empty (call_advance t) w h = h
  act_empty call_next w h = h

  -- ---- equal peers

  record IsPeerwise (w : World P) : Type 0 where
    pub caps : CapsAlike cmp w.caps w.caps
    pub last_arrival : PairsAlike cmp w.last_arrival w.last_arrival

  as_peerwise : (w : World P) → IsSound cmp w → IsPeerwise w
  as_peerwise w sound = record { caps = sound.caps; last_arrival = sound.last_arrival }

  peer_alike : (p q r : P) → same_peer cmp q r ≡ true → same_peer cmp p q ≡ same_peer cmp p r
  peer_alike p q r e = peer_sym cmp order p q ∙ sym (peer_like cmp order q r p e) ∙ peer_sym cmp order r p

  pub raised_peerwise : (last : P → P → Option ℕ) (m : Message P) (at : ℕ)
      → ((p q r s : P) → same_peer cmp p q ≡ true → same_peer cmp r s ≡ true → last p r ≡ last q s)
      → (p q r s : P) → same_peer cmp p q ≡ true → same_peer cmp r s ≡ true
      → raised cmp last m at p r ≡ raised cmp last m at q s
  raised_peerwise last m at h p q r s e f = grind (arith, peer_alike)

  landed_peerwise : (w : World P) (fs : List (Flight P)) (m : Message P) (at : ℕ) → IsPeerwise w
      → IsPeerwise (record w { sending = fs; last_arrival = raised cmp w.last_arrival m at })
  landed_peerwise w fs m at h =
      record { caps = h.caps; last_arrival = raised_peerwise w.last_arrival m at h.last_arrival }

  start_peerwise : (w : World P) (m : Message P) → IsPeerwise w → EndsWith (IsPeerwise) (start cmp w m)
  start_peerwise w m h = grind arith

  next_peerwise : (t : ℕ) (w : World P) (o : Option (Message P)) → IsPeerwise w
      → EndsWith (IsPeerwise) (start_next cmp t w o)
  next_peerwise t w None h = h
  next_peerwise t w (Some m) h = grind (arith, ends_cond, start, start_peerwise)

  complete_peerwise : (t : ℕ) (w : World P) (m : Message P) → IsPeerwise w → EndsWith (IsPeerwise) (complete cmp t w m)
  complete_peerwise t w m h = search (ends_cond, ends_preceded, next_peerwise, landed_peerwise)

  settle_peerwise : (t : ℕ) (w : World P) → IsPeerwise w → EndsWith (IsPeerwise) (settle cmp t w)
  settle_peerwise t w h = search (settle_keeps, complete_peerwise)

  turn_peerwise : (t : ℕ) (w : World P) (m : Message P) → IsPeerwise w → EndsWith (IsPeerwise) (turn cmp t w m)
  turn_peerwise t w m h = ends_and_then _ _ _ _ (start_peerwise w m h) (λ v k. settle_peerwise t v k)

  instant_peerwise : (w : World P) → IsPeerwise w → EndsWith (IsPeerwise) (instant cmp w)
  instant_peerwise w h =
      ends_and_then _ _ _ _ (settle_peerwise w.moment w h) (λ v k. wake_keeps cmp order _ v.moment
      (λ u m e j. turn_peerwise v.moment u m j) _ v k)

  drains_peerwise : (w v : World P) → Drains cmp w v → IsPeerwise w → IsPeerwise v
  drains_peerwise w v d h = subst (IsPeerwise) (sym d.world) (record { caps = h.caps; last_arrival = h.last_arrival })

  ticks_peerwise : {n : ℕ} {w : World P} {c : Course (Completed P) (World P)} → Ticks cmp n w c → IsPeerwise w
      → EndsWith (IsPeerwise) c
  ticks_peerwise no_tick h = h
  ticks_peerwise (one_tick {w = w} {v = v} {u = u} {cs = cs} {rest = rest} d i t) h =
      grind (arith, ends_preceded, ends_at, instant_peerwise, drains_peerwise, (ticks_peerwise t))
  ticks_peerwise (tick_faults d i) h = tt

  cap_peerwise : (caps : P → Option ℕ) (peer : P) (cap : Option ℕ)
      → ((p q : P) → same_peer cmp p q ≡ true → caps p ≡ caps q) → (p q : P) → same_peer cmp p q ≡ true
      → with_cap cmp caps peer cap p ≡ with_cap cmp caps peer cap q
  cap_peerwise caps peer cap h p q e = grind (arith, peer_alike)

  link_peerwise : (links : P → P → Option ℕ) (origin recipient : P) (cap : Option ℕ) → PairsAlike cmp links links
      → PairsAlike cmp (with_link cmp links origin recipient cap) (with_link cmp links origin recipient cap)
  link_peerwise links origin recipient cap h p q r s e f = grind (arith, peer_alike)

  rebalance_peerwise : (t : ℕ) (w : World P) (caps : Caps P) → CapsAlike cmp caps caps → IsPeerwise w
      → EndsWith IsPeerwise (rebalance cmp t w caps)
  rebalance_peerwise t w caps same h =
      settle_peerwise t (record w { caps = caps; limited = true })
      (record { caps = same; last_arrival = h.last_arrival })

  enqueue_peerwise : (t : ℕ) (w : World P) (m : Message P) → IsPeerwise w → EndsWith IsPeerwise (enqueue cmp t w m)
  enqueue_peerwise t w m h =
      let at : ℕ = if m.should_deliver then later_of (w.last_arrival m.origin m.recipient) (t + m.latency) else t in
      ends_cond _ w.limited _ _ (ends_and_then _ (IsPeerwise) (start_next cmp t (queued cmp order w m)
      (first_waiting cmp (queued cmp order w m) m)) (settle cmp t) (next_peerwise t (queued cmp order w m)
      (first_waiting cmp (queued cmp order w m) m) (record { caps = h.caps; last_arrival = h.last_arrival }))
      (λ v k. settle_peerwise t v k)) (ends_cond (IsPeerwise) (m.should_deliver && nat_lt last_moment _)
      (meets MomentTooLate) _ tt (landed_peerwise w w.sending m at h))

  act_peerwise : (call : Call P) (w : World P) → IsPeerwise w → EndsWith (IsPeerwise) (act cmp w call)
  act_peerwise (call_limit t peer egress ingress) w h = grind (arith, rebalance_peerwise, limited_by, cap_peerwise)
  act_peerwise (call_limit_link t origin recipient cap) w h = grind (arith, rebalance_peerwise, link_peerwise)
  act_peerwise (call_enqueue t m) w h = enqueue_peerwise t w m h
  act_peerwise (call_enqueue_all t ms) w h = each_ends cmp IsPeerwise t (enqueue_peerwise t) ms w h
  act_peerwise (call_advance t) w h = h
  act_peerwise call_next w h = h

  -- ---- soundness

  pub new_world_sound : (id : ℕ) → IsSound cmp (new_world id)
  new_world_sound id = grind arith

  as_sound : (c : Course (Completed P) (World P)) → EndsWith IsFit c → EndsWith IsEmptyAtFirst c
      → EndsWith (IsPeerwise) c → EndsWith (IsSound cmp) c
  as_sound c a b d = grind arith

  as_fit : (w : World P) → IsSound cmp w → IsFit w
  as_fit w sound = record { positive = sound.positive; one_each = sound.one_each }

  pub ticks_keep_sound : {n : ℕ} {w : World P} {c : Course (Completed P) (World P)} → Ticks cmp n w c → IsSound cmp w
      → EndsWith (IsSound cmp) c
  ticks_keep_sound {w = w} {c = c} t sound =
      grind (arith, as_sound, ticks_fit, as_fit, ticks_empty, ticks_peerwise, as_peerwise)

  pub act_keeps_sound : (call : Call P) (w : World P) → IsSound cmp w → EndsWith (IsSound cmp) (act cmp w call)
  act_keeps_sound call w sound = grind (arith, as_sound, act_fit, as_fit, act_empty, act_peerwise, as_peerwise)

  -- an accepted call leads from a sound world to a sound one
  pub call_keeps_sound : (w : World P) (call : Call P) (now : ℕ) (course : Course (Completed P) (World P))
      → IsSound cmp w → Runs cmp w call now course → EndsWith (IsSound cmp) course
  call_keeps_sound w call now course sound runs = grind (arith, ends_and_then, ticks_keep_sound, act_keeps_sound)
