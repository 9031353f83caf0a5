-- The messages of a pair complete in the order in which they were enqueued, and are delivered in it.
use Rattle.link_simulation.proofs.Common.{preceded, EndsWith, ◌≡◌, ℕ, suc, ◌+◌, ◌-◌, ◌≤◌, List, [], ◌∷◌}
use Rattle.link_simulation.proofs.Common.{◌++◌, map, Bool, true, false, cond, Option, Some, None, refl, sym, ap, ◌∙◌}
use Rattle.link_simulation.proofs.Common.{subst, arith, append_assoc, append-nil, IfSome, if◌then◌else◌}
use Rattle.link_simulation.proofs.Common.{filter, AllZip, Ordering, IsTotalOrder, filter-append, leb-true, le-leb}
use Rattle.link_simulation.proofs.Common.{MomentTooLate, Message, Caps, PairsAlike, same_pair, World, Flight, Completed}
use Rattle.link_simulation.proofs.Common.{completion_of, Course, goes, meets, and_then, is_in_order}
use Rattle.link_simulation.proofs.Common.{later_of, new_world, raised, IsSound, Drains, Ticks, no_tick}
use Rattle.link_simulation.proofs.Common.{one_tick, tick_faults, Call, call_limit, call_limit_link, call_enqueue}
use Rattle.link_simulation.proofs.Common.{call_advance, complete_at_once, act, moment_of, Runs, call_enqueue_all}
use Rattle.link_simulation.proofs.Common.{call_next, limited_by, enqueue, enqueue_each, enqueued, answered}
use Rattle.link_simulation.proofs.Common.{IsCompletionOf, NeverGoDown, Answers, no_calls, call_answers, by_bool}
use Rattle.link_simulation.specs.Simulation.Calls.{join}
use Rattle.link_simulation.specs.Laws.PairCompletions.{IsInPairOrder}
use Rattle.link_simulation.proofs.Simulation.Queue.{pair_sym}
use Rattle.link_simulation.proofs.Simulation.Stretch.{flows_drained}
use Rattle.link_simulation.proofs.Simulation.Split.{rest_is}
use Rattle.link_simulation.proofs.Simulation.Sound.{raised_peerwise, ticks_keep_sound, call_keeps_sound}
use Rattle.link_simulation.proofs.Simulation.Sound.{new_world_sound, act_keeps_sound}
use Rattle.link_simulation.proofs.Simulation.QuietInstants.{ends_at}
use Rattle.link_simulation.proofs.Laws.PairHistories.{held, told_of_k, waits, last, NotPast, AllNotPast, IsHistory}
use Rattle.link_simulation.proofs.Laws.PairHistories.{deliveries_push, not_past_later, not_past_push, raises}
use Rattle.link_simulation.proofs.Laws.PairHistories.{reaches_it, told_push, told_more, told_same, last_of, GoesByRule}
use Rattle.link_simulation.proofs.Laws.PairHistories.{goes_preceded, goes_then, stays, next_goes, settle_goes}
use Rattle.link_simulation.proofs.Laws.PairHistories.{instant_goes}

-- what the first call enqueues stands in front
pub enqueued_split : {P : Type 0} (call : Call P) (calls : List (Call P))
    → enqueued (call ∷ []) ++ enqueued calls ≡ enqueued (call ∷ calls)
enqueued_split (call_enqueue_all now ms) calls = ap (λ ns. ns ++ enqueued calls) (append-nil ms)
enqueued_split call calls = refl

module _ {P : Type 0} (cmp : P → P → Ordering) (order : IsTotalOrder cmp) (k : Message P) where
  -- ---- time

  drain_history : (messages : List (Message P)) (t : ℕ) (cs : List (Completed P)) (w v : World P) → Drains cmp w v
      → IsHistory cmp order k messages t cs w → IsHistory cmp order k messages (suc t) cs v
  drain_history messages t cs w v d h = grind (arith, flows_drained, leb-true, le-leb)

  ticks_history : {n : ℕ} {w : World P} {c : Course (Completed P) (World P)} → Ticks cmp n w c
      → (messages : List (Message P)) (t : ℕ) (cs ds : List (Completed P)) (v : World P)
      → c ≡ goes ds v → IsHistory cmp order k messages t cs w → IsHistory cmp order k messages (t + n) (cs ++ ds) v
  unfolding GoesByRule
  ticks_history {w = w} no_tick messages t cs ds v e h = grind (arith, append-nil)
  ticks_history {w = w} (one_tick {n = n} {v = z} {u = u} {cs = es} {rest = rest} d i more) messages t cs ds v e h =
      let r : (fs : List (Completed P)) × (rest ≡ goes fs v) × (es ++ fs ≡ ds) = rest_is cmp es rest ds v e in
      let after = lands _ i (instant_goes cmp order k messages (suc t) cs z (drain_history messages t cs w z d h)) in
      let on = ticks_history more messages (suc t) (cs ++ es) r.0 v r.1 after in
      let count : suc t + n ≡ t + suc n = omega arith in
      subst (λ (s : ℕ). IsHistory cmp order k messages s (cs ++ ds) v) count
      (subst (λ (xs : List (Completed P)). IsHistory cmp order k messages (suc t + n) xs v)
      (append_assoc cs es r.0 ∙ ap (λ (xs : List (Completed P)). cs ++ xs) r.2) on)
    where
      lands : (c : Course (Completed P) (World P)) → c ≡ goes es u → GoesByRule cmp order k messages (suc t) cs c
          → IsHistory cmp order k messages (suc t) (cs ++ es) u
      lands c is g = subst (GoesByRule cmp order k messages (suc t) cs) is g
  ticks_history (tick_faults d i) messages t cs ds v e h = cc

  -- ---- calls

  abbrev added : Call P → List (Message P)
  added call = enqueued (call ∷ [])

  -- with a message more that waits
  queued_history : (messages : List (Message P)) (t : ℕ) (cs : List (Completed P)) (w : World P) (m : Message P)
      → IsHistory cmp order k messages t cs w
      → IsHistory cmp order k (messages ++ m ∷ []) t cs (record w { waiting = w.waiting ++ m ∷ [] })
  queued_history messages t cs w m h = grind (arith, filter-append, held, append_assoc)

  none_more : (messages : List (Message P)) (t : ℕ) (cs : List (Completed P)) (w : World P)
      → IsHistory cmp order k messages t cs w → IsHistory cmp order k (messages ++ []) t cs w
  none_more messages t cs w h = grind (arith, append-nil)

  recapped_history : (messages : List (Message P)) (t : ℕ) (cs : List (Completed P)) (w : World P) (caps : Caps P)
      → IsHistory cmp order k messages t cs w
      → IsHistory cmp order k messages t cs (record w { caps = caps; limited = true })
  recapped_history messages t cs w caps h = grind arith

  -- before any limit a message completes at once, with none ahead of it
  at_once_goes : (messages : List (Message P)) (t : ℕ) (cs : List (Completed P)) (w : World P) (m : Message P)
      → w.sending ≡ [] → w.waiting ≡ [] → IsHistory cmp order k messages t cs w
      → GoesByRule cmp order k (messages ++ m ∷ []) t cs (complete_at_once cmp t w m)
  unfolding GoesByRule
  at_once_goes messages t cs w m sends none_waits h = by_late _
    where
      at : ℕ
      at = if m.should_deliver then later_of (w.last_arrival m.origin m.recipient) (t + m.latency) else t

      c : Completed P
      c = completion_of m t (if m.should_deliver then Some at else None)

      after : World P
      after = record w { last_arrival = raised cmp w.last_arrival m at }

      alike_too : PairsAlike cmp after.last_arrival after.last_arrival
      alike_too = raised_peerwise cmp order w.last_arrival m at h.alike

      none_flies : held h.flying ≡ []
      none_flies = grind arith

      all_done : filter (same_pair cmp k) messages ≡ h.done
      all_done = grind (arith, none_flies, same_pair, append-nil)

      own_last : same_pair cmp k m ≡ true → last cmp order k after ≡ Some (later_of (last cmp order k w) at)
      own_last own = grind (arith, pair_sym)

      other_last : same_pair cmp k m ≡ false → last cmp order k after ≡ last cmp order k w
      other_last off = grind (arith, pair_sym)

      grows : same_pair cmp k m ≡ true → (b : Bool)
          → IfSome (if b then Some (if b then later_of (w.last_arrival m.origin m.recipient) (t + m.latency) else t)
          else None) (λ s. is_in_order (last cmp order k w) s ≡ true)
      grows own true = grind (arith, last_of, le-leb)
      grows own false = tt

      reached : (b : Bool) → IfSome (if b then Some (if b then later_of (w.last_arrival m.origin m.recipient)
          (t + m.latency) else t) else None) (NotPast cmp order k (Some (later_of (last cmp order k w)
          (if b then later_of (w.last_arrival m.origin m.recipient) (t + m.latency) else t))))
      reached true = grind (arith, reaches_it)
      reached false = tt

      by_late : (b : Bool) → GoesByRule cmp order k (messages ++ m ∷ []) t cs
          (cond b (meets MomentTooLate) (goes (c ∷ []) after))
      by_late true = tt
      by_late false =
          by_bool _ (λ own.
          let list_is = told_more cmp order k cs c own in
          record {
            done = h.done ++ m ∷ [];
            flying = None;
            told =
                subst (λ (xs : List (Completed P)). AllZip IsCompletionOf xs (h.done ++ m ∷ [])) (sym list_is)
                (told_push cmp order k _ h.done c m h.told (t, (if m.should_deliver then Some at else None), refl));
            in_flight =
                ap (λ (fs : List (Flight P)). filter (same_pair cmp k) (map (λ (f : Flight P). f.message) fs)) sends;
            queue =
                filter-append _ messages (m ∷ []) ∙ ap (λ (ms : List (Message P)). ms ++ filter
                (same_pair cmp k) (m ∷ [])) all_done ∙ rw own refl ∙ sym (append-nil _) ∙ ap
                (λ (ms : List (Message P)). (h.done ++ m ∷ []) ++ filter (same_pair cmp k) ms) (sym none_waits);
            deliveries = subst NeverGoDown (sym list_is) (deliveries_push cmp order k _ (told_of_k cmp order k cs) c
                h.deliveries h.not_past (grows own m.should_deliver));
            not_past =
                subst (λ (xs : List (Completed P)). AllNotPast cmp order k (last cmp order k after) xs) (sym list_is)
                (subst (λ (l : Option ℕ). AllNotPast cmp order k l (told_of_k cmp order k cs ++ c ∷ []))
                (sym (own_last own)) (not_past_push cmp order k (Some (later_of (last cmp order k w) at))
                (told_of_k cmp order k cs) c (not_past_later cmp order k (last cmp order k w)
                (Some (later_of (last cmp order k w) at)) (told_of_k cmp order k cs)
                (λ s np. raises cmp order k (last cmp order k w) at s np) h.not_past) (reached m.should_deliver)));
            in_order = tt;
            alike = alike_too;
            now = h.now;
          }) (λ off.
          let list_is = told_same cmp order k cs c off in
          record {
            done = h.done;
            flying = None;
            told = subst (λ (xs : List (Completed P)). AllZip IsCompletionOf xs h.done) (sym list_is) h.told;
            in_flight =
                ap (λ (fs : List (Flight P)). filter (same_pair cmp k) (map (λ (f : Flight P). f.message) fs)) sends;
            queue =
                filter-append (same_pair cmp k) messages (m ∷ [])
                ∙ ap (λ (ms : List (Message P)). ms ++ filter (same_pair cmp k) (m ∷ [])) all_done ∙ rw off refl
                ∙ ap (λ (ms : List (Message P)). h.done ++ filter (same_pair cmp k) ms) (sym none_waits);
            deliveries = subst NeverGoDown (sym list_is) h.deliveries;
            not_past =
                subst (λ (xs : List (Completed P)). AllNotPast cmp order k (last cmp order k after) xs) (sym list_is)
                (subst (λ (l : Option ℕ). AllNotPast cmp order k l (told_of_k cmp order k cs)) (sym (other_last off))
                h.not_past);
            in_order = tt;
            alike = alike_too;
            now = h.now;
          })

  -- ---- messages that are sent

  enqueue_goes : (messages : List (Message P)) (t : ℕ) (cs : List (Completed P)) (w : World P) (m : Message P)
      → IsSound cmp w → IsHistory cmp order k messages t cs w
      → GoesByRule cmp order k (messages ++ m ∷ []) t cs (enqueue cmp t w m)
  enqueue_goes messages t cs w m sound h = by_mode w.limited refl
    where
      waiting : World P
      waiting = record w { waiting = w.waiting ++ m ∷ [] }

      joins : GoesByRule cmp order k (messages ++ m ∷ []) t cs (join cmp t w m)
      joins = grind (arith, goes_then, waiting, next_goes, queued_history, settle_goes)

      by_mode : (b : Bool) → w.limited ≡ b
          → GoesByRule cmp order k (messages ++ m ∷ []) t cs (cond b (join cmp t w m) (complete_at_once cmp t w m))
      by_mode true is = joins
      by_mode false is = at_once_goes messages t cs w m (sound.empty_at_first is).0 (sound.empty_at_first is).1 h

  each_goes : (ms messages : List (Message P)) (t : ℕ) (cs : List (Completed P)) (w : World P) → IsSound cmp w
      → IsHistory cmp order k messages t cs w → GoesByRule cmp order k (messages ++ ms) t cs (enqueue_each cmp t w ms)
  unfolding GoesByRule
  each_goes [] messages t cs w sound h = stays cmp order k _ t cs w (none_more messages t cs w h)
  each_goes (m ∷ ms) messages t cs w sound h =
      by_course _ (act_keeps_sound cmp order (call_enqueue t m) w sound)
      (enqueue_goes messages t cs w m sound h) (each_goes ms)
    where
      by_course : (c : Course (Completed P) (World P)) → EndsWith (IsSound cmp) c
          → GoesByRule cmp order k (messages ++ m ∷ []) t cs c
          → ((before : List (Message P)) (s : ℕ) (ds : List (Completed P)) (u : World P) → IsSound cmp u
          → IsHistory cmp order k before s ds u → GoesByRule cmp order k (before ++ ms) s ds (enqueue_each cmp s u ms))
          → GoesByRule cmp order k (messages ++ m ∷ ms) t cs (and_then c (λ v. enqueue_each cmp t v ms))
      by_course (goes ds u) sound_u g ih =
          subst (λ (ns : List (Message P)). GoesByRule cmp order k ns t cs (preceded ds (enqueue_each cmp t u ms)))
          (append_assoc messages (m ∷ []) ms) (goes_preceded cmp order k _ t cs ds _ (ih _ t _ u sound_u g))
      by_course (meets fault) sound_u g ih = tt

  act_goes : (messages : List (Message P)) (t : ℕ) (cs : List (Completed P)) (w : World P) (call : Call P)
      → moment_of call ≡ Some t → IsSound cmp w → IsHistory cmp order k messages t cs w
      → GoesByRule cmp order k (messages ++ added call) t cs (act cmp w call)
  act_goes messages t cs w (call_limit s peer egress ingress) e sound h =
      grind (arith, limited_by, settle_goes, none_more, recapped_history)
  act_goes messages t cs w (call_limit_link s origin recipient cap) e sound h =
      grind (arith, settle_goes, none_more, recapped_history)
  act_goes messages t cs w (call_enqueue s m) e sound h = grind (arith, enqueue_goes)
  act_goes messages t cs w (call_enqueue_all s ms) e sound h = grind (arith, append-nil, each_goes)
  act_goes messages t cs w (call_advance s) e sound h = stays cmp order k _ t cs w (none_more messages t cs w h)
  act_goes messages t cs w call_next e sound h = cc

  run_history : (messages : List (Message P)) (cs ds : List (Completed P)) (w u : World P) (call : Call P) (now : ℕ)
      → moment_of call ≡ Some now → w.moment ≤ now
      → Runs cmp w call now (goes ds u) → IsSound cmp w → IsHistory cmp order k messages w.moment cs w
      → IsHistory cmp order k (messages ++ added call) now (cs ++ ds) u
  unfolding GoesByRule
  run_history messages cs ds w u call now at after runs sound h = by_ticked runs.ticked refl
    where
      by_ticked : (c : Course (Completed P) (World P)) → runs.ticked ≡ c
          → IsHistory cmp order k (messages ++ added call) now (cs ++ ds) u
      by_ticked (meets fault) is = grind arith
      by_ticked (goes es v) is =
          let count : w.moment + (now - w.moment) ≡ now = omega arith in
          let there = subst (λ (s : ℕ). IsHistory cmp order k messages s (cs ++ es) v) count
          (ticks_history runs.ticks messages w.moment cs es v is h) in
          let sound_v : IsSound cmp v =
          ends_at cmp order (IsSound cmp) runs.ticked es v is (ticks_keep_sound cmp order runs.ticks sound) in
          let acts = runs.acts ∙ ap (λ (c : Course (Completed P) (World P)). and_then c (λ x. act cmp x call)) is in
          let all = goes_preceded cmp order k (messages ++ added call) now cs es (act cmp v call)
          (act_goes messages now (cs ++ es) v call at sound_v there) in
          subst (GoesByRule cmp order k (messages ++ added call) now cs) (sym acts) all

  ends_in_order : (messages : List (Message P)) (t : ℕ) (cs : List (Completed P)) (w : World P)
      → IsHistory cmp order k messages t cs w → IsInPairOrder cmp k messages cs
  ends_in_order messages t cs w h = grind arith

  answers_in_order : {w : World P} {calls : List (Call P)} {css : List (List (Completed P))} → Answers cmp w calls css
      → (messages : List (Message P)) (cs : List (Completed P))
      → IsSound cmp w → IsHistory cmp order k messages w.moment cs w
      → IsInPairOrder cmp k (messages ++ enqueued calls) (cs ++ answered css)
  answers_in_order {w = w} no_calls messages cs sound h = grind (arith, append-nil, ends_in_order)
  answers_in_order {w = w} (call_answers {u = u} {call = call} {now = now} {calls = calls} {cs = ds} {css = css} at
      after runs more) messages cs sound h =
      let next = run_history messages cs ds w u call now at after runs sound h in
      let sound_u = call_keeps_sound cmp order w call now (goes ds u) sound runs in
      let here : IsHistory cmp order k (messages ++ added call) u.moment (cs ++ ds) u = grind arith in
      let rest = answers_in_order more (messages ++ added call) (cs ++ ds) sound_u here in
      grind (arith, (append_assoc messages (added call) (enqueued calls)), (enqueued_split call calls), (append_assoc cs ds (answered css)))

  new_history : (id : ℕ) → IsHistory cmp order k [] 0 [] (new_world id)
  new_history id = record {
    done = [];
    flying = None;
    told = tt;
    in_flight = refl;
    queue = refl;
    deliveries = tt;
    not_past = tt;
    in_order = tt;
    alike = λ p q r s e f. refl;
    now = refl;
  }

  -- from a new world on
  pub pair_in_order : (id : ℕ) (calls : List (Call P)) (css : List (List (Completed P)))
      → Answers cmp (new_world id) calls css → IsInPairOrder cmp k (enqueued calls) (answered css)
  pair_in_order id calls css answers = answers_in_order answers [] [] (new_world_sound cmp order id) (new_history id)
