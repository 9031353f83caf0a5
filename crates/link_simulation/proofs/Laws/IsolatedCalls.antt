-- Calls on a world, and on the part of it that is a set's messages.
use Rattle.link_simulation.proofs.Common.{◌≡◌, ℕ, ◌+◌, ◌-◌, ◌<◌, ◌≤◌, List, [], ◌∷◌, ◌++◌, map, Bool, true, false, cond}
use Rattle.link_simulation.proofs.Common.{Option, Some, None, refl, sym, ap, ◌∙◌, subst, arith, append-nil, ◌⊎◌, inl}
use Rattle.link_simulation.proofs.Common.{inr, ⊤, ◌&&◌, nat_lt, if◌then◌else◌, filter, Ordering, IsTotalOrder}
use Rattle.link_simulation.proofs.Common.{filter-append, and_parts, Completed, Course, World, and_then}
use Rattle.link_simulation.proofs.Common.{completion_of, first_waiting, flows, goes, last_moment, later_of, meets}
use Rattle.link_simulation.proofs.Common.{new_world, preceded, raised, settle, start_next, EndsWith, Call, IsInTurn}
use Rattle.link_simulation.proofs.Common.{Runs, act, call_advance, call_enqueue, call_limit, call_limit_link}
use Rattle.link_simulation.proofs.Common.{complete_at_once, moment_of, limited_by, call_enqueue_all, call_next}
use Rattle.link_simulation.proofs.Common.{linked_by, enqueue, enqueue_each, flagged, Answers, InTime, call_answers}
use Rattle.link_simulation.proofs.Common.{no_calls, Caps, Message, same_pair, AreFair, Parts, NextIs, Ticks, no_tick}
use Rattle.link_simulation.proofs.Common.{MomentTooLate, each_joined, Each, In, rules}
use Rattle.std.specs.Prelude.{Contains}
use Rattle.link_simulation.specs.Laws.Isolation.{AnswersInTurn, AreApart, IsApart, IsSet, KeepsApart, NothingElse}
use Rattle.link_simulation.specs.Laws.Isolation.{answers_in_turn, inside_alone, is_kept, kept_calls, kept_completions}
use Rattle.link_simulation.specs.Laws.Isolation.{no_calls_in_turn, without_others}
use Rattle.link_simulation.proofs.Laws.PartRates.{fair_part, at_egress, at_ingress, at_link, SharesNoSide}
use Rattle.fairness.proofs.Lists.Members.{contains_from_in}
use Rattle.link_simulation.proofs.Simulation.SettlingEnds.{ends_and_then, ends_cond, each_ends, NoneDone, settle_rests}
use Rattle.link_simulation.proofs.Simulation.FilteredFronts.{find_kept, none_kept}
use Rattle.link_simulation.proofs.Simulation.Split.{ticks_on}
use Rattle.link_simulation.proofs.Simulation.EveryInstant.{ticks_end, first_event, settle_moment, start_next_moment}
use Rattle.link_simulation.proofs.Laws.Isolation.{part, IsPart, IsPartOf, part_alike, goes_alike, part_then}
use Rattle.link_simulation.proofs.Laws.Isolation.{settle_part, start_next_mine, start_next_other, raised_same}
use Rattle.link_simulation.proofs.Laws.Isolation.{raised_other}
use Rattle.link_simulation.proofs.Simulation.QuietInstants.{settle_nothing, queued}
use Rattle.link_simulation.proofs.Laws.IsolatedTime.{ticks_part}
use Rattle.link_simulation.proofs.Laws.MadeCalls.{turn_later}
use Rattle.link_simulation.proofs.Simulation.Queue.{preceded_none}

module _ {P : Type 0} (cmp : P → P → Ordering) (order : IsTotalOrder cmp) (inside : P → Bool)
    (together : IsSet cmp inside) where
  abbrev pub mine : Message P → Bool
  mine m = inside m.origin

  abbrev pub Whole : Message P → Type 0
  Whole m = inside m.origin ≡ inside m.recipient

  pub alike : (m n : Message P) → same_pair cmp m n ≡ true → mine m ≡ mine n
  alike m n e = grind arith

  each_in : (ms : List (Message P)) (m : Message P) → Each Whole ms → In ms m → Whole m
  each_in [] m e h = absurd h
  each_in (n ∷ ns) m e (inl same) = subst Whole same e.0
  each_in (n ∷ ns) m e (inr h) = each_in ns m e.1 h

  shares : (w : World P) → Each Whole (flows w) → SharesNoSide cmp w.caps mine (flows w)
  shares w e at_egress m n has_m has_n uses = together m.origin n.origin uses
  shares w e at_ingress m n has_m has_n uses = grind (arith, and_parts, each_in)
  shares w e at_link m n has_m has_n uses = alike m n uses

  abbrev pub Small : (P → P → Option ℕ) → ℕ → World P → World P
  Small last id w = part cmp order inside alike Whole last id w

  abbrev pub Within : (P → P → Option ℕ) → ℕ → World P → Type 0
  Within last id w = IsPart cmp order inside alike Whole last id w

  abbrev Of : Course (Completed P) (World P) → Course (Completed P) (World P) → Type 0
  Of c d = IsPartOf cmp order inside alike Whole c d

  abbrev Any : World P → Type 0
  Any v = ⊤

  ends_any : (c : Course (Completed P) (World P)) → EndsWith Any c
  ends_any (goes cs u) = tt
  ends_any (meets fault) = tt

  settle_in_part : (t : ℕ) (w : World P) (last : P → P → Option ℕ) (id : ℕ) → Within last id w
      → Of (settle cmp t w) (settle cmp t (Small last id w))
  settle_in_part t w last id is = grind (arith, settle_part, alike)

  queued_within : (w : World P) (m : Message P) (last : P → P → Option ℕ) (id : ℕ) → Within last id w → Whole m
      → Within last id (queued cmp order w m)
  queued_within w m last id is whole = grind (arith, each_joined)

  queued_filter : (ms : List (Message P)) (m : Message P) (b : Bool) → mine m ≡ b
      → filter mine (ms ++ m ∷ []) ≡ filter mine ms ++ cond b (m ∷ []) []
  queued_filter ms m b e = filter-append mine ms (m ∷ []) ∙ (rw e refl)

  abbrev once_at : Option ℕ → ℕ → Message P → ℕ
  once_at last now m = if m.should_deliver then later_of last (now + m.latency) else now

  abbrev once : ℕ → Message P → ℕ → Completed P
  once now m at = completion_of m now (if m.should_deliver then Some at else None)

  -- ---- a message of the set is enqueued

  enqueue_mine : (now : ℕ) (w : World P) (m : Message P) (last : P → P → Option ℕ) (id : ℕ) → Within last id w → Whole m
      → mine m ≡ true → Of (act cmp w (call_enqueue now m)) (act cmp (Small last id w) (call_enqueue now m))
  enqueue_mine now w m last id is whole own = by_mode w.limited
    where
      within : Within last id (queued cmp order w m)
      within = queued_within w m last id is whole

      same_world : (queued cmp order) (Small last id w) m ≡ Small last id (queued cmp order w m)
      same_world =
          part_alike cmp order inside alike Whole w last id _ _ _ _ refl (sym (queued_filter w.waiting m true own))

      same_next : first_waiting cmp (Small last id (queued cmp order w m)) m
          ≡ first_waiting cmp (queued cmp order w m) m
      same_next = find_kept mine _ _ (λ n s. sym (alike m n s) ∙ own)

      starting : Of (start_next cmp now (queued cmp order w m) (first_waiting cmp (queued cmp order w m) m))
          (start_next cmp now (queued cmp order (Small last id w) m)
          (first_waiting cmp (queued cmp order (Small last id w) m) m))
      starting =
          let base = start_next_mine cmp order inside alike Whole now _ m _ last id within own refl in
          let one = subst (λ (o : Option (Message P)). Of
          (start_next cmp now (queued cmp order w m) (first_waiting cmp (queued cmp order w m) m))
          (start_next cmp now (Small last id (queued cmp order w m)) o)) (sym same_next) base in
          subst (λ (z : World P). Of
          (start_next cmp now (queued cmp order w m) (first_waiting cmp (queued cmp order w m) m))
          (start_next cmp now z (first_waiting cmp z m))) (sym same_world) one

      at_same : once_at (last m.origin m.recipient) now m ≡ once_at (w.last_arrival m.origin m.recipient) now m
      at_same = ap (λ o. once_at o now m) (is.arrivals m own)

      raised_within : Within (raised cmp last m (once_at (last m.origin m.recipient) now m)) id
          (record w {
            last_arrival = raised cmp w.last_arrival m (once_at (w.last_arrival m.origin m.recipient) now m);
          })
      raised_within = grind (arith, raised_same, alike, at_same)

      by_late : (b : Bool)
          → Of
          (cond b (meets MomentTooLate)
          (goes (once now m (once_at (w.last_arrival m.origin m.recipient) now m) ∷ [])
          (record w {
            last_arrival = raised cmp w.last_arrival m
                (once_at (w.last_arrival m.origin m.recipient) now m);
          })))
          (cond b (meets MomentTooLate)
          (goes (once now m (once_at (last m.origin m.recipient) now m) ∷ [])
          (record (Small last id w) {
            last_arrival = raised cmp last m (once_at (last m.origin m.recipient) now m);
          })))
      by_late true = tt
      by_late false = grind (arith, at_same, raised, once_at, raised_within, goes_alike, alike)

      at_once : Of (complete_at_once cmp now w m) (complete_at_once cmp now (Small last id w) m)
      at_once = by_late _

      by_mode : (b : Bool) → Of (cond b
          (and_then (start_next cmp now (queued cmp order w m) (first_waiting cmp (queued cmp order w m) m))
          (settle cmp now)) (complete_at_once cmp now w m)) (cond b (and_then
          (start_next cmp now (queued cmp order (Small last id w) m)
          (first_waiting cmp (queued cmp order (Small last id w) m) m)) (settle cmp now))
          (complete_at_once cmp now (Small last id w) m))
      by_mode true =
          part_then cmp order inside alike Whole Any Any _ _ _ _ starting (ends_any _) (ends_any _)
          (λ u l i part_u r s. settle_in_part now u l i part_u)
      by_mode false = at_once

  -- ---- a message of others is enqueued

  enqueue_other : (now : ℕ) (w : World P) (m : Message P) (last : P → P → Option ℕ) (id : ℕ) → Within last id w
      → NoneDone cmp order w → Whole m → mine m ≡ false
      → Of (act cmp w (call_enqueue now m)) (goes [] (Small last id w))
  enqueue_other now w m last id is rests whole off = by_mode w.limited
    where
      same_world : Small last id (queued cmp order w m) ≡ Small last id w
      same_world =
          part_alike cmp order inside alike Whole w last id _ _ _ _ refl (queued_filter w.waiting m false off ∙
          append-nil _)

      starting : Of (start_next cmp now (queued cmp order w m) (first_waiting cmp (queued cmp order w m) m))
          (goes [] (Small last id w))
      starting =
          subst (λ (z : World P). Of
          (start_next cmp now (queued cmp order w m) (first_waiting cmp (queued cmp order w m) m)) (goes [] z))
          same_world (start_next_other cmp order inside alike Whole now _ m
          _ last id (queued_within w m last id is whole) off refl)

      raised_within : Within last id
          (record w {
            last_arrival = raised cmp w.last_arrival m (once_at (w.last_arrival m.origin m.recipient) now m);
          })
      raised_within = grind (arith, raised_other, alike)

      by_late : (b : Bool)
          → Of
          (cond b (meets MomentTooLate)
          (goes (once now m (once_at (w.last_arrival m.origin m.recipient) now m) ∷ [])
          (record w {
            last_arrival = raised cmp w.last_arrival m
                (once_at (w.last_arrival m.origin m.recipient) now m);
          })))
          (goes [] (Small last id w))
      by_late true = tt
      by_late false = grind (arith, once_at, raised_within, goes_alike, alike)

      at_once : Of (complete_at_once cmp now w m) (goes [] (Small last id w))
      at_once = by_late _

      still : and_then (goes [] (Small last id w)) (settle cmp now) ≡ goes [] (Small last id w)
      still = grind (arith, preceded_none, settle_nothing, none_kept)

      by_mode : (b : Bool) → Of (cond b
          (and_then (start_next cmp now (queued cmp order w m) (first_waiting cmp (queued cmp order w m) m))
          (settle cmp now)) (complete_at_once cmp now w m)) (goes [] (Small last id w))
      by_mode true =
          subst (λ (c : Course (Completed P) (World P)). Of (and_then (start_next cmp now (queued cmp order w m)
          (first_waiting cmp (queued cmp order w m) m)) (settle cmp now)) c) still
          (part_then cmp order inside alike Whole Any Any _ _ _ (settle cmp now) starting (ends_any _) tt
          (λ u l i part_u r s. settle_in_part now u l i part_u))
      by_mode false = at_once

  enqueue_rests : (now : ℕ) (w : World P) (m : Message P) → NoneDone cmp order w
      → EndsWith (NoneDone cmp order) (enqueue cmp now w m)
  enqueue_rests now w m h =
      ends_cond _ w.limited _ _ (ends_and_then Any (NoneDone cmp order) (start_next cmp now (queued cmp order w m)
      (first_waiting cmp (queued cmp order w m) m)) (settle cmp now) (ends_any
      (start_next cmp now (queued cmp order w m) (first_waiting cmp (queued cmp order w m) m)))
      (λ v g. settle_rests cmp order now v)) (ends_cond (NoneDone cmp order) (m.should_deliver && nat_lt last_moment _)
      (meets MomentTooLate) _ tt h)

  enqueue_moment : (now t : ℕ) (w : World P) (m : Message P) → w.moment ≡ t
      → EndsWith (λ v. v.moment ≡ t) (enqueue cmp now w m)
  enqueue_moment now t w m h =
      ends_cond _ w.limited _ _ (ends_and_then _ (λ v. v.moment ≡ t) (start_next cmp now (queued cmp order w m)
      (first_waiting cmp (queued cmp order w m) m)) (settle cmp now) (start_next_moment cmp order now
      (queued cmp order w m) (first_waiting cmp (queued cmp order w m) m) t h)
      (λ v g. settle_moment cmp order now v t g)) (ends_cond (λ v. v.moment ≡ t)
      (m.should_deliver && nat_lt last_moment _) (meets MomentTooLate) _ tt h)

  -- ---- messages are enqueued one after another

  each_kept : (now : ℕ) (ms : List (Message P)) (w : World P) (last : P → P → Option ℕ) (id : ℕ) → Within last id w
      → NoneDone cmp order w → AreApart inside ms
      → Of (enqueue_each cmp now w ms) (enqueue_each cmp now (Small last id w) (filter mine ms))
  each_kept now [] w last id is rests whole = (last, id, is, refl)
  each_kept now (m ∷ ms) w last id is rests whole =
      by_owner (mine m) refl (λ u l i part_u r. each_kept now ms u l i part_u r whole.1)
    where
      by_owner : (b : Bool) → mine m ≡ b
          → ((u : World P) (l : P → P → Option ℕ) (i : ℕ) → Within l i u → NoneDone cmp order u
          → Of (enqueue_each cmp now u ms) (enqueue_each cmp now (Small l i u) (filter mine ms)))
          → Of (and_then (enqueue cmp now w m) (λ v. enqueue_each cmp now v ms))
          (enqueue_each cmp now (Small last id w) (cond b (m ∷ filter mine ms) (filter mine ms)))
      by_owner true own ih =
          part_then cmp order inside alike Whole _ Any _ _ _ _ (enqueue_mine now w m last id is whole.0 own)
          (enqueue_rests now w m rests) (ends_any _) (λ u l i part_u r s. ih u l i part_u r)
      by_owner false off ih =
          subst (λ (c : Course (Completed P) (World P)). Of (and_then (enqueue cmp now w m)
          (λ v. enqueue_each cmp now v ms)) c) (preceded_none _) (part_then cmp order inside alike Whole _ Any _
          (goes [] _) _ (λ v. enqueue_each cmp now v (filter mine ms)) (enqueue_other now w m last id is rests whole.0
          off) (enqueue_rests now w m rests) tt (λ u l i part_u r s. ih u l i part_u r))

  -- ---- a call

  act_kept : (w : World P) (call : Call P) (last : P → P → Option ℕ) (id : ℕ) → Within last id w → NoneDone cmp order w
      → IsApart inside call → is_kept inside call ≡ true
      → Of (act cmp w call) (act cmp (Small last id w) (without_others inside call))
  act_kept w (call_limit now peer egress ingress) last id is rests whole own =
      settle_in_part now (record w { caps = limited_by cmp w.caps peer egress ingress; limited = true }) last id
      (record { arrivals = is.arrivals; ids = is.ids; sending = is.sending; waiting = is.waiting })
  act_kept w (call_limit_link now origin recipient link) last id is rests whole own =
      settle_in_part now (record w { caps = linked_by cmp w.caps origin recipient link; limited = true }) last id
      (record { arrivals = is.arrivals; ids = is.ids; sending = is.sending; waiting = is.waiting })
  act_kept w (call_enqueue now m) last id is rests whole own = enqueue_mine now w m last id is whole own
  act_kept w (call_enqueue_all now ms) last id is rests whole own = each_kept now ms w last id is rests whole
  act_kept w (call_advance now) last id is rests whole own = (last, id, is, refl)
  act_kept w call_next last id is rests whole own = (last, id, is, refl)

  act_other : (w : World P) (call : Call P) (last : P → P → Option ℕ) (id : ℕ) → Within last id w → NoneDone cmp order w
      → IsApart inside call → is_kept inside call ≡ false → Of (act cmp w call) (goes [] (Small last id w))
  act_other w (call_enqueue now m) last id is rests whole off = enqueue_other now w m last id is rests whole off
  act_other w call last id is rests whole off = cc

  act_rests : (w : World P) (call : Call P) → NoneDone cmp order w → EndsWith (NoneDone cmp order) (act cmp w call)
  act_rests w (call_limit now peer egress ingress) h =
      settle_rests cmp order now (record w { caps = limited_by cmp w.caps peer egress ingress; limited = true })
  act_rests w (call_limit_link now origin recipient link) h =
      settle_rests cmp order now (record w { caps = linked_by cmp w.caps origin recipient link; limited = true })
  act_rests w (call_enqueue now m) h = enqueue_rests now w m h
  act_rests w (call_enqueue_all now ms) h = each_ends cmp (NoneDone cmp order) now (enqueue_rests now) ms w h
  act_rests w (call_advance now) h = h
  act_rests w call_next h = h

  act_moment : (w : World P) (call : Call P) (t : ℕ) → w.moment ≡ t → EndsWith (λ v. v.moment ≡ t) (act cmp w call)
  act_moment w (call_limit now peer egress ingress) t h =
      settle_moment cmp order now (record w { caps = limited_by cmp w.caps peer egress ingress; limited = true }) t h
  act_moment w (call_limit_link now origin recipient link) t h =
      settle_moment cmp order now (record w { caps = linked_by cmp w.caps origin recipient link; limited = true }) t h
  act_moment w (call_enqueue now m) t h = enqueue_moment now t w m h
  act_moment w (call_enqueue_all now ms) t h = each_ends cmp (λ v. v.moment ≡ t) now (enqueue_moment now t) ms w h
  act_moment w (call_advance now) t h = h
  act_moment w call_next t h = h

  same_moment : (call : Call P) → moment_of (without_others inside call) ≡ moment_of call
  same_moment (call_limit now peer egress ingress) = refl
  same_moment (call_limit_link now origin recipient link) = refl
  same_moment (call_enqueue now m) = refl
  same_moment (call_enqueue_all now ms) = refl
  same_moment (call_advance now) = refl
  same_moment call_next = refl

  -- a message of others comes before the next event
  other_is_before : (w : World P) (call : Call P) (now : ℕ) → moment_of call ≡ Some now → IsInTurn cmp w call
      → is_kept inside call ≡ false → (t : ℕ) → NextIs cmp w (Some t) → now < t
  other_is_before w (call_enqueue s m) now e h off t next =
      let same : s ≡ now = cc in let lt : s < t = h.1 (Some t) next in omega arith
  other_is_before w call now e h off t next = cc

  split_course : (c : Course (Completed P) (World P)) (f : World P → Course (Completed P) (World P))
      (cs : List (Completed P)) (u : World P) → and_then c f ≡ goes cs u
      → (ds : List (Completed P)) × (v : World P) × (es : List (Completed P)) × (c ≡ goes ds v) × (f v ≡ goes es u)
      × (ds ++ es ≡ cs)
  split_course (goes ds v) f cs u e = grind arith
  split_course (meets fault) f cs u e = cc

  -- the part's own world may be behind: nothing of the set happens until it catches up
  pub record Behind (s w : World P) (last : P → P → Option ℕ) (id : ℕ) : Type 0 where
    pub within : Within last id w
    pub rests : NoneDone cmp order w
    pub count : ℕ
    pub ticks : Ticks cmp count s (goes [] (Small last id w))
    pub at : w.moment ≡ s.moment + count

  pub isolated : {w : World P} {calls : List (Call P)} {css : List (List (Completed P))} → AnswersInTurn cmp w calls css
      → (s : World P) (last : P → P → Option ℕ) (id : ℕ) → Behind s w last id → KeepsApart inside calls → InTime calls
      → Answers cmp s (kept_calls inside calls) (kept_completions inside calls css) × NothingElse inside calls css
  isolated no_calls_in_turn s last id b apart in_time = (no_calls, tt)
  isolated {w = w} (answers_in_turn {u = u} {call = call} {now = now} {calls = calls} {cs = cs} {css = css} is_now turn
      runs more) s last id b apart in_time =
      let sp = split_course runs.ticked _ cs u (sym runs.acts) in
      by_call _ refl sp.0 sp.1 sp.2 sp.3 sp.4 sp.5 (λ t l i c. isolated more t l i c apart.1 in_time.1)
    where
      by_call : (k : Bool) → is_kept inside call ≡ k → (ds : List (Completed P)) (v : World P) (es : List (Completed P))
          → runs.ticked ≡ goes ds v → act cmp v call ≡ goes es u → ds ++ es ≡ cs
          → ((t : World P) (l : P → P → Option ℕ) (i : ℕ) → Behind t u l i
          → Answers cmp t (kept_calls inside calls) (kept_completions inside calls css) × NothingElse inside calls css)
          → Answers cmp s (map (without_others inside)
          (cond k (call ∷ filter (is_kept inside) calls) (filter (is_kept inside) calls)))
          (cond k (inside_alone inside cs ∷ kept_completions inside calls css) (kept_completions inside calls css))
          × (cond k ⊤ (inside_alone inside cs ≡ []) × NothingElse inside calls css)
      by_call true flagged ds v es ticked acted join ih =
          let later : w.moment ≤ now = turn_later cmp order w call now is_now turn in
          let ends = ticks_end cmp order runs.ticks ds v ticked b.rests in
          let small = ticks_part cmp order inside alike Whole shares runs.ticks ds v last id ticked b.within in
          let all = ticks_on cmp b.ticks (now - w.moment) _ []
          (goes (filter (λ (c : Completed P). inside c.origin) ds) (Small small.0 small.1 v)) refl small.3 in
          let behind : w.moment ≡ s.moment + b.count = b.at in
          let count : (now - w.moment) + b.count ≡ now - s.moment = omega arith in
          let counted = subst (λ n. Ticks cmp n s (goes (filter (λ (c : Completed P). inside c.origin) ds)
          (Small small.0 small.1 v))) count all in
          let act_small = subst (λ (c : Course (Completed P) (World P)). Of c (act cmp (Small small.0 small.1 v)
          (without_others inside call))) acted (act_kept v call small.0 small.1 small.2 ends.1 apart.0 flagged) in
          let both = sym (filter-append (λ (c : Completed P). inside c.origin) ds es) ∙ ap
          (filter (λ (c : Completed P). inside c.origin)) join in
          let run : Runs cmp s (without_others inside call) now
          (goes (filter (λ (c : Completed P). inside c.origin) cs) (Small act_small.0 act_small.1 u)) =
          record {
            ticked = goes (filter (λ (c : Completed P). inside c.origin) ds) _;
            ticks = counted;
            acts =
                sym (ap (preceded (filter (λ (c : Completed P). inside c.origin) ds)) act_small.3
                ∙ goes_alike cmp order inside alike Whole _ _ _ _ both refl);
          } in
          let rests = subst (λ (c : Course (Completed P) (World P)). EndsWith (NoneDone cmp order) c) acted
          (act_rests v call ends.1) in
          let next : Behind (Small act_small.0 act_small.1 u) u act_small.0 act_small.1 =
          record { within = act_small.2; rests = rests; count = 0; ticks = no_tick; at = omega arith } in
          let others = ih _ act_small.0 act_small.1 next in
          (call_answers (same_moment call ∙ is_now) (omega arith) run others.0, (tt, others.1))
      by_call false dropped ds v es ticked acted join ih =
          let later : w.moment ≤ now = turn_later cmp order w call now is_now turn in
          let ends = ticks_end cmp order runs.ticks ds v ticked b.rests in
          let low : now ≤ last_moment = in_time.0 now is_now in
          let empty : ds ≡ [] = no_event later (first_event cmp order runs.ticks ds v ticked (omega arith)) in
          let small = ticks_part cmp order inside alike Whole shares runs.ticks ds v last id ticked b.within in
          let all = ticks_on cmp b.ticks _ _ []
          (goes (filter (λ (c : Completed P). inside c.origin) ds) (Small small.0 small.1 v)) refl small.3 in
          let act_small = subst (λ (c : Course (Completed P) (World P)). Of c (goes [] (Small small.0 small.1 v))) acted
          (act_other v call small.0 small.1 small.2 ends.1 apart.0 dropped) in
          let same = act_small.3 in
          let world_same : Small small.0 small.1 v ≡ Small act_small.0 act_small.1 u = cc in
          let none_of_it : filter (λ (c : Completed P). inside c.origin) es ≡ [] = cc in
          let quiet = ap (filter _) (sym join ∙ ap (λ (xs : List (Completed P)). xs ++ es) empty) ∙ none_of_it in
          let waited = subst (λ (z : World P). Ticks cmp ((now - w.moment) + b.count) s (goes [] z)) world_same (subst
          (λ (xs : List (Completed P)). Ticks cmp ((now - w.moment) + b.count) s
          (goes (filter (λ (c : Completed P). inside c.origin) xs) (Small small.0 small.1 v))) empty all) in
          let rests = subst (λ (c : Course (Completed P) (World P)). EndsWith (NoneDone cmp order) c) acted
          (act_rests v call ends.1) in
          let behind : w.moment ≡ s.moment + b.count = b.at in
          let there : v.moment ≡ now = let first : v.moment ≡ w.moment + (now - w.moment) = ends.0 in omega arith in
          let at = subst (λ (c : Course (Completed P) (World P)). EndsWith (λ y. y.moment ≡ now) c) acted
          (act_moment v call now there) in
          let next : Behind s u act_small.0 act_small.1 =
          record {
            within = act_small.2;
            rests = rests;
            count = (now - w.moment) + b.count;
            ticks = waited;
            at = omega arith;
          } in
          let others = ih s act_small.0 act_small.1 next in
          (others.0, (quiet, others.1))
        where
          no_event : w.moment ≤ now → (ds ≡ []) ⊎ ((t : ℕ) × (t ≤ w.moment + (now - w.moment)) × NextIs cmp w (Some t))
              → ds ≡ []
          no_event later (inl e) = e
          no_event later (inr (t, le, event)) = grind (arith, other_is_before)

  -- the fair rates of the set's flows are fair for these alone
  pub fair_alone : (caps : Caps P) (ms : List (Message P)) (per : ℕ) (rates : Parts)
      → ((m : Message P) → Contains ms m → inside m.origin ≡ inside m.recipient) → AreFair cmp caps ms per rates
      → AreFair cmp caps (filter (λ (m : Message P). inside m.origin) ms) per
      (flagged (map (λ (m : Message P). inside m.origin) ms) rates)
  fair_alone caps ms per rates whole fair = search (rules, fair_part, contains_from_in, and_parts, alike)

  -- from a new world, the set's completions are those of the calls without the messages of others
  pub isolation : (id : ℕ) (calls : List (Call P)) (css : List (List (Completed P)))
      → AnswersInTurn cmp (new_world id) calls css → KeepsApart inside calls → InTime calls
      → Answers cmp (new_world id) (kept_calls inside calls) (kept_completions inside calls css)
      × NothingElse inside calls css
  isolation id calls css answered apart in_time =
      let start : World P = new_world id in
      isolated answered start start.last_arrival id (record {
        within = record { arrivals = λ m own. refl; ids = omega arith; sending = tt; waiting = tt };
        rests = refl;
        count = 0;
        ticks = no_tick;
        at = omega arith;
      })
      apart in_time
