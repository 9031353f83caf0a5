-- What every instant keeps: the moment, and that nothing is done at its end.
use Rattle.link_simulation.proofs.Common.{common_steps, ◌≡◌, ℕ, suc, ◌+◌, ◌≤◌, List, [], ◌∷◌, ◌++◌, length, Option}
use Rattle.link_simulation.proofs.Common.{Some, None, refl, sym, ap, subst, arith, ◌⊎◌, inl, inr, nat_le, Ordering}
use Rattle.link_simulation.proofs.Common.{IsTotalOrder, without_first, Completed, Course, IsQuiet, World, complete}
use Rattle.link_simulation.proofs.Common.{goes, instant, is_done, last_moment, meets, raised, settle, start}
use Rattle.link_simulation.proofs.Common.{start_next, wake_within, EndsWith, flight_of, Message, same_pair, Drains}
use Rattle.link_simulation.proofs.Common.{NextIs, Ticks, comes_next, never_comes, no_tick, no_time, one_tick}
use Rattle.link_simulation.proofs.Common.{quiet_tick, tick_faults, FlowIdsUsedUp, turn, wake}
use Rattle.link_simulation.proofs.Simulation.Continuing.{quiet_or_not}
use Rattle.link_simulation.proofs.Simulation.SettlingEnds.{ends_preceded, ends_and_then, ends_cond, NoneDone}
use Rattle.link_simulation.proofs.Simulation.SettlingEnds.{settle_rests, wake_keeps, settle_keeps as each_completion}
use Rattle.link_simulation.proofs.Simulation.Split.{rest_is}
use Rattle.link_simulation.proofs.Rule.FinishEvent.{instant_quiet}
use Rattle.link_simulation.proofs.Simulation.Pass.{turn_rests}

module _ {P : Type 0} (cmp : P → P → Ordering) (order : IsTotalOrder cmp) where
  -- ---- a predicate that no start and no completion changes

  module _ (Q : World P → Type 0)
      (starts : (w : World P) (m : Message P) → Q w
      → Q (record w {
        sending = w.sending ++ flight_of m ∷ [];
        waiting = without_first (same_pair cmp m) w.waiting;
        next_id = w.next_id + 1;
      }))
      (lands : (w : World P) (m : Message P) (at : ℕ) → Q w
      → Q (record w {
        sending = without_first (is_done cmp w) w.sending;
        last_arrival = raised cmp w.last_arrival m at;
      })) where
    pub start_keeps : (w : World P) (m : Message P) → Q w → EndsWith Q (start cmp w m)
    start_keeps w m h = ends_cond Q (nat_le last_moment w.next_id) (meets FlowIdsUsedUp) _ tt (starts w m h)

    pub start_next_keeps : (t : ℕ) (w : World P) (o : Option (Message P)) → Q w → EndsWith Q (start_next cmp t w o)
    start_next_keeps t w None h = h
    start_next_keeps t w (Some m) h = ends_cond Q _ _ (goes [] w) (start_keeps w m h) h

    complete_keeps : (t : ℕ) (w : World P) (m : Message P) → Q w → EndsWith Q (complete cmp t w m)
    complete_keeps t w m h = grind (arith, ends_cond, ends_preceded, start_next_keeps)

    pub settle_keeps : (t : ℕ) (w : World P) → Q w → EndsWith Q (settle cmp t w)
    settle_keeps t w = each_completion cmp order Q t (λ v f e k. complete_keeps t v f.message k) _ w

    turn_keeps : (t : ℕ) (w : World P) (m : Message P) → Q w → EndsWith Q (turn cmp t w m)
    turn_keeps t w m h = ends_and_then Q Q (start cmp w m) (settle cmp t) (start_keeps w m h) (settle_keeps t)

    pub instant_keeps : (w : World P) → Q w → EndsWith Q (instant cmp w)
    instant_keeps w h =
        ends_and_then Q Q (settle cmp w.moment w) (λ v. wake cmp v.moment v) (settle_keeps w.moment w h)
        (λ v. wake_keeps cmp order Q v.moment (λ u m e k. turn_keeps v.moment u m k) (length v.waiting) v)

  -- ---- the moment

  pub instant_moment : (w : World P) (t : ℕ) → w.moment ≡ t → EndsWith (λ v. v.moment ≡ t) (instant cmp w)
  instant_moment w t e = instant_keeps (λ v. v.moment ≡ t) (λ v m h. h) (λ v m at h. h) w e

  pub settle_moment : (now : ℕ) (w : World P) (t : ℕ) → w.moment ≡ t → EndsWith (λ v. v.moment ≡ t) (settle cmp now w)
  settle_moment now w t e = settle_keeps (λ v. v.moment ≡ t) (λ v m h. h) (λ v m at h. h) now w e

  pub start_next_moment : (now : ℕ) (w : World P) (o : Option (Message P)) (t : ℕ) → w.moment ≡ t
      → EndsWith (λ v. v.moment ≡ t) (start_next cmp now w o)
  start_next_moment now w o t e = start_next_keeps (λ v. v.moment ≡ t) (λ v m h. h) (λ v m at h. h) now w o e

  -- ---- nothing is done at the end of an instant

  wake_rests : (n t : ℕ) (w : World P) → NoneDone cmp order w → EndsWith (NoneDone cmp order) (wake_within cmp n t w)
  wake_rests n t = wake_keeps cmp order (NoneDone cmp order) t (λ w m e h. turn_rests cmp order t w m) n

  pub instant_rests : (w : World P) → EndsWith (NoneDone cmp order) (instant cmp w)
  instant_rests w = grind (arith, ends_and_then, settle_rests, wake_rests)

  -- ---- ticks

  pub ticks_end : {n : ℕ} {w : World P} {course : Course (Completed P) (World P)} → Ticks cmp n w course
      → (cs : List (Completed P)) (v : World P) → course ≡ goes cs v
      → NoneDone cmp order w → (v.moment ≡ w.moment + n) × NoneDone cmp order v
  ticks_end {w = w} no_tick cs v e h = grind arith
  ticks_end {w = w} (one_tick {n = n} {v = z} {u = u} {cs = ds} {rest = rest} d i t) cs v e h =
      grind (
        arith,
        common_steps,
        rest_is,
        instant_moment,
        instant_rests,
        (ticks_end t (rest_is cmp ds rest cs v e).0 v (rest_is cmp ds rest cs v e).1),
      )
  ticks_end (tick_faults d i) cs v e h = cc

  -- ---- quiet nanoseconds

  next_later : (w v : World P) (o : Option ℕ) (t : ℕ) → Drains cmp w v → IsQuiet cmp v.moment v → o ≡ Some t
      → NextIs cmp v o → NextIs cmp w (Some t)
  next_later w v o t d q e (never_comes passes) = cc
  next_later w v o t d q e (comes_next passes drains not_quiet le) =
      subst (λ (p : Option ℕ). NextIs cmp w p) e (comes_next (quiet_tick d q passes) drains not_quiet le)

  -- either nothing happens in those nanoseconds, or there is a next event among them
  pub first_event : {n : ℕ} {w : World P} {course : Course (Completed P) (World P)} → Ticks cmp n w course
      → (cs : List (Completed P)) (v : World P) → course ≡ goes cs v → w.moment + n ≤ last_moment
      → (cs ≡ []) ⊎ ((t : ℕ) × (t ≤ w.moment + n) × NextIs cmp w (Some t))
  first_event no_tick cs v e le = let empty : [] ≡ cs = cc in inl (sym empty)
  first_event {w = w} (one_tick {n = n} {v = z} {u = u} {cs = ds} {rest = rest} d i t) cs v e le =
      let r : (es : List (Completed P)) × (rest ≡ goes es v) × (ds ++ es ≡ cs) = rest_is cmp ds rest cs v e in
      let at : z.moment ≡ w.moment + 1 = ap (λ (y : World P). y.moment) d.world in
      by_quiet (quiet_or_not cmp order z) at r.2 (λ h. first_event t r.0 v r.1 h)
    where
      by_rest : IsQuiet cmp z.moment z → ds ≡ [] → u ≡ z → u.moment ≡ w.moment + 1 → {es : List (Completed P)}
          → ds ++ es ≡ cs → (es ≡ []) ⊎ ((t : ℕ) × (t ≤ u.moment + n) × NextIs cmp u (Some t))
          → (cs ≡ []) ⊎ ((t : ℕ) × (t ≤ w.moment + suc n) × NextIs cmp w (Some t))
      by_rest q empty here at {es} join (inl no_more) = grind arith
      by_rest q empty here at join (inr (t, below, next)) =
          inr (
            t,
            omega arith,
            next_later w z (Some t) t d q refl (subst (λ (y : World P). NextIs cmp y (Some t)) here next),
          )

      by_quiet : IsQuiet cmp z.moment z ⊎ (¬ IsQuiet cmp z.moment z) → z.moment ≡ w.moment + 1
          → {es : List (Completed P)} → ds ++ es ≡ cs
          → (u.moment + n ≤ last_moment → (es ≡ []) ⊎ ((t : ℕ) × (t ≤ u.moment + n) × NextIs cmp u (Some t)))
          → (cs ≡ []) ⊎ ((t : ℕ) × (t ≤ w.moment + suc n) × NextIs cmp w (Some t))
      by_quiet (inr loud) at join ih = inr (z.moment, omega arith, comes_next no_time d loud (omega arith))
      by_quiet (inl q) at {es} join ih = grind (arith, instant_quiet, by_rest)
  first_event (tick_faults d i) cs v e le = cc
