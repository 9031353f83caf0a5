-- Settling makes no pair ready.
use Rattle.link_simulation.proofs.Common.{◌≡◌, ℕ, zero, suc, ◌+◌, ◌≤◌, List, [], ◌∷◌, ◌++◌, map, length, Bool, true}
use Rattle.link_simulation.proofs.Common.{false, cond, not, Option, Some, None, refl, sym, ap, ◌∙◌, subst, arith}
use Rattle.link_simulation.proofs.Common.{length-append, ◌⊎◌, inl, inr, nat_le, ⊤, ◌&&◌, ◌||◌, filter, find, list_any}
use Rattle.link_simulation.proofs.Common.{Ordering, IsTotalOrder, or_left, or_right, map-append, list_any-append}
use Rattle.link_simulation.proofs.Common.{without_first, Completed, Course, Flight, World, flows, fronts, goes, is_done}
use Rattle.link_simulation.proofs.Common.{is_in_order, last_moment, may_start, meets, ready, settle, EndsWith, is_late}
use Rattle.link_simulation.proofs.Common.{completed, flight_of, Message, OneForEachPair, same_pair, FlowIdsUsedUp}
use Rattle.link_simulation.proofs.Common.{MomentTooLate, leaving, staying, out_of_waiting, joined, arrived, launch_then}
use Rattle.link_simulation.proofs.Common.{finish_within, each_map, by_bool}
use Rattle.link_simulation.proofs.Simulation.Queue.{any_like, find_passes, pair_sym, pair_like}
use Rattle.link_simulation.proofs.Rule.BeforeNext.{filter_none, fronts_first, first_found}
use Rattle.link_simulation.proofs.Rule.Launch.{head_found, waits_without}
use Rattle.link_simulation.proofs.Rule.Settling.{settle_is_finish}
use Rattle.link_simulation.proofs.Simulation.OnePair.{OnlyPair, only_arrived, only_taken, only_joined, IsRested}
use Rattle.link_simulation.proofs.Simulation.OnePair.{rested_joined, may_others}
use Rattle.link_simulation.proofs.Simulation.AlikeMessages.{pair_itself}
use Rattle.link_simulation.proofs.Simulation.InOrder.{Somewhere, some_filtered, in_fronts}
use Rattle.link_simulation.proofs.Simulation.SettlingEnds.{ends_preceded, ends_cond, length_without, find_like}

any_split : {X : Type 0} (p test : X → Bool) (xs : List X) → list_any p (filter test xs) ≡ false
    → list_any p (filter (λ x. not (test x)) xs) ≡ list_any p xs
any_split p test [] e = refl
any_split {X} p test (x ∷ xs) e = grind (arith, (any_split p test xs))

any_map : {X Y : Type 0} (p : Y → Bool) (f : X → Y) (xs : List X) → list_any p (map f xs) ≡ list_any (λ x. p (f x)) xs
any_map p f [] = refl
any_map p f (x ∷ xs) = ap (λ (b : Bool). p (f x) || b) (any_map p f xs)

module _ {P : Type 0} (cmp : P → P → Ordering) (order : IsTotalOrder cmp) (y : Message P) where
  -- the pair of y may not start, or a message of it is about to complete
  abbrev pub IsHeld : ℕ → List (Flight P) → World P → Type 0
  IsHeld t fs w = (list_any (same_pair cmp y) (map (λ (f : Flight P). f.message) fs) ≡ true) ⊎ IsRested cmp order y t w

  -- what is of another pair alone does not matter
  pub rested_other : (z : Message P) (t : ℕ) (w v : World P) → same_pair cmp y z ≡ false → OnlyPair cmp order z w v
      → find (same_pair cmp y) v.waiting ≡ find (same_pair cmp y) w.waiting → IsRested cmp order y t w
      → IsRested cmp order y t v
  unfolding IsRested
  rested_other z t w v off only same rested x found =
      let own : same_pair cmp y x ≡ true = find_passes (same_pair cmp y) x v.waiting found in
      let away : same_pair cmp z x ≡ false = pair_sym cmp order z x ∙ pair_like cmp order y x z own ∙ off in
      may_others cmp order z t w v x only (ap not away) ∙ rested x (sym same ∙ found)

  pub find_without : (x : Message P) (ws : List (Message P)) → same_pair cmp y x ≡ false
      → find (same_pair cmp y) (without_first (same_pair cmp x) ws) ≡ find (same_pair cmp y) ws
  find_without x ws off = grind (arith, head_found, waits_without)

  any_end : (fs : List (Flight P)) (x : Message P)
      → list_any (same_pair cmp y) (map (λ (f : Flight P). f.message) (fs ++ flight_of x ∷ []))
      ≡ (list_any (same_pair cmp y) (map (λ (f : Flight P). f.message) fs) || (same_pair cmp y x || false))
  any_end fs x = grind (arith, map-append, list_any-append)

  WhenHeld : ℕ → ℕ → Type 0
  WhenHeld n t =
      (gs : List (Flight P)) (v : World P) → length gs + length v.waiting ≤ n → IsHeld t gs v
      → EndsWith (IsRested cmp order y t) (finish_within cmp n t gs v)

  -- the launch after the first of the queue, in the world where it has landed
  launch_rests : (n t : ℕ) (fs : List (Flight P)) (z : Message P) (w : World P) (o : Option (Message P)) → WhenHeld n t
      → length fs + length w.waiting ≤ n → find (same_pair cmp z) w.waiting ≡ o
      → (same_pair cmp y z ≡ true) ⊎ ((same_pair cmp y z ≡ false) × IsHeld t fs w)
      → EndsWith (IsRested cmp order y t) (launch_then cmp (finish_within cmp n t) t fs w o)
  unfolding launch_then WhenHeld IsRested
  launch_rests n t fs z w None ih fuel is (inl own) = grind arith
  launch_rests n t fs z w None ih fuel is (inr off) = ih fs w fuel off.1
  launch_rests n t fs z w (Some x) ih fuel is held =
      by_bool (may_start cmp t w x) (λ e. rw e (
      ends_cond (IsRested cmp order y t) (nat_le last_moment w.next_id) (meets FlowIdsUsedUp) _ tt
      (by_done (is_done cmp w (flight_of x)) fewer many held))) (λ e. rw e (ih fs w fuel (held_still e held)))
    where
      pair : same_pair cmp z x ≡ true
      pair = find_passes _ x w.waiting is

      fewer : length (without_first (same_pair cmp x) w.waiting) + 1 ≡ length w.waiting
      fewer = length_without _ x w.waiting (find_like cmp order z x w.waiting pair ∙ is)

      many : length (fs ++ flight_of x ∷ []) ≡ length fs + 1
      many = length-append fs _

      y_x : same_pair cmp y x ≡ same_pair cmp y z
      y_x = pair_sym cmp order y x ∙ pair_like cmp order z x y pair ∙ pair_sym cmp order z y

      held_taken : (same_pair cmp y z ≡ true) ⊎ ((same_pair cmp y z ≡ false) × IsHeld t fs w)
          → IsHeld t (fs ++ flight_of x ∷ []) (out_of_waiting cmp w x)
      held_taken (inl own) = inl (any_end fs x ∙ or_right _ _ (or_left _ false (y_x ∙ own)))
      held_taken (inr (off, inl among)) = inl (any_end fs x ∙ or_left _ _ among)
      held_taken (inr (off, inr rested)) = grind (arith, rested_other, y_x, only_taken, pair_itself, find_without)

      held_joined : (same_pair cmp y z ≡ true) ⊎ ((same_pair cmp y z ≡ false) × IsHeld t fs w)
          → IsHeld t fs (joined cmp w x)
      held_joined (inl own) = inr (rested_joined cmp order y t w x (y_x ∙ own))
      held_joined (inr (off, inl among)) = inl among
      held_joined (inr (off, inr rested)) =
          inr (rested_other x t w _ (y_x ∙ off) (only_joined cmp order x w x (pair_itself cmp order x))
          (find_without x w.waiting (y_x ∙ off)) rested)

      by_done : (b : Bool) → length (without_first (same_pair cmp x) w.waiting) + 1 ≡ length w.waiting
          → length (fs ++ flight_of x ∷ []) ≡ length fs + 1
          → (same_pair cmp y z ≡ true) ⊎ ((same_pair cmp y z ≡ false) × IsHeld t fs w)
          → EndsWith (IsRested cmp order y t)
          (cond b (finish_within cmp n t (fs ++ flight_of x ∷ []) (out_of_waiting cmp w x))
          (finish_within cmp n t fs (joined cmp w x)))
      by_done true less more h = ih _ _ (omega arith) (held_taken h)
      by_done false less more h = ih fs _ (omega arith) (held_joined h)

      held_still : may_start cmp t w x ≡ false
          → (same_pair cmp y z ≡ true) ⊎ ((same_pair cmp y z ≡ false) × IsHeld t fs w) → IsHeld t fs w
      held_still e (inl own) = grind (arith, find_like)
      held_still e (inr off) = off.1

  pub finish_rests : (n t : ℕ) (fs : List (Flight P)) (w : World P) → length fs + length w.waiting ≤ n → IsHeld t fs w
      → EndsWith (IsRested cmp order y t) (finish_within cmp n t fs w)
  unfolding finish_within WhenHeld
  finish_rests n t [] w fuel (inl among) = cc
  finish_rests zero t [] w fuel (inr rested) = rested
  finish_rests (suc n) t [] w fuel (inr rested) = rested
  finish_rests zero t (f ∷ fs) w fuel held = absurd (omega arith)
  finish_rests (suc n) t (f ∷ fs) w fuel held =
      ends_cond (IsRested cmp order y t) (is_late cmp t f.message) (meets MomentTooLate) _ tt
      (ends_preceded (IsRested cmp order y t) (completed cmp t f.message ∷ []) _
      (launch_rests n t fs f.message _ _ (finish_rests n t) (omega arith) refl (by_pair _ refl held)))
    where
      by_pair : (b : Bool) → same_pair cmp y f.message ≡ b
          → ((b || list_any (same_pair cmp y) (map (λ (f : Flight P). f.message) fs)) ≡ true) ⊎ IsRested cmp order y t w
          → (same_pair cmp y f.message ≡ true)
          ⊎ ((same_pair cmp y f.message ≡ false) × IsHeld t fs (arrived cmp t w f.message))
      by_pair true e h = inl e
      by_pair false e (inl among) = inr (e, inl among)
      by_pair false e (inr rested) =
          inr (
            e,
            inr (rested_other f.message t w (arrived cmp t w f.message) e
                (only_arrived cmp order f.message t w f.message (pair_itself cmp order f.message)) refl rested),
          )

module _ {P : Type 0} (cmp : P → P → Ordering) (order : IsTotalOrder cmp) where
  -- nothing is ready: each pair rests
  pub all_rested : (t : ℕ) (w : World P) (y : Message P) → ready cmp t w ≡ [] → IsRested cmp order y t w
  unfolding IsRested
  all_rested t w y none x found =
      by_bool (may_start cmp t w x) (λ e. rw e (
      absurd (subst (λ (ms : List (Message P)). Somewhere (λ m. ⊤) ms) none
      (some_filtered (λ m. ⊤) (may_start cmp t w) (fronts cmp w.waiting)
      (in_fronts cmp order (λ m. ⊤ × (may_start cmp t w m ≡ true)) x w.waiting own (tt, e)))))) (λ e. rw e refl)
    where
      own : find (same_pair cmp x) w.waiting ≡ Some x
      own = find_like cmp order y x w.waiting (find_passes (same_pair cmp y) x w.waiting found) ∙ found

  held_first : (t : ℕ) (w : World P) (y : Message P) → ready cmp t w ≡ []
      → IsHeld cmp order y t (leaving cmp w) (staying cmp w)
  unfolding leaving staying IsRested
  held_first t w y none =
      by_bool _ (λ e. inl e) (λ e. inr (λ x found.
      let own : same_pair cmp y x ≡ true = find_passes (same_pair cmp y) x w.waiting found in
      let none_leaves = sym (any_map (same_pair cmp x) (λ (f : Flight P). f.message) _) ∙ any_like cmp order y x
      (map (λ (f : Flight P). f.message) _) own ∙ e in
      let busy = any_map (same_pair cmp x) (λ (f : Flight P). f.message)
      (filter (λ f. not (is_done cmp w f)) w.sending) ∙ any_split (λ (f : Flight P). same_pair cmp x f.message)
      (is_done cmp w) w.sending none_leaves ∙ sym (any_map (same_pair cmp x) (λ (f : Flight P). f.message) w.sending) in
      ap (λ b. not b && is_in_order (w.last_arrival x.origin x.recipient) (t + x.latency)) busy
      ∙ (all_rested t w y none) x found))

  pub none_then : (t : ℕ) (c : Course (Completed P) (World P)) → ((y : Message P) → EndsWith (IsRested cmp order y t) c)
      → EndsWith (λ v. ready cmp t v ≡ []) c
  unfolding IsRested
  none_then t (goes cs v) all =
      filter_none _ _ (each_map _ _ _ (λ m front. all m m (first_found cmp order _ m front.0 v.waiting front.1))
      (fronts_first cmp order v.waiting))
  none_then t (meets fault) all = tt

  -- settling makes no pair ready
  pub settle_keeps_rest : (t : ℕ) (w : World P) → OneForEachPair cmp (flows w) → ready cmp t w ≡ []
      → length (leaving cmp w) + length (staying cmp w).waiting ≤ length w.sending + length w.waiting
      → EndsWith (λ v. ready cmp t v ≡ []) (settle cmp t w)
  settle_keeps_rest t w one none fuel = grind (arith, none_then, settle_is_finish, finish_rests, held_first)
