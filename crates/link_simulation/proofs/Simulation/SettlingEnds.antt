-- The number of messages is steps enough: settling ends with nothing done.
use Rattle.link_simulation.proofs.Common.{◌≡◌, ℕ, zero, suc, ◌+◌, ◌≤◌, List, [], ◌∷◌, length, Bool, true, false, cond}
use Rattle.link_simulation.proofs.Common.{Option, Some, None, refl, sym, subst, arith, length-append, find, Ordering}
use Rattle.link_simulation.proofs.Common.{IsTotalOrder, without_first, Completed, Course, Flight, World, and_then}
use Rattle.link_simulation.proofs.Common.{complete, goes, is_done, meets, preceded, settle, settle_within, start_next}
use Rattle.link_simulation.proofs.Common.{EndsWith, out_of_flight, is_late, completed, Message, same_pair, enqueue}
use Rattle.link_simulation.proofs.Common.{enqueue_each, MomentTooLate, least_pair, ready, turn, wake_within, Error}
use Rattle.link_simulation.proofs.Simulation.Queue.{pair_like, settle_none, settle_first, find_passes, by_option}
use Rattle.link_simulation.proofs.Simulation.Queue.{by_option}

-- a course that goes meets no fault
pub goes_no_fault : {X S : Type 0} {xs : List X} {s : S} {fault : Error} → meets fault ≡ goes xs s → ⊥
goes_no_fault e = cc

pub ends_preceded : {X S : Type 0} (Q : S → Type 0) (xs : List X) (c : Course X S) → EndsWith Q c
    → EndsWith Q (preceded xs c)
ends_preceded Q xs (goes ys s) h = h
ends_preceded Q xs (meets fault) h = tt

pub ends_and_then : {X S : Type 0} (R Q : S → Type 0) (c : Course X S) (k : S → Course X S) → EndsWith R c
    → ((s : S) → R s → EndsWith Q (k s)) → EndsWith Q (and_then c k)
ends_and_then R Q (goes xs s) k h next = ends_preceded Q xs (k s) (next s h)
ends_and_then R Q (meets fault) k h next = tt

pub ends_cond : {X S : Type 0} (Q : S → Type 0) (b : Bool) (c d : Course X S) → EndsWith Q c → EndsWith Q d
    → EndsWith Q (cond b c d)
ends_cond Q true c d h k = h
ends_cond Q false c d h k = k

-- what each message that is sent keeps, all that are sent one after another keep
pub each_ends : {P : Type 0} (cmp : P → P → Ordering) (Q : World P → Type 0) (t : ℕ)
    → ((w : World P) (m : Message P) → Q w → EndsWith Q (enqueue cmp t w m))
    → (ms : List (Message P)) (w : World P) → Q w → EndsWith Q (enqueue_each cmp t w ms)
each_ends cmp Q t step [] w h = h
each_ends cmp Q t step (m ∷ ms) w h = ends_and_then Q Q _ _ (step w m h) (λ v k. each_ends cmp Q t step ms v k)

pub length_without : {X : Type 0} (test : X → Bool) (x : X) (xs : List X) → find test xs ≡ Some x
    → length (without_first test xs) + 1 ≡ length xs
length_without test x [] e = cc
length_without {X} test x (y ∷ ys) e = grind (arith, (length_without test x ys))

pub find_in_none : {X : Type 0} (test : X → Bool) (xs : List X) → length xs ≤ 0 → find test xs ≡ None
find_in_none test [] h = refl
find_in_none test (x ∷ xs) h = absurd (omega arith)

module _ {P : Type 0} (cmp : P → P → Ordering) (order : IsTotalOrder cmp) where
  pub find_like : (m x : Message P) (ys : List (Message P)) → same_pair cmp m x ≡ true
      → find (same_pair cmp x) ys ≡ find (same_pair cmp m) ys
  find_like m x [] e = refl
  find_like m x (y ∷ ys) e = rw (pair_like cmp order m x y e, find_like m x ys e) refl

  abbrev pub HasAtMost : ℕ → World P → Type 0
  HasAtMost n v = length v.sending + length v.waiting ≤ n

  next_has : (t n : ℕ) (w : World P) (m : Message P) (o : Option (Message P)) → find (same_pair cmp m) w.waiting ≡ o
      → HasAtMost n w → EndsWith (HasAtMost n) (start_next cmp t w o)
  next_has t n w m None e h = h
  next_has t n w m (Some x) e h =
      grind (arith, same_pair, find_passes, length_without, find_like, length-append, ends_cond)

  pub complete_has : (t n : ℕ) (w : World P) (f : Flight P) → find (is_done cmp w) w.sending ≡ Some f
      → HasAtMost (suc n) w → EndsWith (HasAtMost n) (complete cmp t w f.message)
  complete_has t n w f e h =
      let fewer = length_without (is_done cmp w) f w.sending e in
      let landed : World P = out_of_flight cmp t w f.message in
      ends_cond (HasAtMost n) (is_late cmp t f.message) (meets MomentTooLate) _ tt
      (ends_preceded (HasAtMost n) (completed cmp t f.message ∷ []) (start_next cmp t landed _)
      (next_has t n landed f.message _ refl (omega arith)))

  abbrev pub NoneDone : World P → Type 0
  NoneDone v = find (is_done cmp v) v.sending ≡ None

  settle_within_rests : (n t : ℕ) (w : World P) → HasAtMost n w → EndsWith NoneDone (settle_within cmp n t w)
  settle_within_rests zero t w h = find_in_none _ w.sending (omega arith)
  settle_within_rests (suc n) t w h =
      by_option _ (λ e. grind (arith, settle_none)) (λ f e. subst (λ (c : Course (Completed P) (World P)). EndsWith
      NoneDone c) (sym (settle_first cmp order n t w f e)) (ends_and_then _ NoneDone _ _ (complete_has t n w f e h)
      (settle_within_rests n t)))

  -- after settling, no message in flight is done
  pub settle_rests : (t : ℕ) (w : World P) → EndsWith NoneDone (settle cmp t w)
  settle_rests t w = settle_within_rests (length w.sending + length w.waiting) t w (omega arith)

  -- what each completion keeps, settling keeps
  pub settle_keeps : (Q : World P → Type 0) (t : ℕ)
      → ((w : World P) (f : Flight P) → find (is_done cmp w) w.sending ≡ Some f → Q w
      → EndsWith Q (complete cmp t w f.message)) → (n : ℕ) (w : World P) → Q w → EndsWith Q (settle_within cmp n t w)
  settle_keeps Q t step zero w h = h
  settle_keeps Q t step (suc n) w h =
      grind (arith, by_option, settle_none, settle_first, ends_and_then, (settle_keeps Q t step n))

  -- and what each turn keeps, waking
  pub wake_keeps : (Q : World P → Type 0) (t : ℕ)
      → ((w : World P) (m : Message P) → least_pair cmp (ready cmp t w) ≡ Some m → Q w → EndsWith Q (turn cmp t w m))
      → (n : ℕ) (w : World P) → Q w → EndsWith Q (wake_within cmp n t w)
  wake_keeps Q t step zero w h = h
  wake_keeps Q t step (suc n) w h =
      by_option (least_pair cmp (ready cmp t w)) (λ e. rw (e, wake_within) h) (λ m e. rw (e, wake_within)
      (ends_and_then Q Q (turn cmp t w m) (wake_within cmp n t) (step w m e h) (λ v k. wake_keeps Q t step n v k)))
