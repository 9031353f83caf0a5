-- Settling the list of messages in flight is finishing a queue of the done ones, whose leavers join at its end.
use Rattle.link_simulation.proofs.Common.{arith, append_assoc, ◌≡◌, ℕ, zero, suc, ◌+◌, List, [], ◌∷◌, ◌++◌}
use Rattle.link_simulation.proofs.Common.{map, Bool, true, false, cond, not, Option, Some, None, refl, sym, ap, ◌∙◌}
use Rattle.link_simulation.proofs.Common.{subst, nat_le, ◌&&◌, filter, find, list_any, Ordering, is_eq, IsTotalOrder}
use Rattle.link_simulation.proofs.Common.{list_any-append, filter-append, or_from, or_parts, map-append, without_first}
use Rattle.link_simulation.proofs.Common.{same_peer, Completed, Course, Flight, World, and_then, complete, goes}
use Rattle.link_simulation.proofs.Common.{is_done, is_in_order, last_moment, may_start, meets, preceded, settle_within}
use Rattle.link_simulation.proofs.Common.{start, start_next, flight_of, leaving, staying, arrived}
use Rattle.link_simulation.proofs.Common.{out_of_waiting, joined, launch_then, finish_within, Message, OneForEachPair}
use Rattle.link_simulation.proofs.Common.{same_pair, FlowIdsUsedUp, MomentTooLate, by_bool}
use Rattle.std.proofs.lemmas.List.{append-nil}
use Rattle.fairness.proofs.Lists.Sorted.{is_eq_equal}

-- ---- courses

preceded_then : {X S : Type 0} (xs : List X) (c : Course X S) (next : S → Course X S)
    → and_then (preceded xs c) next ≡ preceded xs (and_then c next)
preceded_then {X} {S} xs (goes ys s) next = grind (arith, append_assoc)
preceded_then xs (meets fault) next = refl

-- a course, the next one, and the one after
pub then_then : {X S : Type 0} (c : Course X S) (first second : S → Course X S)
    → and_then (and_then c first) second ≡ and_then c (λ s. and_then (first s) second)
then_then (goes xs s) first second = preceded_then xs (first s) second
then_then (meets fault) first second = refl

pub preceded_none : {X S : Type 0} (c : Course X S) → preceded [] c ≡ c
preceded_none (goes xs s) = refl
preceded_none (meets fault) = refl

unfoldable pub over_state : {X S : Type 0} → (S → S) → Course X S → Course X S
over_state f (goes xs s) = goes xs (f s)
over_state f (meets fault) = meets fault

-- ---- lists

pub by_option : {X P : Type 0} (o : Option X) → (o ≡ None → P) → ((x : X) → o ≡ Some x → P) → P
by_option None none some = none refl
by_option (Some x) none some = some x refl

pub filter_without : {X : Type 0} (test : X → Bool) (xs : List X)
    → filter (λ x. not (test x)) (without_first test xs) ≡ filter (λ x. not (test x)) xs
filter_without test [] = refl
filter_without {X} test (x ∷ xs) = grind (arith, (filter_without test xs))

-- the passing ones, without the first
pub leaving_without : {X : Type 0} (test : X → Bool) (f : X) (fs xs : List X) → filter test xs ≡ f ∷ fs
    → (find test xs ≡ Some f) × (filter test (without_first test xs) ≡ fs)
leaving_without test f fs [] e = cc
leaving_without {X} test f fs (x ∷ xs) e = grind (arith, (leaving_without test f fs xs))

pub find_none : {X : Type 0} (test : X → Bool) (xs : List X) → filter test xs ≡ [] → find test xs ≡ None
find_none test [] e = refl
find_none {X} test (x ∷ xs) e = grind (arith, (find_none test xs))

pub find_passes : {X : Type 0} (test : X → Bool) (y : X) (ys : List X) → find test ys ≡ Some y → test y ≡ true
find_passes test y [] g = cc
find_passes {X} test y (z ∷ zs) g = grind (arith, (find_passes test y zs))

module _ {P : Type 0} (cmp : P → P → Ordering) (order : IsTotalOrder cmp) where
  -- ---- pairs

  pub peer_like : (p q r : P) → same_peer cmp p q ≡ true → same_peer cmp q r ≡ same_peer cmp p r
  peer_like p q r e = ap is_eq (sym (order.congr p q r (is_eq_equal (cmp p q) e)))

  pub both_alike : (a b c d : Bool) → a ≡ b → c ≡ d → (a && c) ≡ (b && d)
  both_alike a b c d e f = rw (e, f) refl

  pub pair_like : (m n k : Message P) → same_pair cmp m n ≡ true → same_pair cmp n k ≡ same_pair cmp m k
  pair_like m n k e = grind (arith, both_alike, peer_like)

  pub pair_sym : (m n : Message P) → same_pair cmp m n ≡ same_pair cmp n m
  pair_sym m n = grind arith

  pub any_like : (m n : Message P) (ks : List (Message P)) → same_pair cmp m n ≡ true
      → list_any (same_pair cmp n) ks ≡ list_any (same_pair cmp m) ks
  any_like m n [] e = refl
  any_like m n (k ∷ ks) e = rw (pair_like m n k e, any_like m n ks e) refl

  -- ---- at most one message in flight for each pair

  abbrev pub messages : List (Flight P) → List (Message P)
  messages fs = map (λ (f : Flight P). f.message) fs

  any_without : (p : Message P → Bool) (test : Flight P → Bool) (fs : List (Flight P))
      → list_any p (messages fs) ≡ false → list_any p (messages (without_first test fs)) ≡ false
  any_without p test [] e = refl
  any_without p test (f ∷ fs) e = grind (arith, (any_without p test fs))

  pub any_filter : (p : Message P → Bool) (test : Flight P → Bool) (fs : List (Flight P))
      → list_any p (messages fs) ≡ false → list_any p (messages (filter test fs)) ≡ false
  any_filter p test [] e = refl
  any_filter p test (f ∷ fs) e = grind (arith, (any_filter p test fs))

  pub one_without : (test : Flight P → Bool) (fs : List (Flight P)) → OneForEachPair cmp (messages fs)
      → OneForEachPair cmp (messages (without_first test fs))
  one_without test [] one = tt
  one_without test (f ∷ fs) one = grind (arith, any_without, (one_without test fs))

  -- the one that is found was the only one of its pair
  found_apart : (p : Message P → Bool) (test : Flight P → Bool) (f : Flight P) (fs : List (Flight P))
      → find test fs ≡ Some f → list_any p (messages fs) ≡ false → p f.message ≡ false
  found_apart p test f [] e h = cc
  found_apart p test f (g ∷ gs) e h = grind (arith, (found_apart p test f gs))

  pub pair_is_idle : (test : Flight P → Bool) (f : Flight P) (fs : List (Flight P)) → find test fs ≡ Some f
      → OneForEachPair cmp (messages fs) → list_any (same_pair cmp f.message) (messages (without_first test fs)) ≡ false
  pair_is_idle test f [] e one = cc
  pair_is_idle test f (g ∷ gs) e one = grind (arith, found_apart, or_from, pair_sym, (pair_is_idle test f gs))

  pub one_pair_more : (ms : List (Message P)) (m : Message P) → OneForEachPair cmp ms
      → list_any (same_pair cmp m) ms ≡ false → OneForEachPair cmp (ms ++ m ∷ [])
  one_pair_more [] m one h = (refl, tt)
  one_pair_more (n ∷ ns) m one h = grind (arith, or_parts, list_any-append, or_from, pair_sym, (one_pair_more ns m))

  -- ---- settling is finishing the queue

  late_or_not : (b : Bool) (c : Completed P) (s l : Course (Completed P) (World P))
      (k : World P → Course (Completed P) (World P)) → over_state (staying cmp) (and_then s k) ≡ l
      → over_state (staying cmp) (and_then (cond b (meets MomentTooLate) (preceded (c ∷ []) s)) k)
      ≡ cond b (meets MomentTooLate) (preceded (c ∷ []) l)
  unfolding over_state
  late_or_not true c s l k e = refl
  late_or_not false c s l k e = grind arith

  nothing_first : (k : World P → Course (Completed P) (World P)) (w : World P)
      → over_state (staying cmp) (and_then (goes [] w) k) ≡ over_state (staying cmp) (k w)
  nothing_first k w = ap (over_state (staying cmp)) (preceded_none (k w))

  finish_alike : (n t : ℕ) (q r : List (Flight P)) (v u : World P) → q ≡ r → v ≡ u
      → finish_within cmp n t q v ≡ finish_within cmp n t r u
  finish_alike n t q r v u e f = rw (e, f) refl

  done_or_not : (b : Bool) (n t : ℕ) (fs : List (Flight P)) (v : World P) (m : Message P)
      → finish_within cmp n t (fs ++ cond b (flight_of m ∷ []) [])
      (record (out_of_waiting cmp v m) { sending = v.sending ++ cond (not b) (flight_of m ∷ []) [] })
      ≡ cond b (finish_within cmp n t (fs ++ flight_of m ∷ []) (out_of_waiting cmp v m))
      (finish_within cmp n t fs (joined cmp v m))
  done_or_not true n t fs v m = grind (arith, append-nil)
  done_or_not false n t fs v m = grind (arith, joined, append-nil)

  -- a message starts in the one world and in the other
  module _ (n t : ℕ)
      (ih : (w : World P) → OneForEachPair cmp (messages w.sending)
      → over_state (staying cmp) (settle_within cmp n t w)
      ≡ finish_within cmp n t (leaving cmp w) (staying cmp w)) where
    starting : (w : World P) (fs : List (Flight P)) (v : World P) (m : Message P)
        → OneForEachPair cmp (messages w.sending)
        → list_any (same_pair cmp m) (messages w.sending) ≡ false → leaving cmp w ≡ fs → staying cmp w ≡ v
        → over_state (staying cmp) (and_then (start cmp w m) (settle_within cmp n t))
        ≡ cond (nat_le last_moment v.next_id) (meets FlowIdsUsedUp) (cond (is_done cmp v (flight_of m))
        (finish_within cmp n t (fs ++ flight_of m ∷ []) (out_of_waiting cmp v m))
        (finish_within cmp n t fs (joined cmp v m)))
    unfolding leaving staying over_state
    starting w fs v m one idle e f =
        grind (arith, start, joined, map-append, one_pair_more, nothing_first, finish_alike, filter-append, done_or_not)

    -- the pair's next starts if it may, in the one world and in the other
    next_alike : (w : World P) (fs : List (Flight P)) (v : World P) (m : Message P) (o : Option (Message P))
        → OneForEachPair cmp (messages w.sending)
        → list_any (same_pair cmp m) (messages w.sending) ≡ false → leaving cmp w ≡ fs → staying cmp w ≡ v
        → find (same_pair cmp m) w.waiting ≡ o
        → over_state (staying cmp) (and_then (start_next cmp t w o) (settle_within cmp n t))
        ≡ launch_then cmp (finish_within cmp n t) t fs v o
    unfolding launch_then staying
    next_alike w fs v m None one idle e f is = grind (arith, nothing_first, finish_alike, staying)
    next_alike w fs v m (Some x) one idle e f is =
        let same : same_pair cmp m x ≡ true = find_passes (same_pair cmp m) x w.waiting is in
        let idle_in_w = any_like m x (messages w.sending) same ∙ idle in
        let order_is : Bool = is_in_order (w.last_arrival x.origin x.recipient) (t + x.latency) in
        let in_w : may_start cmp t w x ≡ order_is = ap (λ b. not b && order_is) idle_in_w in
        let in_v = subst (λ (u : World P). may_start cmp t u x ≡ order_is) f (idle_still w x idle_in_w) in
        rw (in_w, in_v) (by_bool order_is (λ here. rw here (starting w fs v x one idle_in_w e f))
        (λ here. rw here (grind (arith, nothing_first, finish_alike))))
      where
        idle_still : (w : World P) (x : Message P) → list_any (same_pair cmp x) (messages w.sending) ≡ false
            → may_start cmp t (staying cmp w) x ≡ is_in_order (w.last_arrival x.origin x.recipient) (t + x.latency)
        idle_still w x h =
            ap (λ b. not b && is_in_order (w.last_arrival x.origin x.recipient) (t + x.latency))
            (any_filter (same_pair cmp x) (λ g. not (is_done cmp w g)) w.sending h)

  as_filter : (w : World P) (q : List (Flight P)) → leaving cmp w ≡ q → filter (is_done cmp w) w.sending ≡ q
  unfolding leaving
  as_filter w q e = e

  as_leaving : (w : World P) (q : List (Flight P)) → filter (is_done cmp w) w.sending ≡ q → leaving cmp w ≡ q
  unfolding leaving
  as_leaving w q e = e

  landed_alike : (t : ℕ) (w : World P) (m : Message P)
      → staying cmp (record (arrived cmp t w m) { sending = without_first (is_done cmp w) w.sending })
      ≡ arrived cmp t (staying cmp w) m
  unfolding staying
  landed_alike t w m = grind (arith, (filter_without (is_done cmp w) w.sending))

  pub settle_none : (n t : ℕ) (w : World P) → find (is_done cmp w) w.sending ≡ None
      → settle_within cmp (suc n) t w ≡ goes [] w
  settle_none n t w e = rw (e, settle_within) refl

  pub settle_first : (n t : ℕ) (w : World P) (f : Flight P) → find (is_done cmp w) w.sending ≡ Some f
      → settle_within cmp (suc n) t w ≡ and_then (complete cmp t w f.message) (settle_within cmp n t)
  settle_first n t w f e = rw (e, settle_within) refl

  -- settling the list is finishing the queue of those that are done, and what stays is the same
  pub settles_as_queue : (n t : ℕ) (w : World P) → OneForEachPair cmp (messages w.sending)
      → over_state (staying cmp) (settle_within cmp n t w) ≡ finish_within cmp n t (leaving cmp w) (staying cmp w)
  unfolding over_state finish_within staying
  settles_as_queue zero t w one = refl
  settles_as_queue (suc n) t w one = by_queue _ refl (settles_as_queue n t)
    where
      by_queue : (q : List (Flight P)) → leaving cmp w ≡ q → ((u : World P) → OneForEachPair cmp (messages u.sending)
          → over_state (staying cmp) (settle_within cmp n t u) ≡ finish_within cmp n t (leaving cmp u) (staying cmp u))
          → over_state (staying cmp) (settle_within cmp (suc n) t w) ≡ finish_within cmp (suc n) t q (staying cmp w)
      by_queue [] e ih = grind (arith, settle_none, find_none, as_filter)
      by_queue (f ∷ fs) e ih =
          let first = leaving_without _ f fs w.sending (as_filter w (f ∷ fs) e) in
          ap (over_state (staying cmp)) (settle_first n t w f first.0) ∙ (late_or_not _ _ _ _ _
          (next_alike n t ih _ fs (arrived cmp t (staying cmp w) f.message) f.message (find _ w.waiting)
          (one_without _ w.sending one) (pair_is_idle _ f w.sending first.0 one) (as_leaving _ fs first.1)
          (landed_alike t w f.message) refl))
