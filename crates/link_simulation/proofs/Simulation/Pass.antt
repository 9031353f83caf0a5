-- Waking is one pass through the pairs that are ready, in the order of pairs, and ends with nothing done and nothing
-- ready.
use Rattle.link_simulation.proofs.Common.{◌≡◌, ℕ, zero, suc, ◌≤◌, List, [], ◌∷◌, length, Bool, true, false, cond, not}
use Rattle.link_simulation.proofs.Common.{Option, Some, None, refl, sym, ap, ◌∙◌, subst, arith, ⊤, filter, find}
use Rattle.link_simulation.proofs.Common.{list_any, Ordering, IsTotalOrder, not-true, Completed, Course, EndsWith}
use Rattle.link_simulation.proofs.Common.{IsQuiet, World, and_then, complete, fronts, goes, is_done, least_pair}
use Rattle.link_simulation.proofs.Common.{meets, preceded, ready, settle, start, start_next, turn, wake}
use Rattle.link_simulation.proofs.Common.{wake_within, Message, OneForEachPair, pair_before, same_pair, each_filtered}
use Rattle.link_simulation.proofs.Common.{find_from_any, length-without_first, by_bool, ◌+◌}
use Rattle.link_simulation.specs.Simulation.Pass.{IsByPair, by_pair, wake_each}
use Rattle.link_simulation.proofs.Simulation.Queue.{pair_like, pair_sym, by_option}
use Rattle.link_simulation.proofs.Simulation.SettlingEnds.{length_without, ends_preceded, ends_and_then, ends_cond}
use Rattle.link_simulation.proofs.Simulation.SettlingEnds.{NoneDone, settle_rests, settle_keeps}
use Rattle.link_simulation.proofs.Simulation.OtherPairs.{each_more, each_of, find_kept, any_from_find}
use Rattle.link_simulation.proofs.Simulation.OtherPairs.{pair_other, ends_more, fronts_are_first, ready_without}
use Rattle.link_simulation.proofs.Simulation.OtherPairs.{start_settles, any_none}
use Rattle.link_simulation.proofs.Simulation.AlikeMessages.{pair_itself}
use Rattle.fairness.proofs.Lists.Filters.{none_long}
use Rattle.link_simulation.proofs.Simulation.PairOrder.{apart_if_before, least_none, least_is, found_in, as_each}
use Rattle.link_simulation.proofs.Simulation.PairOrder.{find_nowhere, find_by_pair, ordered_by_pair}

-- ---- courses

pub and_then_alike : {X S : Type 0} (c : Course X S) (k l : S → Course X S) → EndsWith (λ s. k s ≡ l s) c
    → and_then c k ≡ and_then c l
and_then_alike (goes xs s) k l same = ap (preceded xs) same
and_then_alike (meets fault) k l same = refl

pub ends_both : {X S : Type 0} (Q R : S → Type 0) (c : Course X S) → EndsWith Q c → EndsWith R c
    → EndsWith (λ s. Q s × R s) c
ends_both Q R (goes xs s) h k = (h, k)
ends_both Q R (meets fault) h k = tt

pub ends_any : {X S : Type 0} (Q : S → Type 0) (c : Course X S) → ((s : S) → Q s) → EndsWith Q c
ends_any Q (goes xs s) all = all s
ends_any Q (meets fault) all = tt

-- ---- lists

module _ {P : Type 0} (cmp : P → P → Ordering) (order : IsTotalOrder cmp) where
  -- ---- fewer wait

  abbrev pub WaitAtMost : ℕ → World P → Type 0
  WaitAtMost n v = length v.waiting ≤ n

  start_waits : (n : ℕ) (w : World P) (m : Message P) → WaitAtMost n w → EndsWith (WaitAtMost n) (start cmp w m)
  start_waits n w m h = grind (arith, length-without_first, ends_cond)

  pub start_takes : (n : ℕ) (w : World P) (m x : Message P) → find (same_pair cmp m) w.waiting ≡ Some x
      → WaitAtMost (suc n) w → EndsWith (WaitAtMost n) (start cmp w m)
  start_takes n w m x e h = grind (arith, length_without, ends_cond)

  next_waits : (n t : ℕ) (w : World P) (o : Option (Message P)) → WaitAtMost n w
      → EndsWith (WaitAtMost n) (start_next cmp t w o)
  next_waits n t w None h = h
  next_waits n t w (Some x) h = grind (arith, ends_cond, start, start_waits)

  pub complete_waits : (n t : ℕ) (w : World P) (m : Message P) → WaitAtMost n w
      → EndsWith (WaitAtMost n) (complete cmp t w m)
  complete_waits n t w m h = search (ends_cond, ends_preceded, next_waits)

  settle_waits : (n t : ℕ) (w : World P) → WaitAtMost n w → EndsWith (WaitAtMost n) (settle cmp t w)
  settle_waits n t w h =
      settle_keeps cmp order (WaitAtMost n) t (λ v f e k. complete_waits n t v f.message k)
      (length w.sending + length w.waiting) w h

  -- ---- one start with its settling

  pub turn_waits : (n t : ℕ) (w : World P) (m x : Message P) → find (same_pair cmp m) w.waiting ≡ Some x
      → WaitAtMost (suc n) w → EndsWith (WaitAtMost n) (turn cmp t w m)
  turn_waits n t w m x e h = ends_and_then _ _ _ _ (start_takes n w m x e h) (λ v k. settle_waits n t v k)

  pub turn_rests : (t : ℕ) (w : World P) (m : Message P) → EndsWith (NoneDone cmp order) (turn cmp t w m)
  turn_rests t w m =
      ends_and_then (λ (v : World P). ⊤) (NoneDone cmp order) (start cmp w m) (settle cmp t)
      (ends_any (λ (v : World P). ⊤) (start cmp w m) (λ v. tt)) (λ v h. settle_rests cmp order t v)

  -- ---- one step of waking

  pub wake_none : (n t : ℕ) (w : World P) → ready cmp t w ≡ [] → wake_within cmp n t w ≡ goes [] w
  wake_none zero t w e = refl
  wake_none (suc n) t w e = rw (e, wake_within) refl

  pub wake_first : (n t : ℕ) (w : World P) (m : Message P) → least_pair cmp (ready cmp t w) ≡ Some m
      → wake_within cmp (suc n) t w ≡ and_then (turn cmp t w m) (wake_within cmp n t)
  wake_first n t w m e = rw (e, wake_within) refl

  ready_is_front : (t : ℕ) (w : World P) (k x : Message P) → find (same_pair cmp k) (ready cmp t w) ≡ Some x
      → find (same_pair cmp x) w.waiting ≡ Some x
  ready_is_front t w k x e = grind (arith, found_in, each_filtered, fronts_are_first)

  ready_in_none : (t : ℕ) (w : World P) → w.waiting ≡ [] → ready cmp t w ≡ []
  ready_in_none t w e = rw e refl

  -- ---- waking ends in quiet

  abbrev pub NothingLeft : ℕ → World P → Type 0
  NothingLeft t v = NoneDone cmp order v × (ready cmp t v ≡ [])

  pub wake_within_ends : (n t : ℕ) (w : World P) → NoneDone cmp order w → WaitAtMost n w
      → EndsWith (NothingLeft t) (wake_within cmp n t w)
  wake_within_ends zero t w none h = (none, ready_in_none t w (none_long w.waiting h))
  wake_within_ends (suc n) t w none h =
      by_option (least_pair cmp (ready cmp t w)) (λ e. grind (arith, least_none, wake_none)) (λ m e.
      let found : find (same_pair cmp m) (ready cmp t w) ≡ Some m = (least_is cmp order m (ready cmp t w) e).0 in
      subst (λ (c : Course (Completed P) (World P)). EndsWith (NothingLeft t) c) (sym (wake_first n t w m e))
      (ends_and_then (λ (v : World P). NoneDone cmp order v × WaitAtMost n v) (NothingLeft t) (turn cmp t w m)
      (wake_within cmp n t) (ends_both (NoneDone cmp order) (WaitAtMost n) (turn cmp t w m) (turn_rests t w m)
      (turn_waits n t w m m (ready_is_front t w m m found) h)) (λ v k. (wake_within_ends n t) v k.0 k.1)))

  -- after waking a settled world, nothing is done and nothing may start
  pub wake_ends_quiet : (t : ℕ) (w : World P) → list_any (is_done cmp w) w.sending ≡ false
      → EndsWith (IsQuiet cmp t) (wake cmp t w)
  wake_ends_quiet t w none = grind (arith, ends_more, any_from_find, wake_within_ends, find_from_any)

  -- ---- waking is one pass

  pub find_without : (k m : Message P) (xs : List (Message P)) → same_pair cmp m k ≡ true
      → find (same_pair cmp k) (filter (λ n. not (same_pair cmp m n)) xs) ≡ None
  find_without k m xs e =
      find_nowhere cmp order _ _ (each_more _ _ (λ n h. pair_like cmp order m k n e ∙ not-true _ h.1) _
      (each_filtered _ _ xs (each_of (λ (n : Message P). ⊤) (λ n. tt) xs)))

  -- the same pairs, with the same messages
  abbrev pub FindsAlike : List (Message P) → List (Message P) → Type 0
  FindsAlike ms ns = (k : Message P) → find (same_pair cmp k) ms ≡ find (same_pair cmp k) ns

  -- without its first pair
  alike_without : (m : Message P) (ms rs : List (Message P)) → IsByPair cmp (m ∷ ms) → FindsAlike (m ∷ ms) rs
      → FindsAlike ms (filter (λ n. not (same_pair cmp m n)) rs)
  alike_without m ms rs h same k =
      by_bool _ (λ e. find_nowhere cmp order _ ms (each_more _ _ (λ n b. pair_like cmp order m k n e ∙ apart_if_before
      cmp order m n b) ms (as_each cmp order m ms h.0)) ∙ sym (find_without k m rs e))
      (λ e. grind (arith, pair_sym, find_kept, pair_other))

  -- its first pair is the least
  least_first : (m : Message P) (ms rs : List (Message P)) → IsByPair cmp (m ∷ ms) → FindsAlike (m ∷ ms) rs
      → least_pair cmp rs ≡ Some m
  least_first m ms rs h same =
      by_option (least_pair cmp rs) (λ e. rw e (sym (ap (find _) (least_none cmp order rs e)) ∙ there))
      (λ l e. rw e (
      let least = least_is cmp order l rs e in
      by_test l _ (same l ∙ least.0) (found_in cmp order _ _ m rs least.1 there)))
    where
      there : find (same_pair cmp m) rs ≡ Some m
      there = sym (same m) ∙ ap (λ (b : Bool). cond b (Some m) (find (same_pair cmp m) ms)) (pair_itself cmp order m)

      by_test : (l : Message P) (b : Bool) → cond b (Some m) (find (same_pair cmp l) ms) ≡ Some l
          → pair_before cmp m l ≡ false → Some l ≡ Some m
      by_test l true e after = sym e
      by_test l false e after =
          let yes = found_in cmp order _ _ l ms (as_each cmp order m ms h.0) e in
          cc

  empty_alike : (rs : List (Message P)) → FindsAlike [] rs → rs ≡ []
  empty_alike [] same = refl
  empty_alike (r ∷ rs) same =
      let e : None ≡ cond (same_pair cmp r r) (Some r) (find (same_pair cmp r) rs) = same r in
      let f : None ≡ Some r = grind (arith, pair_itself) in
      cc

  -- going once through any list, in the order of pairs, of those that are ready
  pub wake_within_is_pass : (n t : ℕ) (ms : List (Message P)) (w : World P) → list_any (is_done cmp w) w.sending ≡ false
      → WaitAtMost n w → IsByPair cmp ms → FindsAlike ms (ready cmp t w) → wake_within cmp n t w ≡ wake_each cmp t ms w
  wake_within_is_pass n t [] w none h by same = wake_none n t w (empty_alike _ same)
  wake_within_is_pass zero t (m ∷ ms) w none h by same =
      let e : least_pair cmp (ready cmp t w) ≡ Some m = least_first m ms _ by same in
      let f : least_pair cmp (ready cmp t w) ≡ None = ap (least_pair cmp) (ready_in_none t w (none_long w.waiting h)) in
      cc
  wake_within_is_pass (suc n) t (m ∷ ms) w none h by same =
      let e : least_pair cmp (ready cmp t w) ≡ Some m = least_first m ms _ by same in
      let found : find (same_pair cmp m) (ready cmp t w) ≡ Some m = (least_is cmp order m _ e).0 in
      wake_first n t w m e ∙ and_then_alike (turn cmp t w m) _ _ (ends_more cmp order _ _ _
      (λ v k. wake_within_is_pass n t ms v (any_from_find _ v.sending k.1.0) k.1.1 by.1
      (subst (FindsAlike ms) (sym (ready_without cmp order t m w v k.0)) (alike_without m ms _ by same)))
      (ends_both _ _ _ (start_settles cmp order t w m none) (ends_both _ _ _ (turn_rests t w m)
      (turn_waits n t w m m (ready_is_front t w m m found) h))))

  pub wake_is_pass : (t : ℕ) (ms : List (Message P)) (w : World P) → list_any (is_done cmp w) w.sending ≡ false
      → IsByPair cmp ms → FindsAlike ms (ready cmp t w) → wake cmp t w ≡ wake_each cmp t ms w
  wake_is_pass t ms w none by same = wake_within_is_pass (length w.waiting) t ms w none (omega arith) by same

  -- ---- the list of those that are ready

  one_in_filter : (keep : Message P → Bool) (xs : List (Message P)) → OneForEachPair cmp xs
      → OneForEachPair cmp (filter keep xs)
  one_in_filter keep [] one = tt
  one_in_filter keep (x ∷ xs) one = grind (arith, any_none, (one_in_filter keep xs))

  pub one_in_fronts : (xs : List (Message P)) → OneForEachPair cmp (fronts cmp xs)
  one_in_fronts [] = tt
  one_in_fronts (x ∷ xs) = grind (arith, any_from_find, find_without, pair_itself, one_in_filter, (one_in_fronts xs))

  -- waking goes once through those that are ready, in the order of pairs, with as many steps as wait or more
  pub wake_more_is_pass : (n t : ℕ) (w : World P) → list_any (is_done cmp w) w.sending ≡ false → WaitAtMost n w
      → wake_within cmp n t w ≡ wake_each cmp t (by_pair cmp (ready cmp t w)) w
  wake_more_is_pass n t w none h =
      grind (arith, one_in_filter, one_in_fronts, wake_within_is_pass, ordered_by_pair, find_by_pair)

  pub wake_is_one_pass : (t : ℕ) (w : World P) → list_any (is_done cmp w) w.sending ≡ false
      → wake cmp t w ≡ wake_each cmp t (by_pair cmp (ready cmp t w)) w
  wake_is_one_pass t w none = wake_more_is_pass (length w.waiting) t w none (omega arith)
