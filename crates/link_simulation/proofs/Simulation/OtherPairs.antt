-- What happens to one pair leaves the other pairs as they are.
use Rattle.link_simulation.proofs.Common.{nat_le, last_moment, FlowIdsUsedUp, is_late, completed}
use Rattle.link_simulation.proofs.Common.{MomentTooLate, arith, ◌≡◌, ℕ, ◌+◌, List, [], ◌∷◌, ◌++◌, map, Bool, true}
use Rattle.link_simulation.proofs.Common.{false, not, Option, Some, None, refl, sym, ap, ◌∙◌, ⊤, ◌||◌, ◌==◌, filter}
use Rattle.link_simulation.proofs.Common.{find, list_any, Ordering, IsTotalOrder, list_any-append, filter-append}
use Rattle.link_simulation.proofs.Common.{or_right, or_left, not-true, map-append, without_first, Completed, Course}
use Rattle.link_simulation.proofs.Common.{EndsWith, Flight, World, complete, first_waiting, flows, fronts, goes}
use Rattle.link_simulation.proofs.Common.{is_done, is_idle, may_start, meets, raised, ready, settle_within, start}
use Rattle.link_simulation.proofs.Common.{start_next, turn, out_of_flight, flight_of, Message, same_pair, Caps}
use Rattle.link_simulation.proofs.Common.{is_unlimited, filter_swap, filter_stronger, Each, each_filtered, by_bool}
use Rattle.std.proofs.lemmas.Map.Views.{any-filter_same}
use Rattle.std.proofs.lemmas.Bool.{not-false}
use Rattle.std.proofs.lemmas.List.{append-nil}
use Rattle.link_simulation.specs.Simulation.Pass.{IsUnchangedFor, MayNotStart}
use Rattle.link_simulation.proofs.Simulation.AlikeMessages.{pair_itself}
use Rattle.link_simulation.proofs.Simulation.Queue.{pair_like, pair_sym, find_passes, filter_without}
use Rattle.link_simulation.proofs.Simulation.SettlingEnds.{find_like, ends_preceded, ends_and_then, ends_cond}
use Rattle.link_simulation.proofs.Simulation.SettlingEnds.{settle_keeps}

-- ---- lists

pub filter_skips : {X : Type 0} (keep test : X → Bool) (f : X) (xs : List X) → find test xs ≡ Some f → keep f ≡ false
    → filter keep (without_first test xs) ≡ filter keep xs
filter_skips keep test f [] e h = refl
filter_skips {X} keep test f (x ∷ xs) e h = grind (arith, (filter_skips keep test f xs))

pub filter_alike : {X : Type 0} (p q : X → Bool) (xs : List X) → Each (λ x. p x ≡ q x) xs → filter p xs ≡ filter q xs
filter_alike p q [] same = refl
filter_alike p q (x ∷ xs) same = rw (same.0, filter_alike p q xs same.1) refl

pub each_of : {X : Type 0} (P : X → Type 0) → ((x : X) → P x) → (xs : List X) → Each P xs
each_of P all [] = tt
each_of P all (x ∷ xs) = (all x, each_of P all xs)

pub each_more : {X : Type 0} (P Q : X → Type 0) → ((x : X) → P x → Q x) → (xs : List X) → Each P xs → Each Q xs
each_more P Q more [] h = tt
each_more P Q more (x ∷ xs) h = (more x h.0, each_more P Q more xs h.1)

-- a test that only kept ones pass sees no difference
pub find_kept : {X : Type 0} (test keep : X → Bool) (xs : List X) → ((x : X) → test x ≡ true → keep x ≡ true)
    → find test (filter keep xs) ≡ find test xs
find_kept test keep [] h = refl
find_kept {X} test keep (x ∷ xs) h = grind (arith, (find_kept test keep xs h))

pub filter_kept_each : {X : Type 0} (test keep : X → Bool) (xs : List X) → Each (λ x. test x ≡ true → keep x ≡ true) xs
    → filter test (filter keep xs) ≡ filter test xs
filter_kept_each test keep [] h = refl
filter_kept_each {X} test keep (x ∷ xs) h = grind (arith, (filter_kept_each test keep xs))

-- what is found where nothing passes both tests does not pass the other
pub found_fails : {X : Type 0} (test keep : X → Bool) (f : X) (xs : List X) → find test xs ≡ Some f
    → list_any test (filter keep xs) ≡ false → keep f ≡ false
found_fails test keep f [] e h = cc
found_fails {X} test keep f (x ∷ xs) e h = grind (arith, (found_fails test keep f xs))

pub any_none : {X : Type 0} (test keep : X → Bool) (xs : List X) → list_any test xs ≡ false
    → list_any test (filter keep xs) ≡ false
any_none test keep [] h = refl
any_none {X} test keep (x ∷ xs) h = grind (arith, (any_none test keep xs))

pub any_map : {X Y : Type 0} (g : X → Y) (p : Y → Bool) (xs : List X)
    → list_any p (map g xs) ≡ list_any (λ x. p (g x)) xs
any_map g p [] = refl
any_map g p (x ∷ xs) = rw (any_map g p xs) refl

pub any_alike : {X : Type 0} (p q : X → Bool) (xs : List X) → ((x : X) → p x ≡ q x) → list_any p xs ≡ list_any q xs
any_alike p q [] same = refl
any_alike p q (x ∷ xs) same = rw (same x, any_alike p q xs same) refl

pub any_from_find : {X : Type 0} (p : X → Bool) (xs : List X) → find p xs ≡ None → list_any p xs ≡ false
any_from_find p [] h = refl
any_from_find {X} p (x ∷ xs) h = grind (arith, (any_from_find p xs))

module _ {P : Type 0} (cmp : P → P → Ordering) where
  -- the second world is the first, but for the pair of a message
  pub record IsButFor (m : Message P) (w v : World P) : Type 0 where
    pub caps : v.caps ≡ w.caps
    pub limited : v.limited ≡ w.limited
    pub moment : v.moment ≡ w.moment
    pub arrivals : (k : Message P) → same_pair cmp m k ≡ false
        → v.last_arrival k.origin k.recipient ≡ w.last_arrival k.origin k.recipient
    pub waiting : filter (λ n. not (same_pair cmp m n)) v.waiting ≡ filter (λ n. not (same_pair cmp m n)) w.waiting
    pub sending : filter (λ (f : Flight P). not (same_pair cmp m f.message)) v.sending
        ≡ filter (λ (f : Flight P). not (same_pair cmp m f.message)) w.sending

module _ {P : Type 0} (cmp : P → P → Ordering) (order : IsTotalOrder cmp) where
  -- ---- pairs

  -- a message of another pair than k
  pub pair_other : (m n k : Message P) → same_pair cmp m k ≡ false → same_pair cmp k n ≡ true
      → not (same_pair cmp m n) ≡ true
  pair_other m n k h e = ap not (pair_sym cmp order m n ∙ pair_like cmp order k n m e ∙ pair_sym cmp order k m ∙ h)

  -- ---- worlds that are the same but for a pair

  pub but_for_none : (m : Message P) (w : World P) → IsButFor cmp m w w
  but_for_none m w =
      record { caps = refl; limited = refl; moment = refl; arrivals = λ k h. refl; waiting = refl; sending = refl }

  pub but_for_twice : (m : Message P) (w v u : World P) → IsButFor cmp m w v → IsButFor cmp m v u → IsButFor cmp m w u
  but_for_twice m w v u a b = grind arith

  pub not_alike : (m n : Message P) → same_pair cmp m n ≡ true → (xs : List (Message P))
      → filter (λ k. not (same_pair cmp n k)) xs ≡ filter (λ k. not (same_pair cmp m k)) xs
  not_alike m n e xs = grind arith

  pub but_for_like : (m n : Message P) (w v : World P) → same_pair cmp m n ≡ true → IsButFor cmp n w v
      → IsButFor cmp m w v
  but_for_like m n w v e a = grind arith

  any_flows : (p : Message P → Bool) (w : World P)
      → list_any p (flows w) ≡ list_any (λ (f : Flight P). p f.message) w.sending
  any_flows p w = any_map (λ (f : Flight P). f.message) p w.sending

  pub idle_alike : (m x : Message P) (w v : World P) → IsButFor cmp m w v → same_pair cmp m x ≡ false
      → is_idle cmp v x ≡ is_idle cmp w x
  idle_alike m x w v a h = ap not (
      any_flows _ v ∙ sym (any-filter_same (λ (f : Flight P). same_pair cmp x f.message) (λ (f : Flight P). not _) true
      (λ f e. pair_other m f.message x h e) v.sending) ∙ ap (list_any (λ (f : Flight P). same_pair cmp x f.message))
      a.sending ∙ any-filter_same (λ (f : Flight P). same_pair cmp x f.message) (λ (f : Flight P). not _) true
      (λ f e. pair_other m f.message x h e) w.sending ∙ sym (any_flows _ w))

  -- whether another pair's message may start does not change
  pub may_start_alike : (t : ℕ) (m x : Message P) (w v : World P) → IsButFor cmp m w v → same_pair cmp m x ≡ false
      → may_start cmp t v x ≡ may_start cmp t w x
  may_start_alike t m x w v a h = grind (arith, idle_alike)

  pub first_alike : (m k : Message P) (w v : World P) → IsButFor cmp m w v → same_pair cmp m k ≡ false
      → first_waiting cmp v k ≡ first_waiting cmp w k
  first_alike m k w v a h = grind (arith, find_kept, pair_other)

  -- nothing that another pair sees changes
  pub others_see_nothing : (m k : Message P) (w v : World P) → IsButFor cmp m w v → same_pair cmp m k ≡ false
      → IsUnchangedFor cmp k w v
  others_see_nothing m k w v a h =
      grind (arith, may_start_alike, pair_sym, pair_like, filter_stronger, pair_other, first_alike)

  -- ---- a pair that may not start

  -- only that pair changes, and it may not start at t any more
  pub record Leaves (t : ℕ) (m : Message P) (w v : World P) : Type 0 where
    pub others : IsButFor cmp m w v
    pub rests : MayNotStart cmp t m v

  pub started : World P → Message P → World P
  started w m =
      record w {
        sending = w.sending ++ flight_of m ∷ [];
        waiting = without_first (same_pair cmp m) w.waiting;
        next_id = w.next_id + 1;
      }

  started_but_for : (w : World P) (m : Message P) → IsButFor cmp m w (started w m)
  unfolding started
  started_but_for w m =
      grind (arith, filter-append, append-nil, (filter_without (same_pair cmp m) w.waiting), (pair_itself cmp order m))

  started_rests : (t : ℕ) (w : World P) (m : Message P) → MayNotStart cmp t m (started w m)
  unfolding started
  started_rests t w m x e =
      grind (
        arith,
        map-append,
        list_any-append,
        or_right,
        (or_left (same_pair cmp x m) false
            (pair_sym cmp order x m ∙ (find_passes (same_pair cmp m) x (without_first (same_pair cmp m) w.waiting) e))),
      )

  -- a start changes its pair alone, which then sends
  pub start_leaves : (t : ℕ) (w : World P) (m : Message P) → EndsWith (Leaves t m w) (start cmp w m)
  unfolding started
  start_leaves t w m =
      ends_cond (Leaves t m w) (nat_le last_moment w.next_id) (meets FlowIdsUsedUp) (goes [] (started w m)) tt
      (record { others = started_but_for w m; rests = started_rests t w m })

  pub leaves_like : (t : ℕ) (m x : Message P) (w v u : World P) → same_pair cmp m x ≡ true → IsButFor cmp m w v
      → Leaves t x v u → Leaves t m w u
  leaves_like t m x w v u e a l = record {
    others = but_for_twice m w v u a (but_for_like m x v u e l.others);
    rests = λ y is. l.rests y (find_like cmp order m x u.waiting e ∙ is);
  }

  pub ends_more : (R Q : World P → Type 0) (c : Course (Completed P) (World P)) → ((v : World P) → R v → Q v)
      → EndsWith R c → EndsWith Q c
  ends_more R Q (goes xs v) more h = more v h
  ends_more R Q (meets fault) more h = tt

  -- the pair's next starts if it may
  pub next_leaves : (t : ℕ) (w : World P) (m : Message P) (o : Option (Message P))
      → find (same_pair cmp m) w.waiting ≡ o → EndsWith (Leaves t m w) (start_next cmp t w o)
  next_leaves t w m None e = record { others = but_for_none m w; rests = λ x is. cc }
  next_leaves t w m (Some x) e =
      by_bool (may_start cmp t w x) (λ is. rw is (
      ends_more (Leaves t x w) (Leaves t m w) (start cmp w x)
      (λ u l. leaves_like t m x w w u same (but_for_none m w) l) (start_leaves t w x)))
      (λ is. rw is (grind (arith, but_for_none)))
    where
      same : same_pair cmp m x ≡ true
      same = find_passes (same_pair cmp m) x w.waiting e

  landed_but_for : (w : World P) (f : Flight P) (at : ℕ) → find (is_done cmp w) w.sending ≡ Some f
      → IsButFor cmp f.message w
      (record w {
        sending = without_first (is_done cmp w) w.sending;
        last_arrival = raised cmp w.last_arrival f.message at;
      })
  landed_but_for w f at e = grind (arith, filter_skips, pair_itself)

  -- a completion changes its pair alone, which then may not start
  pub complete_leaves : (t : ℕ) (w : World P) (f : Flight P) → find (is_done cmp w) w.sending ≡ Some f
      → EndsWith (Leaves t f.message w) (complete cmp t w f.message)
  complete_leaves t w f e =
      let landed : World P = out_of_flight cmp t w f.message in
      ends_cond (Leaves t f.message w) (is_late cmp t f.message) (meets MomentTooLate) _ tt
      (ends_preceded (Leaves t f.message w) (completed cmp t f.message ∷ []) (start_next cmp t landed _)
      (ends_more _ _ _ (λ u l. leaves_like t f.message f.message w landed u (pair_itself cmp order f.message)
      (landed_but_for w f _ e) l) (next_leaves t landed f.message _ refl)))

  -- ---- settling after a start

  done_alike : (w v : World P) (f : Flight P) → v.caps ≡ w.caps → is_done cmp v f ≡ is_done cmp w f
  done_alike w v f e = ap (λ (caps : Caps P). (f.left.num == 0) || is_unlimited cmp caps f.message) e

  -- where only a pair has changed since nothing was done, what is done is of that pair
  done_of_pair : (m : Message P) (w v : World P) (f : Flight P) → IsButFor cmp m w v
      → list_any (is_done cmp w) w.sending ≡ false → find (is_done cmp v) v.sending ≡ Some f
      → same_pair cmp m f.message ≡ true
  done_of_pair m w v f a quiet e =
      let apart = found_fails _ _ f v.sending e (ap (list_any _) a.sending ∙ any_alike _ _ (filter _ w.sending)
      (λ g. done_alike w v g a.caps) ∙ any_none _ (λ (g : Flight P). not _) w.sending quiet) in
      not-false _ apart

  -- settling goes on within the pair
  pub settle_within_leaves : (n t : ℕ) (m : Message P) (w v : World P) → list_any (is_done cmp w) w.sending ≡ false
      → Leaves t m w v → EndsWith (Leaves t m w) (settle_within cmp n t v)
  settle_within_leaves n t m w v quiet =
      settle_keeps cmp order _ t (λ u f e l. ends_more _ _ _ (λ x k. leaves_like t m f.message w u x
      (done_of_pair m w u f l.others quiet e) l.others k) (complete_leaves t u f e)) n v

  -- a start and its settling change one pair alone, which then may not start
  pub start_settles : (t : ℕ) (w : World P) (m : Message P) → list_any (is_done cmp w) w.sending ≡ false
      → EndsWith (Leaves t m w) (turn cmp t w m)
  start_settles t w m quiet = grind (arith, ends_and_then, settle_within_leaves, (start cmp w m), (start_leaves t w m))

  -- ---- the pairs that are ready

  -- each front is the first of its pair
  pub fronts_are_first : (xs : List (Message P))
      → Each (λ (n : Message P). find (same_pair cmp n) xs ≡ Some n) (fronts cmp xs)
  fronts_are_first [] = tt
  fronts_are_first (x ∷ xs) =
      grind (arith, pair_itself, each_more, each_filtered, pair_sym, not-true, (fronts_are_first xs))

  -- the fronts without a pair
  pub fronts_without : (m : Message P) (xs : List (Message P))
      → filter (λ n. not (same_pair cmp m n)) (fronts cmp xs) ≡ fronts cmp (filter (λ n. not (same_pair cmp m n)) xs)
  fronts_without m [] = refl
  fronts_without m (x ∷ xs) = grind (arith, not_alike, filter_stronger, filter_swap, (fronts_without m xs))

  -- a pair that changed alone and may not start any more: the others are ready as before
  pub ready_without : (t : ℕ) (m : Message P) (w v : World P) → Leaves t m w v
      → ready cmp t v ≡ filter (λ n. not (same_pair cmp m n)) (ready cmp t w)
  ready_without t m w v l =
      sym (filter_kept_each _ _ _ (each_more _ _ (λ n e h. of_another n _ refl e h) _ (fronts_are_first v.waiting))) ∙
      ap (filter _) (fronts_without m v.waiting ∙ ap (fronts cmp) l.others.waiting ∙ sym (fronts_without m w.waiting)) ∙
      filter_alike _ _ _ (each_more _ _ (λ n h. may_start_alike t m n w v l.others (not-true _ h.1)) _
      (each_filtered _ _ (fronts cmp w.waiting) (each_of (λ (n : Message P). ⊤) (λ n. tt) _))) ∙ filter_swap
      (may_start cmp t w) _ _
    where
      of_another : (n : Message P) (b : Bool) → same_pair cmp m n ≡ b → find (same_pair cmp n) v.waiting ≡ Some n
          → may_start cmp t v n ≡ true → not b ≡ true
      of_another n true same e h =
          let no : may_start cmp t v n ≡ false = l.rests n (sym (find_like cmp order m n v.waiting same) ∙ e) in cc
      of_another n false same e h = refl
