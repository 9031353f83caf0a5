-- Settling what one pair starts touches that pair alone, and leaves it unable to start again at that moment.
use Rattle.link_simulation.proofs.Common.{subst, not-true, ◌≡◌, ℕ, zero, suc, ◌+◌, ◌≤◌, List, [], ◌∷◌, ◌++◌}
use Rattle.link_simulation.proofs.Common.{length, Bool, true, false, cond, not, Option, Some, None, refl, sym, ap, ◌∙◌}
use Rattle.link_simulation.proofs.Common.{arith, length-append, nat_le, ◌&&◌, filter, find, list_any, Ordering}
use Rattle.link_simulation.proofs.Common.{IsTotalOrder, map-append, list_any-append, same_peer, Completed, Course}
use Rattle.link_simulation.proofs.Common.{Flight, World, flows, fronts, goes, is_done, last_moment, may_start, meets}
use Rattle.link_simulation.proofs.Common.{ready, EndsWith, is_late, completed, flight_of, Message, same_pair}
use Rattle.link_simulation.proofs.Common.{FlowIdsUsedUp, MomentTooLate, out_of_waiting, joined, arrived, launch_then}
use Rattle.link_simulation.proofs.Common.{finish_within, Each, each_map, each_joined, filter_swap, filter_stronger}
use Rattle.link_simulation.proofs.Common.{length-without_first, or_left, or_right, without_first, by_bool}
use Rattle.link_simulation.proofs.Simulation.Queue.{pair_like, pair_sym, find_passes}
use Rattle.link_simulation.proofs.Rule.BeforeNext.{fronts_first, first_found}
use Rattle.link_simulation.proofs.Simulation.SettlingEnds.{ends_preceded, ends_cond, length_without, find_like}
use Rattle.std.proofs.lemmas.Bool.{not-false}

-- ---- lists

-- what the second test fails, the first does too
filter_only : {X : Type 0} (f g : X → Bool) (xs : List X) → Each (λ x. g x ≡ false → f x ≡ false) xs
    → filter f xs ≡ filter f (filter g xs)
filter_only f g [] h = refl
filter_only {X} f g (x ∷ xs) h = grind (arith, (filter_only f g xs))

filter_where : {X : Type 0} (f h g : X → Bool) (xs : List X) → ((x : X) → g x ≡ true → f x ≡ h x)
    → filter f (filter g xs) ≡ filter h (filter g xs)
filter_where f h g [] same = refl
filter_where {X} f h g (x ∷ xs) same = grind (arith, (filter_where f h g xs same))

pub no_nil : {X : Type 0} (xs : List X) (x : X) → xs ++ x ∷ [] ≡ [] → ⊥
no_nil [] x e = cc
no_nil (y ∷ ys) x e = cc

pub ends_so : {X S : Type 0} (R Q : S → Type 0) (c : Course X S) → ((s : S) → R s → Q s) → EndsWith R c → EndsWith Q c
ends_so R Q (goes xs s) f h = f s h
ends_so R Q (meets fault) f h = tt

module _ {P : Type 0} (cmp : P → P → Ordering) (order : IsTotalOrder cmp) (y : Message P) where
  abbrev pub apart : Message P → Bool
  apart m = not (same_pair cmp y m)

  -- two worlds differ in nothing but what is of the pair of y
  pub record OnlyPair (w v : World P) : Type 0 where
    pub last : (p q : P) → (same_peer cmp y.origin p && same_peer cmp y.recipient q) ≡ false
        → v.last_arrival p q ≡ w.last_arrival p q
    pub busy : (m : Message P) → same_pair cmp y m ≡ false
        → list_any (same_pair cmp m) (flows v) ≡ list_any (same_pair cmp m) (flows w)
    pub others : filter apart (fronts cmp v.waiting) ≡ filter apart (fronts cmp w.waiting)
    pub fewer : length v.waiting ≤ length w.waiting

  only_itself : (w : World P) → OnlyPair w w
  only_itself w = record { last = λ p q e. refl; busy = λ m e. refl; others = refl; fewer = omega arith }

  pub only_both : (w v u : World P) → OnlyPair w v → OnlyPair v u → OnlyPair w u
  only_both w v u f g =
      record {
        last = λ p q e. g.last p q e ∙ f.last p q e;
        busy = λ m e. g.busy m e ∙ f.busy m e;
        others = g.others ∙ f.others;
        fewer = let a : length u.waiting ≤ length v.waiting = g.fewer in
            let b : length v.waiting ≤ length w.waiting = f.fewer in
            omega arith;
      }

  fronts_without : (x : Message P) (ws : List (Message P)) → same_pair cmp y x ≡ true
      → filter apart (fronts cmp (without_first (same_pair cmp x) ws)) ≡ filter apart (fronts cmp ws)
  fronts_without x [] e = refl
  fronts_without x (z ∷ ws) e = by_test (same_pair cmp x z) refl (fronts_without x ws e)
    where
      same : same_pair cmp x z ≡ same_pair cmp y z
      same = pair_like cmp order y x z e

      by_test : (b : Bool) → same_pair cmp x z ≡ b
          → filter apart (fronts cmp (without_first (same_pair cmp x) ws)) ≡ filter apart (fronts cmp ws)
          → filter apart (fronts cmp (cond b ws (z ∷ without_first (same_pair cmp x) ws)))
          ≡ filter apart (z ∷ filter (λ n. not (same_pair cmp z n)) (fronts cmp ws))
      by_test true is ih = grind (arith, same, filter_stronger, apart, pair_like)
      by_test false is ih = grind (arith, same, filter_swap, apart)

  -- ---- steps

  pub only_arrived : (t : ℕ) (w : World P) (m : Message P) → same_pair cmp y m ≡ true → OnlyPair w (arrived cmp t w m)
  only_arrived t w m e = grind arith

  pub only_taken : (w : World P) (x : Message P) → same_pair cmp y x ≡ true → OnlyPair w (out_of_waiting cmp w x)
  only_taken w x e = grind (arith, fronts_without, length-without_first)

  pub only_joined : (w : World P) (x : Message P) → same_pair cmp y x ≡ true → OnlyPair w (joined cmp w x)
  only_joined w x e =
      grind (arith, map-append, list_any-append, pair_sym, pair_like, fronts_without, length-without_first)

  -- ---- the pair may not start again

  unfoldable pub IsRested : ℕ → World P → Type 0
  IsRested t v = (x : Message P) → find (same_pair cmp y) v.waiting ≡ Some x → may_start cmp t v x ≡ false

  pub rested_joined : (t : ℕ) (w : World P) (x : Message P) → same_pair cmp y x ≡ true → IsRested t (joined cmp w x)
  unfolding IsRested
  rested_joined t w x e z found =
      let own : same_pair cmp y z ≡ true = find_passes _ z (joined cmp w x).waiting found in
      let pair : same_pair cmp z x ≡ true = pair_like cmp order y z x own ∙ e in
      let sends = ap (list_any _) (map-append _ w.sending (flight_of x ∷ [])) ∙ list_any-append _ (flows w) (x ∷ []) ∙
      or_right (list_any (same_pair cmp z) (flows w)) _ (or_left _ false pair) in
      rw sends refl

  abbrev pub IsAfter : ℕ → World P → World P → Type 0
  IsAfter t w v = OnlyPair w v × IsRested t v

  pub after_on : (t : ℕ) (w v : World P) (c : Course (Completed P) (World P)) → OnlyPair w v → EndsWith (IsAfter t v) c
      → EndsWith (IsAfter t w) c
  after_on t w v c f h = ends_so (IsAfter t v) (IsAfter t w) c (λ u g. (only_both w v u f g.0, g.1)) h

  pub finish_only : (n t : ℕ) (fs : List (Flight P)) (w : World P) → Each (λ f. same_pair cmp y f.message ≡ true) fs
      → length fs + length w.waiting ≤ n → (fs ≡ [] → IsRested t w)
      → EndsWith (IsAfter t w) (finish_within cmp n t fs w)
  unfolding finish_within launch_then IsRested
  finish_only zero t [] w own fuel rested = (only_itself w, rested refl)
  finish_only zero t (f ∷ fs) w own fuel rested = absurd (omega arith)
  finish_only (suc n) t [] w own fuel rested = (only_itself w, rested refl)
  finish_only (suc n) t (f ∷ fs) w own fuel rested =
      ends_cond (IsAfter t w) (is_late cmp t f.message) (meets MomentTooLate) _ tt
      (ends_preceded (IsAfter t w) (completed cmp t f.message ∷ []) _ (after_on t w (arrived cmp t w f.message) _
      (only_arrived t w f.message own.0) (by_next _ (sym (find_like cmp order y f.message w.waiting own.0))
      (finish_only n t))))
    where
      by_next : (o : Option (Message P)) → find (same_pair cmp y) w.waiting ≡ o
          → ((gs : List (Flight P)) (v : World P) → Each (λ g. same_pair cmp y g.message ≡ true) gs
          → length gs + length v.waiting ≤ n → (gs ≡ [] → IsRested t v)
          → EndsWith (IsAfter t v) (finish_within cmp n t gs v)) → EndsWith (IsAfter t (arrived cmp t w f.message))
          (launch_then cmp (finish_within cmp n t) t fs (arrived cmp t w f.message) o)
      by_next None is ih = ih fs (arrived cmp t w f.message) own.1 (omega arith) (λ e x found. cc)
      by_next (Some x) is ih =
          by_bool (may_start cmp t (arrived cmp t w f.message) x) (λ e. rw e (
          ends_cond (IsAfter t (arrived cmp t w f.message)) (nat_le last_moment w.next_id) (meets FlowIdsUsedUp) _
          tt (by_done (is_done cmp (arrived cmp t w f.message) (flight_of x)) fewer))) (λ e. rw e (
          ih fs (arrived cmp t w f.message) own.1 (omega arith) (λ k z found. let same : x ≡ z = cc in
          subst (λ (m : Message P). may_start cmp t (arrived cmp t w f.message) m ≡ false) same e)))
        where
          pair : same_pair cmp y x ≡ true
          pair = find_passes (same_pair cmp y) x w.waiting is

          fewer : length (without_first (same_pair cmp x) w.waiting) + 1 ≡ length w.waiting
          fewer = length_without _ x w.waiting (find_like cmp order y x w.waiting pair ∙ is)

          by_done : (b : Bool) → length (without_first (same_pair cmp x) w.waiting) + 1 ≡ length w.waiting
              → EndsWith (IsAfter t (arrived cmp t w f.message)) (cond b
              (finish_within cmp n t (fs ++ flight_of x ∷ []) (out_of_waiting cmp (arrived cmp t w f.message) x))
              (finish_within cmp n t fs (joined cmp (arrived cmp t w f.message) x)))
          by_done true less =
              let many : length (fs ++ flight_of x ∷ []) ≡ length fs + 1 = length-append fs (flight_of x ∷ []) in
              after_on t (arrived cmp t w f.message) (out_of_waiting cmp (arrived cmp t w f.message) x) _
              (only_taken (arrived cmp t w f.message) x pair) (ih (fs ++ flight_of x ∷ [])
              (out_of_waiting cmp (arrived cmp t w f.message) x) (each_joined _ fs _ own.1 pair) (omega arith)
              (λ e. absurd (no_nil fs _ e)))
          by_done false less =
              after_on t (arrived cmp t w f.message) (joined cmp (arrived cmp t w f.message) x) _
              (only_joined (arrived cmp t w f.message) x pair) (ih fs (joined cmp (arrived cmp t w f.message) x) own.1
              (omega arith) (λ e. rested_joined t (arrived cmp t w f.message) x pair))

  -- ---- who is ready afterwards

  pub may_others : (t : ℕ) (w v : World P) (m : Message P) → OnlyPair w v → apart m ≡ true
      → may_start cmp t v m ≡ may_start cmp t w m
  may_others t w v m only off = grind (arith, same_pair, not-true)

  -- those that were ready still are, but for the pair of y
  pub ready_after : (t : ℕ) (w v : World P) → IsAfter t w v → ready cmp t v ≡ filter apart (ready cmp t w)
  unfolding IsRested
  ready_after t w v after =
      filter_only _ apart _ (each_map _ _ _ (λ m front. own_rested m front.0 front.1)
      (fronts_first cmp order v.waiting)) ∙ ap (filter _) after.0.others ∙ filter_where _ _ apart _
      (λ m off. may_others t w v m after.0 off) ∙ filter_swap _ apart _
    where
      own_rested : (m : Message P) (rest : List (Message P)) → filter (same_pair cmp m) v.waiting ≡ m ∷ rest
          → apart m ≡ false → may_start cmp t v m ≡ false
      own_rested m rest front own =
          let pair : same_pair cmp y m ≡ true = not-false _ own in
          after.1 m (sym (find_like cmp order y m v.waiting pair) ∙ first_found cmp order _ m rest v.waiting front)
