-- The part of a world that is a set's messages goes its own way: what the others do does not touch it.
use Rattle.link_simulation.proofs.Common.{common_steps, ◌≡◌, ℕ, zero, suc, ◌+◌, ◌<◌, ◌≤◌, List, [], ◌∷◌, ◌++◌, length}
use Rattle.link_simulation.proofs.Common.{Bool, true, false, cond, Option, Some, None, refl, sym, ap, ◌∙◌, subst, arith}
use Rattle.link_simulation.proofs.Common.{append-nil, ⊤, nat_le, filter, find, Ordering, IsTotalOrder, filter-append}
use Rattle.link_simulation.proofs.Common.{without_first, Completed, Course, Flight, World, and_then, complete}
use Rattle.link_simulation.proofs.Common.{first_waiting, goes, instant, is_done, last_moment, least_pair, may_start}
use Rattle.link_simulation.proofs.Common.{meets, preceded, raised, ready, settle, settle_within, start, start_next}
use Rattle.link_simulation.proofs.Common.{wake, wake_within, EndsWith, out_of_flight, is_late, completed, arrival}
use Rattle.link_simulation.proofs.Common.{flight_of, Message, same_pair, each_joined, Each, by_bool}
use Rattle.std.proofs.lemmas.Bool.{leb-false, lt-leb}
use Rattle.link_simulation.proofs.Simulation.Queue.{settle_none, settle_first, find_passes, preceded_none, by_option}
use Rattle.link_simulation.proofs.Simulation.SettlingEnds.{find_in_none, find_like, HasAtMost, complete_has, NoneDone}
use Rattle.link_simulation.proofs.Simulation.SettlingEnds.{settle_rests, settle_keeps}
use Rattle.link_simulation.proofs.Simulation.Pass.{wake_none as wake_nothing, WaitAtMost, start_takes, complete_waits}
use Rattle.link_simulation.proofs.Simulation.Pass.{ends_both, ends_any, ends_any}
use Rattle.link_simulation.proofs.Laws.Bytes.{wake_none, wake_first, ready_is_first}
use Rattle.link_simulation.proofs.Simulation.FilteredFronts.{first_kept, first_dropped, none_kept, find_kept, any_kept}
use Rattle.link_simulation.proofs.Simulation.FilteredFronts.{filter_swap, fronts_kept, least_kept}
use Rattle.link_simulation.proofs.Simulation.PairOrder.{least_none}
use Rattle.fairness.proofs.Lists.Each.{each_find, each_without}
use Rattle.fairness.proofs.Lists.Filters.{none_long}
use Rattle.link_simulation.proofs.Simulation.QuietInstants.{settle_nothing}

module _ {P : Type 0} (cmp : P → P → Ordering) (order : IsTotalOrder cmp) (inside : P → Bool)
    (alike : (m n : Message P) → same_pair cmp m n ≡ true → inside m.origin ≡ inside n.origin)
    (T : Message P → Type 0) where
  abbrev mine : Message P → Bool
  mine m = inside m.origin

  abbrev pub in_flight : Flight P → Bool
  in_flight f = mine f.message

  abbrev pub in_done : Completed P → Bool
  in_done c = inside c.origin

  -- the set's part of a world, with last arrivals and a next flow id of its own
  abbrev pub part : (P → P → Option ℕ) → ℕ → World P → World P
  part last id w =
      record w {
        sending = filter in_flight w.sending;
        waiting = filter mine w.waiting;
        last_arrival = last;
        next_id = id;
      }

  -- those are of the world: the same last arrivals for the set's pairs, and no greater a flow id
  pub record IsPart (last : P → P → Option ℕ) (id : ℕ) (w : World P) : Type 0 where
    pub arrivals : (m : Message P) → mine m ≡ true → last m.origin m.recipient ≡ w.last_arrival m.origin m.recipient
    pub ids : id ≤ w.next_id
    pub sending : Each (λ (f : Flight P). T f.message) w.sending
    pub waiting : Each T w.waiting

  -- the course of the part: the set's completions alone, and it ends with the part
  abbrev pub IsPartOf : Course (Completed P) (World P) → Course (Completed P) (World P) → Type 0
  IsPartOf (goes cs u) d =
      (last : P → P → Option ℕ) × (id : ℕ) × IsPart last id u × (d ≡ goes (filter in_done cs) (part last id u))
  IsPartOf (meets fault) d = ⊤

  pub goes_alike : (cs ds : List (Completed P)) (u v : World P) → cs ≡ ds → u ≡ v
      → ◌≡◌ {A = Course (Completed P) (World P)} (goes cs u) (goes ds v)
  goes_alike cs ds u v e f = rw (e, f) refl

  pub part_preceded : (cs : List (Completed P)) (c d : Course (Completed P) (World P)) → IsPartOf c d
      → IsPartOf (preceded cs c) (preceded (filter in_done cs) d)
  part_preceded cs (goes ds u) d (last, id, is, e) = grind (arith, goes_alike, filter-append)
  part_preceded cs (meets fault) d h = tt

  pub part_then : (R S : World P → Type 0) (c d : Course (Completed P) (World P))
      (k l : World P → Course (Completed P) (World P)) → IsPartOf c d → EndsWith R c → EndsWith S d
      → ((u : World P) (last : P → P → Option ℕ) (id : ℕ) → IsPart last id u → R u → S (part last id u)
      → IsPartOf (k u) (l (part last id u))) → IsPartOf (and_then c k) (and_then d l)
  part_then R S (goes cs u) d k l (last, id, is, e) r s next = grind (arith, part_preceded)
  part_then R S (meets fault) d k l h r s next = tt

  -- ---- a start

  abbrev started : World P → Message P → World P
  started w m =
      record w {
        sending = w.sending ++ flight_of m ∷ [];
        waiting = without_first (same_pair cmp m) w.waiting;
        next_id = w.next_id + 1;
      }

  pub part_alike : (w : World P) (last : P → P → Option ℕ) (id : ℕ) (fs gs : List (Flight P)) (ms ns : List (Message P))
      → fs ≡ gs → ms ≡ ns
      → ◌≡◌ {A = World P} (record w { sending = fs; waiting = ms; last_arrival = last; next_id = id })
      (record w { sending = gs; waiting = ns; last_arrival = last; next_id = id })
  part_alike w last id fs gs ms ns e f = rw (e, f) refl

  pub joined_part : (fs : List (Flight P)) (m : Message P) (b : Bool) → mine m ≡ b
      → filter in_flight (fs ++ flight_of m ∷ []) ≡ filter in_flight fs ++ cond b (flight_of m ∷ []) []
  joined_part fs m b e = filter-append in_flight fs (flight_of m ∷ []) ∙ (rw e refl)

  started_is : (last : P → P → Option ℕ) (id j : ℕ) (w : World P) (m : Message P) → IsPart last id w
      → find (same_pair cmp m) w.waiting ≡ Some m → j ≤ w.next_id + 1 → IsPart last j (started w m)
  started_is last id j w m is first le = grind (arith, each_joined, each_find, each_without)

  start_mine : (w : World P) (m : Message P) (last : P → P → Option ℕ) (id : ℕ) → IsPart last id w
      → find (same_pair cmp m) w.waiting ≡ Some m → mine m ≡ true
      → IsPartOf (start cmp w m) (start cmp (part last id w) m)
  start_mine w m last id is first own =
      by_bool (nat_le last_moment w.next_id) (λ e. rw e tt) (λ e. rw e (
      let free : w.next_id < last_moment = leb-false last_moment w.next_id e in
      let least : id ≤ w.next_id = is.ids in
      let low : nat_le last_moment id ≡ false = lt-leb last_moment id (omega arith) in
      let sending = sym (joined_part w.sending m true own) in
      let waiting = sym (first_kept mine (same_pair cmp m) w.waiting m first own).1 in (
        last,
        id + 1,
        started_is last id (id + 1) w m is first (omega arith),
        (rw low (goes_alike [] [] _ _ refl (part_alike w last (id + 1) _ _ _ _ sending waiting))),
      )))

  pub start_other : (w : World P) (m : Message P) (last : P → P → Option ℕ) (id : ℕ) → IsPart last id w
      → find (same_pair cmp m) w.waiting ≡ Some m → mine m ≡ false → IsPartOf (start cmp w m) (goes [] (part last id w))
  start_other w m last id is first off =
      by_bool (nat_le last_moment w.next_id) (λ here. rw here tt) (λ here. rw here (
      let sending = sym (joined_part w.sending m false off ∙ append-nil (filter in_flight w.sending)) in
      let waiting = sym (first_dropped mine (same_pair cmp m) w.waiting m first off) in (
        last,
        id,
        started_is last id id w m is first (omega arith),
        goes_alike [] [] _ _ refl (part_alike w last id _ _ _ _ sending waiting),
      )))

  may_start_same : (t : ℕ) (w : World P) (m : Message P) (last : P → P → Option ℕ) (id : ℕ) → IsPart last id w
      → mine m ≡ true → may_start cmp t (part last id w) m ≡ may_start cmp t w m
  may_start_same t w m last id is own = grind (arith, any_kept)

  pub start_next_mine : (t : ℕ) (w : World P) (m : Message P) (o : Option (Message P)) (last : P → P → Option ℕ)
      (id : ℕ) → IsPart last id w → mine m ≡ true
      → find (same_pair cmp m) w.waiting ≡ o → IsPartOf (start_next cmp t w o) (start_next cmp t (part last id w) o)
  start_next_mine t w m None last id is own e = (last, id, is, refl)
  start_next_mine t w m (Some x) last id is own e =
      grind (
        arith,
        common_steps,
        start,
        (may_start_same t w x last id is (sym (alike m x (find_passes (same_pair cmp m) x w.waiting e)) ∙ own)),
        (start_mine w x last id is (find_like cmp order m x w.waiting (find_passes (same_pair cmp m) x w.waiting e) ∙ e)
            (sym (alike m x (find_passes (same_pair cmp m) x w.waiting e)) ∙ own)),
      )

  pub start_next_other : (t : ℕ) (w : World P) (m : Message P) (o : Option (Message P)) (last : P → P → Option ℕ)
      (id : ℕ) → IsPart last id w → mine m ≡ false
      → find (same_pair cmp m) w.waiting ≡ o → IsPartOf (start_next cmp t w o) (goes [] (part last id w))
  start_next_other t w m None last id is off e = (last, id, is, refl)
  start_next_other t w m (Some x) last id is off e =
      grind (arith, same_pair, find_passes, by_bool, start_other, find_like)

  -- ---- a completion

  pub raised_same : (m n : Message P) (at : ℕ) (last : P → P → Option ℕ) (w : World P) (id : ℕ) → IsPart last id w
      → mine n ≡ true → raised cmp last m at n.origin n.recipient ≡ raised cmp w.last_arrival m at n.origin n.recipient
  raised_same m n at last w id is own = grind arith

  pub raised_other : (m n : Message P) (at : ℕ) (last : P → P → Option ℕ) → mine m ≡ false → mine n ≡ true
      → raised cmp last m at n.origin n.recipient ≡ last n.origin n.recipient
  raised_other m n at last off own = grind arith

  complete_mine : (t : ℕ) (w : World P) (f : Flight P) (last : P → P → Option ℕ) (id : ℕ) → IsPart last id w
      → find (is_done cmp w) w.sending ≡ Some f → mine f.message ≡ true
      → IsPartOf (complete cmp t w f.message) (complete cmp t (part last id w) f.message)
  complete_mine t w f last id is first own =
      by_bool (is_late cmp t f.message) (λ here. rw here tt) (λ here. rw here (
      let c : Completed P = completed cmp t f.message in
      let alone : filter in_done (c ∷ []) ≡ c ∷ [] = rw own refl in
      let big = start_next cmp t (out_of_flight cmp t w f.message) (first_waiting cmp (out_of_flight cmp t w f.message)
      f.message) in
      let small = start_next cmp t (out_of_flight cmp t (part last id w) f.message)
      (first_waiting cmp (out_of_flight cmp t (part last id w) f.message) f.message) in
      subst (λ (cs : List (Completed P)). IsPartOf (preceded (c ∷ []) big) (preceded cs small)) alone
      (part_preceded (c ∷ []) big small inner)))
    where
      inner : IsPartOf (start_next cmp t (out_of_flight cmp t w f.message)
          (first_waiting cmp (out_of_flight cmp t w f.message) f.message))
          (start_next cmp t (out_of_flight cmp t (part last id w) f.message)
          (first_waiting cmp (out_of_flight cmp t (part last id w) f.message) f.message))
      inner =
          let at : ℕ = arrival cmp t f.message in
          let higher : P → P → Option ℕ = raised cmp last f.message at in
          let still : IsPart higher id (out_of_flight cmp t w f.message) = record {
            arrivals = λ n own_n. raised_same f.message n at last w id is own_n;
            ids = is.ids;
            sending = each_without (λ (g : Flight P). T g.message) (is_done cmp w) w.sending is.sending;
            waiting = is.waiting;
          } in
          let next : Option (Message P) = find (same_pair cmp f.message) w.waiting in
          let same_next = find_kept mine (same_pair cmp f.message) w.waiting (λ n s. sym (alike f.message n s) ∙ own) in
          let same_landed = part_alike w higher id _ _ (filter mine w.waiting) (filter mine w.waiting)
          (sym (first_kept in_flight (is_done cmp w) w.sending f first own).1) refl in
          let base = start_next_mine t (out_of_flight cmp t w f.message) f.message next higher id still own refl in
          let one : IsPartOf (start_next cmp t (out_of_flight cmp t w f.message) next)
          (start_next cmp t (out_of_flight cmp t (part last id w) f.message) next)
          = subst (λ (z : World P). IsPartOf (start_next cmp t (out_of_flight cmp t w f.message) next)
          (start_next cmp t z next)) (sym same_landed) base in
          subst (λ (o : Option (Message P)). IsPartOf (start_next cmp t (out_of_flight cmp t w f.message) next)
          (start_next cmp t (out_of_flight cmp t (part last id w) f.message) o)) (sym same_next) one

  complete_other : (t : ℕ) (w : World P) (f : Flight P) (last : P → P → Option ℕ) (id : ℕ) → IsPart last id w
      → find (is_done cmp w) w.sending ≡ Some f → mine f.message ≡ false
      → IsPartOf (complete cmp t w f.message) (goes [] (part last id w))
  complete_other t w f last id is first off =
      by_bool (is_late cmp t f.message) (λ here. rw here tt) (λ here. rw here (
      let c : Completed P = completed cmp t f.message in
      let still : IsPart last id (out_of_flight cmp t w f.message) = record {
        arrivals = λ n own_n.
            is.arrivals n own_n ∙ sym (raised_other f.message n (arrival cmp t f.message) w.last_arrival off own_n);
        ids = is.ids;
        sending = each_without (λ (g : Flight P). T g.message) (is_done cmp w) w.sending is.sending;
        waiting = is.waiting;
      } in
      let same = part_alike w last id _ _ (filter mine w.waiting) (filter mine w.waiting)
      (first_dropped in_flight (is_done cmp w) w.sending f first off) refl in
      let nothing : filter in_done (c ∷ []) ≡ [] = rw off refl in
      let big = start_next cmp t (out_of_flight cmp t w f.message) (first_waiting cmp (out_of_flight cmp t w f.message)
      f.message) in
      let base = start_next_other t (out_of_flight cmp t w f.message) f.message
      (first_waiting cmp (out_of_flight cmp t w f.message) f.message) last id still off refl in
      let one : IsPartOf big (goes [] (part last id w)) =
      subst (λ (z : World P). IsPartOf big (goes [] z)) same base in
      subst (λ (cs : List (Completed P)). IsPartOf (preceded (c ∷ []) big) (preceded cs (goes [] (part last id w))))
      nothing (part_preceded (c ∷ []) big (goes [] (part last id w)) one)))

  -- ---- settling

  some_element : {X : Type 0} (test : X → Bool) (x : X) (xs : List X) → find test xs ≡ Some x → 0 < length xs
  some_element test x [] e = cc
  some_element test x (y ∷ ys) e = omega arith

  abbrev SettlesAlike : ℕ → ℕ → Type 0
  SettlesAlike n t =
      (k : ℕ) (w : World P) (last : P → P → Option ℕ) (id : ℕ) → IsPart last id w → HasAtMost cmp order n w
      → HasAtMost cmp order k (part last id w)
      → IsPartOf (settle_within cmp n t w) (settle_within cmp k t (part last id w))

  one_settles : (n k t : ℕ) (w : World P) (last : P → P → Option ℕ) (id : ℕ) (f : Flight P) (b : Bool)
      → SettlesAlike n t → IsPart last id w → HasAtMost cmp order (suc n) w → HasAtMost cmp order k (part last id w)
      → find (is_done cmp w) w.sending ≡ Some f → mine f.message ≡ b
      → IsPartOf (and_then (complete cmp t w f.message) (settle_within cmp n t))
      (settle_within cmp k t (part last id w))
  one_settles n zero t w last id f true ih is most few e own =
      let found = (first_kept in_flight _ w.sending f e own).0 in
      let some = some_element _ f (filter in_flight w.sending) found in
      absurd (omega arith)
  one_settles n (suc j) t w last id f true ih is most few e own =
      let found : find (is_done cmp w) (filter in_flight w.sending) ≡ Some f =
      (first_kept in_flight _ w.sending f e own).0 in
      subst (λ (c : Course (Completed P) (World P)). IsPartOf (and_then (complete cmp t w f.message)
      (settle_within cmp n t)) c) (sym (settle_first cmp order j t (part last id w) f found))
      (part_then _ _ _ _ _ (settle_within cmp j t) (complete_mine t w f last id is e own)
      (complete_has cmp order t n w f e most) (complete_has cmp order t j _ f found few) (ih j))
  one_settles n k t w last id f false ih is most few e off =
      subst (λ (c : Course (Completed P) (World P)). IsPartOf (and_then (complete cmp t w f.message)
      (settle_within cmp n t)) c) (preceded_none _) (part_then _ (HasAtMost cmp order k) _ _ _ (settle_within cmp k t)
      (complete_other t w f last id is e off) (complete_has cmp order t n w f e most) few (ih k))

  pub settle_part : (n k t : ℕ) (w : World P) (last : P → P → Option ℕ) (id : ℕ) → IsPart last id w
      → HasAtMost cmp order n w → HasAtMost cmp order k (part last id w)
      → IsPartOf (settle_within cmp n t w) (settle_within cmp k t (part last id w))
  settle_part zero k t w last id is most few = grind (arith, find_in_none, settle_nothing, none_kept)
  settle_part (suc n) k t w last id is most few =
      by_option (find (is_done cmp w) w.sending) (λ e. grind (arith, settle_none, settle_nothing, none_kept))
      (λ f e. subst (λ (c : Course (Completed P) (World P)). IsPartOf c (settle_within cmp k t (part last id w)))
      (sym (settle_first cmp order n t w f e))
      (one_settles n k t w last id f (mine f.message) (λ j. settle_part n j t) is most few e refl))

  -- ---- how many wait

  settle_within_waits : (n k t : ℕ) (w : World P) → WaitAtMost cmp order k w
      → EndsWith (WaitAtMost cmp order k) (settle_within cmp n t w)
  settle_within_waits n k t = settle_keeps cmp order _ t (λ v f e. complete_waits cmp order k t v f.message) n

  -- ---- waking

  ready_part : (t : ℕ) (w : World P) (last : P → P → Option ℕ) (id : ℕ) → IsPart last id w
      → ready cmp t (part last id w) ≡ filter mine (ready cmp t w)
  ready_part t w last id is = search (fronts_kept, filter_swap, may_start_same)

  abbrev GoesByRule : ℕ → ℕ → Type 0
  GoesByRule n t =
      (k : ℕ) (w : World P) (last : P → P → Option ℕ) (id : ℕ) → IsPart last id w → NoneDone cmp order w
      → WaitAtMost cmp order n w → WaitAtMost cmp order k (part last id w) → IsPartOf
      (wake_within cmp n t w) (wake_within cmp k t (part last id w))

  settle_and_wake : (n k t : ℕ) (u : World P) (last : P → P → Option ℕ) (id : ℕ) → IsPart last id u
      → WaitAtMost cmp order n u → WaitAtMost cmp order k (part last id u) → GoesByRule n t
      → IsPartOf (and_then (settle cmp t u) (wake_within cmp n t))
      (and_then (settle cmp t (part last id u)) (wake_within cmp k t))
  settle_and_wake n k t u last id is h g ih =
      let all : ℕ = length u.sending + length u.waiting in
      let few : ℕ = length (filter in_flight u.sending) + length (filter mine u.waiting) in
      part_then _ _ _ _ _ (wake_within cmp k t) (settle_part all few t u last id is (omega arith) (omega arith))
      (ends_both _ _ _ (settle_within_waits all n t u h) (settle_rests cmp order t u)) (settle_within_waits few k t _ g)
      (λ v l i part_v r s. ih k v l i part_v r.1 r.0 s)

  one_wakes : (n k t : ℕ) (w : World P) (last : P → P → Option ℕ) (id : ℕ) (m : Message P) (b : Bool)
      → GoesByRule n t → IsPart last id w → NoneDone cmp order w → WaitAtMost cmp order (suc n) w
      → WaitAtMost cmp order k (part last id w) → least_pair cmp (ready cmp t w) ≡ Some m → mine m ≡ b
      → IsPartOf (and_then (start cmp w m) (λ v. and_then (settle cmp t v) (wake_within cmp n t)))
      (wake_within cmp k t (part last id w))
  one_wakes n zero t w last id m true ih is rests most few e own =
      let least = ap (least_pair cmp) (ready_part t w last id is) ∙ least_kept cmp order mine _ m e own in
      let some = some_element (same_pair cmp m) m _ (ready_is_first cmp order t (part last id w) m least) in
      absurd (omega arith)
  one_wakes n (suc j) t w last id m true ih is rests most few e own =
      let least = ap (least_pair cmp) (ready_part t w last id is) ∙ least_kept cmp order mine _ m e own in
      let first = ready_is_first cmp order t w m e in
      subst (λ (c : Course (Completed P) (World P)). IsPartOf (and_then (start cmp w m)
      (λ v. and_then (settle cmp t v) (wake_within cmp n t))) c) (sym (wake_first cmp order j t (part last id w) m
      least)) (part_then _ _ _ _ _ (λ v. and_then (settle cmp t v) (wake_within cmp j t))
      (start_mine w m last id is first own) (start_takes cmp order n w m m first most)
      (start_takes cmp order j _ m m (ready_is_first cmp order t (part last id w) m least) few)
      (λ u l i part_u r s. settle_and_wake n j t u l i part_u r s ih))
  one_wakes n k t w last id m false ih is rests most few e off =
      let first = ready_is_first cmp order t w m e in
      let small : World P = part last id w in
      let rests_here = none_kept in_flight _ w.sending rests in
      let still = settle_nothing cmp order (length small.sending + length small.waiting) t small rests_here in
      let same = preceded_none _ ∙ ap (λ (c : Course (Completed P) (World P)). and_then c (wake_within cmp k t)) still ∙
      preceded_none _ in
      subst (λ (c : Course (Completed P) (World P)). IsPartOf (and_then (start cmp w m)
      (λ v. and_then (settle cmp t v) (wake_within cmp n t))) c) same (part_then _ (WaitAtMost cmp order k) _ _ _
      (λ v. and_then (settle cmp t v) (wake_within cmp k t)) (start_other w m last id is first off)
      (start_takes cmp order n w m m first most) few (λ u l i part_u r s. settle_and_wake n k t u l i part_u r s ih))

  pub wake_part : (n t : ℕ) → GoesByRule n t
  wake_part zero t k w last id is rests most few = grind (arith, none_long, wake_nothing, ready_part)
  wake_part (suc n) t k w last id is rests most few =
      by_option (least_pair cmp (ready cmp t w)) (λ e. grind (arith, least_none, wake_none, wake_nothing, ready_part))
      (λ m e. subst (λ (c : Course (Completed P) (World P)). IsPartOf c (wake_within cmp k t (part last id w)))
      (sym (wake_first cmp order n t w m e))
      (one_wakes n k t w last id m (mine m) (wake_part n t) is rests most few e refl))

  -- what happens at an instant, in the part
  pub instant_part : (w : World P) (last : P → P → Option ℕ) (id : ℕ) → IsPart last id w
      → IsPartOf (instant cmp w) (instant cmp (part last id w))
  instant_part w last id is =
      let all : ℕ = length w.sending + length w.waiting in
      let few : ℕ = length (filter in_flight w.sending) + length (filter mine w.waiting) in
      part_then _ (λ v. ⊤) _ _ _ (λ v. wake cmp v.moment v) (settle_part all few w.moment w last id is (omega arith)
      (omega arith)) (settle_rests cmp order w.moment w) (ends_any _ _ (λ v. tt))
      (λ u l i part_u r s. wake_part _ u.moment (length _) u l i part_u r (omega arith) (omega arith))
