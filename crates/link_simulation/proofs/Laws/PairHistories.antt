-- How far a pair is: which of its messages completed, which is in flight, which wait. Starts, completions and whole
-- instants keep it.
use Rattle.link_simulation.proofs.Common.{completion_of, ◌≡◌, ℕ, zero, suc, ◌+◌, ◌≤◌, List, []}
use Rattle.link_simulation.proofs.Common.{◌∷◌, ◌++◌, map, length, Bool, true, false, cond, not, Option, Some, None}
use Rattle.link_simulation.proofs.Common.{refl, sym, ap, ◌∙◌, subst, arith, append_assoc, append-nil, ⊤, ◌&&◌, IfSome}
use Rattle.link_simulation.proofs.Common.{if◌then◌else◌, list_any, find, filter, AllZip, Ordering, IsTotalOrder}
use Rattle.link_simulation.proofs.Common.{filter-append, map-append, leb-true, without_first, same_peer, Message}
use Rattle.link_simulation.proofs.Common.{PairsAlike, same_pair, is_delivered, World, Flight, Completed, Course, goes}
use Rattle.link_simulation.proofs.Common.{meets, preceded, and_then, is_in_order, later_of, flows, may_start, start}
use Rattle.link_simulation.proofs.Common.{start_next, is_done, complete, settle_within, settle, least_pair, ready, turn}
use Rattle.link_simulation.proofs.Common.{wake_within, instant, out_of_flight, is_late, completed, arrival, flight_of}
use Rattle.link_simulation.proofs.Common.{IsCompletionOf, NeverGoDown, Each, rules, by_bool, nat_le, last_moment}
use Rattle.link_simulation.specs.Laws.PairCompletions.{NoneBefore, completes_pair}
use Rattle.link_simulation.proofs.Simulation.Queue.{pair_like, pair_sym, find_passes, settle_none, settle_first}
use Rattle.link_simulation.proofs.Simulation.Queue.{by_option}
use Rattle.link_simulation.proofs.Simulation.SettlingEnds.{find_like}
use Rattle.link_simulation.proofs.Laws.Bytes.{wake_none, each_least, each_filter}
use Rattle.link_simulation.proofs.Simulation.OtherPairs.{fronts_are_first}
use Rattle.fairness.proofs.Lists.Members.{filter_nothing}
use Rattle.link_simulation.proofs.Simulation.Sound.{raised_peerwise}

-- ---- lists

-- what an option holds, as a list
abbrev pub held : {X : Type 0} → Option X → List X
held None = []
held (Some x) = x ∷ []

-- an element that passes, taken out of those of which one passes
taken_out : {X Y : Type 0} (p : Y → Bool) (f : X → Y) (test : X → Bool) (x : X) (y : Y) (xs : List X)
    → find test xs ≡ Some x → p (f x) ≡ true → filter p (map f xs) ≡ y ∷ []
    → (f x ≡ y) × (filter p (map f (without_first test xs)) ≡ [])
taken_out p f test x y [] e own one = cc
taken_out {X} {Y} p f test x y (z ∷ zs) e own one =
    by_test (test z) refl (p (f z)) refl e one (taken_out p f test x y zs)
  where
    by_test : (b : Bool) → test z ≡ b → (c : Bool) → p (f z) ≡ c → cond b (Some z) (find test zs) ≡ Some x
        → cond c (f z ∷ filter p (map f zs)) (filter p (map f zs)) ≡ y ∷ []
        → (find test zs ≡ Some x → p (f x) ≡ true → filter p (map f zs) ≡ y ∷ []
        → (f x ≡ y) × (filter p (map f (without_first test zs)) ≡ []))
        → (f x ≡ y) × (filter p (map f (cond b zs (z ∷ without_first test zs))) ≡ [])
    by_test true is true at e one ih = let same : z ≡ x = cc in let head : f z ≡ y = cc in (ap f (sym same) ∙ head, cc)
    by_test true is false at e one ih = grind arith
    by_test false is true at e one ih =
        let none : filter p (map f zs) ≡ [] = cc in
        let there : list_any p (map f zs) ≡ true = has_one (find_in zs e) in
        absurd (not_both (none_there (map f zs) none) there)
      where
        find_in : (ws : List X) → find test ws ≡ Some x → list_any p (map f ws) ≡ true
        find_in [] e = cc
        find_in (w ∷ ws) e = grind (arith, (find_in ws))

        has_one : list_any p (map f zs) ≡ true → list_any p (map f zs) ≡ true
        has_one h = h

        none_there : (ws : List Y) → filter p ws ≡ [] → list_any p ws ≡ false
        none_there [] e = refl
        none_there (w ∷ ws) e = grind (arith, (none_there ws))

        not_both : {a : Bool} → a ≡ false → a ≡ true → ⊥
        not_both e g = cc
    by_test false is false at e one ih = let r = ih e own one in (r.0, rw at r.1)

-- one that does not pass, taken out, changes nothing
not_taken : {X Y : Type 0} (p : Y → Bool) (f : X → Y) (test : X → Bool) (x : X) (xs : List X) → find test xs ≡ Some x
    → p (f x) ≡ false → filter p (map f (without_first test xs)) ≡ filter p (map f xs)
not_taken p f test x [] e off = refl
not_taken {X} {Y} p f test x (z ∷ zs) e off = grind (arith, (not_taken p f test x zs))

module _ {P : Type 0} (cmp : P → P → Ordering) (order : IsTotalOrder cmp) (k : Message P) where
  -- what completed of the pair, what of it waits, what is in flight, and its last arrival
  abbrev pub told_of_k : List (Completed P) → List (Completed P)
  told_of_k cs = filter (completes_pair cmp k) cs

  abbrev pub waits : World P → List (Message P)
  waits w = filter (same_pair cmp k) w.waiting

  abbrev flies : World P → List (Message P)
  flies w = filter (same_pair cmp k) (flows w)

  abbrev pub last : World P → Option ℕ
  last w = w.last_arrival k.origin k.recipient

  -- the moment is not past the last arrival
  abbrev pub NotPast : Option ℕ → ℕ → Type 0
  NotPast None s = ⊥
  NotPast (Some l) s = s ≤ l

  abbrev pub AllNotPast : Option ℕ → List (Completed P) → Type 0
  AllNotPast l cs = Each (λ (c : Completed P). IfSome c.deliver_at (NotPast l)) cs

  -- how far the pair is, with those messages enqueued, at t, after those completions
  pub record IsHistory (messages : List (Message P)) (t : ℕ) (cs : List (Completed P)) (w : World P) : Type 0 where
    pub done : List (Message P)
    pub flying : Option (Message P)
    pub told : AllZip IsCompletionOf (told_of_k cs) done
    pub in_flight : flies w ≡ held flying
    pub queue : filter (same_pair cmp k) messages ≡ done ++ (held flying ++ waits w)
    pub deliveries : NeverGoDown (told_of_k cs)
    pub not_past : AllNotPast (last w) (told_of_k cs)
    pub in_order : IfSome flying (λ m. is_in_order (last w) (t + m.latency) ≡ true)
    pub alike : PairsAlike cmp w.last_arrival w.last_arrival
    pub now : w.moment ≡ t

  -- ---- completions

  none_before_push : (t : ℕ) (cs : List (Completed P)) (c : Completed P) → NoneBefore t cs
      → IfSome c.deliver_at (λ s. t ≤ s) → NoneBefore t (cs ++ c ∷ [])
  none_before_push t [] c h own = (own, tt)
  none_before_push t (d ∷ ds) c h own = (h.0, none_before_push t ds c h.1 own)

  -- a delivery that no earlier one is past joins them
  pub deliveries_push : (l : Option ℕ) (cs : List (Completed P)) (c : Completed P) → NeverGoDown cs → AllNotPast l cs
      → IfSome c.deliver_at (λ s. is_in_order l s ≡ true) → NeverGoDown (cs ++ c ∷ [])
  deliveries_push l [] c h past own = grind arith
  deliveries_push l (d ∷ ds) c h past own = grind (arith, leb-true, none_before_push, (deliveries_push l ds c))

  pub not_past_later : (l m : Option ℕ) (cs : List (Completed P)) → ((s : ℕ) → NotPast l s → NotPast m s)
      → AllNotPast l cs → AllNotPast m cs
  not_past_later l m [] grows h = tt
  not_past_later l m (c ∷ cs) grows h = grind (arith, (not_past_later l m cs grows))

  pub not_past_push : (l : Option ℕ) (cs : List (Completed P)) (c : Completed P) → AllNotPast l cs
      → IfSome c.deliver_at (NotPast l) → AllNotPast l (cs ++ c ∷ [])
  not_past_push l [] c h own = (own, tt)
  not_past_push l (d ∷ ds) c h own = (h.0, not_past_push l ds c h.1 own)

  pub raises : (l : Option ℕ) (at s : ℕ) → NotPast l s → NotPast (Some (later_of l at)) s
  raises None at s np = absurd np
  raises (Some last) at s np = omega arith

  pub reaches_it : (l : Option ℕ) (at : ℕ) → NotPast (Some (later_of l at)) at
  reaches_it None at = omega arith
  reaches_it (Some last) at = omega arith

  pub told_push : (cs : List (Completed P)) (ds : List (Message P)) (c : Completed P) (m : Message P)
      → AllZip IsCompletionOf cs ds → IsCompletionOf c m → AllZip IsCompletionOf (cs ++ c ∷ []) (ds ++ m ∷ [])
  told_push [] [] c m all own = (own, tt)
  told_push [] (d ∷ ds) c m all own = absurd all
  told_push (c ∷ cs) [] d m all own = absurd all
  told_push (c ∷ cs) (n ∷ ns) d m all own = (all.0, told_push cs ns d m all.1 own)

  pub told_more : (cs : List (Completed P)) (c : Completed P) → completes_pair cmp k c ≡ true
      → told_of_k (cs ++ c ∷ []) ≡ told_of_k cs ++ c ∷ []
  told_more cs c e = filter-append (completes_pair cmp k) cs (c ∷ []) ∙ rw e refl

  pub told_same : (cs : List (Completed P)) (c : Completed P) → completes_pair cmp k c ≡ false
      → told_of_k (cs ++ c ∷ []) ≡ told_of_k cs
  told_same cs c e = filter-append (completes_pair cmp k) cs (c ∷ []) ∙ rw e (append-nil (told_of_k cs))

  -- ---- a start

  pub last_of : (w : World P) (m : Message P) → PairsAlike cmp w.last_arrival w.last_arrival
      → same_pair cmp k m ≡ true → w.last_arrival m.origin m.recipient ≡ last w
  last_of w m alike own = grind arith

  first_of_waits : (w : World P) (m : Message P) → same_pair cmp k m ≡ true → find (same_pair cmp m) w.waiting ≡ Some m
      → waits w ≡ m ∷ filter (same_pair cmp k) (without_first (same_pair cmp m) w.waiting)
  first_of_waits w m own found = by_list w.waiting (sym (find_like cmp order k m w.waiting own) ∙ found)
    where
      by_list : (ws : List (Message P)) → find (same_pair cmp k) ws ≡ Some m
          → filter (same_pair cmp k) ws ≡ m ∷ filter (same_pair cmp k) (without_first (same_pair cmp m) ws)
      by_list [] e = cc
      by_list (x ∷ ws) e = grind (arith, pair_like, (by_list ws))

  waits_without : (ws : List (Message P)) (m : Message P) → same_pair cmp k m ≡ false
      → filter (same_pair cmp k) (without_first (same_pair cmp m) ws) ≡ filter (same_pair cmp k) ws
  waits_without [] m off = refl
  waits_without (x ∷ ws) m off =
      by_bool (same_pair cmp m x) (λ is. rw is (
      let out : same_pair cmp k x ≡ false = pair_sym cmp order k x ∙ pair_like cmp order m x k is
      ∙ pair_sym cmp order m k ∙ off in rw out refl))
      (λ is. rw is (ap (λ (ms : List (Message P)). cond (same_pair cmp k x) (x ∷ ms) ms) (waits_without ws m off)))

  joined : World P → Message P → World P
  joined w m = record w {
    sending = w.sending ++ flight_of m ∷ [];
    waiting = without_first (same_pair cmp m) w.waiting;
    next_id = w.next_id + 1;
  }

  flies_more : (w : World P) (m : Message P) → flies (joined w m) ≡ flies w ++ filter (same_pair cmp k) (m ∷ [])
  unfolding joined
  flies_more w m = grind (arith, map-append, (filter-append (same_pair cmp k) (flows w) (m ∷ [])))

  start_history : (messages : List (Message P)) (t : ℕ) (cs : List (Completed P)) (w : World P) (m : Message P)
      → find (same_pair cmp m) w.waiting ≡ Some m
      → may_start cmp t w m ≡ true → IsHistory messages t cs w → IsHistory messages t cs (joined w m)
  unfolding joined
  start_history messages t cs w m found may h =
      by_bool (same_pair cmp k m) (λ own.
      let none : flies w ≡ [] = filter_nothing (same_pair cmp k) (flows w) (like_any (flows w) own apart.0) in
      record {
        done = h.done;
        flying = Some m;
        told = h.told;
        in_flight = grind (arith, flies_more);
        queue = grind (arith, idle_is, first_of_waits);
        deliveries = h.deliveries;
        not_past = h.not_past;
        in_order = subst (λ (o : Option ℕ). is_in_order o (t + m.latency) ≡ true) (last_of w m h.alike own) apart.1;
        alike = h.alike;
        now = h.now;
      }) (λ off. grind (arith, flies_more, append-nil, held, waits_without))
    where
      may_parts : (a b : Bool) → (not a && b) ≡ true → (a ≡ false) × (b ≡ true)
      may_parts true b e = cc
      may_parts false b e = (refl, e)

      apart : (list_any (same_pair cmp m) (flows w) ≡ false)
          × (is_in_order (w.last_arrival m.origin m.recipient) (t + m.latency) ≡ true)
      apart = grind (arith, may_parts)

      like_any : (ns : List (Message P)) → same_pair cmp k m ≡ true → list_any (same_pair cmp m) ns ≡ false
          → list_any (same_pair cmp k) ns ≡ false
      like_any [] own e = refl
      like_any (n ∷ ns) own e = grind (arith, pair_like, (like_any ns own))

      idle_is : flies w ≡ [] → held h.flying ≡ []
      idle_is e = sym h.in_flight ∙ e

  -- ---- courses

  module _ (messages : List (Message P)) (t : ℕ) where
    -- if it goes, the history goes on
    unfoldable pub GoesByRule : List (Completed P) → Course (Completed P) (World P) → Type 0
    GoesByRule cs (goes ds u) = IsHistory messages t (cs ++ ds) u
    GoesByRule cs (meets fault) = ⊤

    pub goes_preceded : (cs ds : List (Completed P)) (c : Course (Completed P) (World P)) → GoesByRule (cs ++ ds) c
        → GoesByRule cs (preceded ds c)
    unfolding GoesByRule
    goes_preceded cs ds (goes es u) h = grind (arith, append_assoc)
    goes_preceded cs ds (meets fault) h = tt

    pub goes_then : (cs : List (Completed P)) (c : Course (Completed P) (World P))
        (next : World P → Course (Completed P) (World P)) → GoesByRule cs c
        → ((ds : List (Completed P)) (u : World P) → IsHistory messages t ds u → GoesByRule ds (next u))
        → GoesByRule cs (and_then c next)
    unfolding GoesByRule
    goes_then cs (goes ds u) next h on = goes_preceded cs ds (next u) (on (cs ++ ds) u h)
    goes_then cs (meets fault) next h on = tt

    pub stays : (cs : List (Completed P)) (w : World P) → IsHistory messages t cs w → GoesByRule cs (goes [] w)
    unfolding GoesByRule
    stays cs w h = subst (λ (xs : List (Completed P)). IsHistory messages t xs w) (sym (append-nil cs)) h

    start_goes : (cs : List (Completed P)) (w : World P) (m : Message P) → find (same_pair cmp m) w.waiting ≡ Some m
        → may_start cmp t w m ≡ true → IsHistory messages t cs w → GoesByRule cs (start cmp w m)
    unfolding joined GoesByRule
    start_goes cs w m found may h =
        by_bool (nat_le last_moment w.next_id) (λ is. rw is tt)
        (λ is. rw is (stays cs (joined w m) (start_history messages t cs w m found may h)))

    pub next_goes : (cs : List (Completed P)) (w : World P) (n : Message P) (o : Option (Message P))
        → find (same_pair cmp n) w.waiting ≡ o → IsHistory messages t cs w → GoesByRule cs (start_next cmp t w o)
    next_goes cs w n None is h = stays cs w h
    next_goes cs w n (Some m) is h = search (rules, start, start_goes, find_like, find_passes, stays)

    -- ---- a completion

    land : World P → Message P → World P
    land w m = out_of_flight cmp t w m

    land_history : (cs : List (Completed P)) (w : World P) (f : Flight P) → find (is_done cmp w) w.sending ≡ Some f
        → IsHistory messages t cs w → IsHistory messages t (cs ++ completed cmp t f.message ∷ []) (land w f.message)
    unfolding land
    land_history cs w f found h =
        by_bool _ (λ own. by_flying own h.flying refl h.in_flight h.queue h.in_order) (λ off.
        let c : Completed P = completed cmp t f.message in
        let list_is : told_of_k (cs ++ c ∷ []) ≡ told_of_k cs = told_same cs c off in
        record {
          done = h.done;
          flying = h.flying;
          told = subst (λ (xs : List (Completed P)). AllZip IsCompletionOf xs h.done) (sym list_is) h.told;
          in_flight = not_taken (same_pair cmp k) (λ (g : Flight P). g.message) (is_done cmp w) f w.sending found
              off ∙ h.in_flight;
          queue = h.queue;
          deliveries = subst NeverGoDown (sym list_is) h.deliveries;
          not_past =
              subst (λ (xs : List (Completed P)). AllNotPast (last (land w f.message)) xs) (sym list_is)
              (subst (λ (l : Option ℕ). AllNotPast l (told_of_k cs)) (sym (other_last off)) h.not_past);
          in_order =
              by_option (h.flying) (λ is. rw is tt) (λ n is. rw is (subst (λ (l : Option ℕ). is_in_order l
              (t + n.latency) ≡ true) (sym (other_last off)) (rw is at h.in_order)));
          alike = alike_too;
          now = h.now;
        })
      where
        m : Message P
        m = f.message

        alike_too : PairsAlike cmp (land w f.message).last_arrival (land w f.message).last_arrival
        alike_too = raised_peerwise cmp order w.last_arrival f.message _ h.alike

        peers_own : same_pair cmp k f.message ≡ true
            → (same_peer cmp f.message.origin k.origin && same_peer cmp f.message.recipient k.recipient) ≡ true
        peers_own own = pair_sym cmp order f.message k ∙ own

        own_last : same_pair cmp k f.message ≡ true
            → last (land w f.message) ≡ Some (later_of (last w) (arrival cmp t f.message))
        own_last own = rw (peers_own own) refl

        other_last : same_pair cmp k f.message ≡ false → last (land w f.message) ≡ last w
        other_last off = grind (arith, pair_sym)

        by_flying : same_pair cmp k f.message ≡ true → (o : Option (Message P)) → h.flying ≡ o → flies w ≡ held o
            → filter (same_pair cmp k) messages ≡ h.done ++ (held o ++ waits w)
            → IfSome o (λ n. is_in_order (last w) (t + n.latency) ≡ true)
            → IsHistory messages t (cs ++ completed cmp t f.message ∷ []) (land w f.message)
        by_flying own None is none queue order_is = absurd (in_none w.sending found none)
          where
            in_none : (fs : List (Flight P)) → find (is_done cmp w) fs ≡ Some f
                → filter (same_pair cmp k) (map (λ (g : Flight P). g.message) fs) ≡ [] → ⊥
            in_none [] e none = cc
            in_none (g ∷ fs) e none = by_test _ _ refl e none (in_none fs)
              where
                by_test : (b c : Bool) → same_pair cmp k g.message ≡ c
                    → cond b (Some g) (find (is_done cmp w) fs) ≡ Some f
                    → cond c (g.message ∷ filter (same_pair cmp k) (map (λ (g : Flight P). g.message) fs))
                    (filter (same_pair cmp k) (map (λ (g : Flight P). g.message) fs)) ≡ []
                    → (find (is_done cmp w) fs ≡ Some f
                    → filter (same_pair cmp k) (map (λ (g : Flight P). g.message) fs) ≡ [] → ⊥) → ⊥
                by_test b true is e none ih = cc
                by_test true false is e none ih = grind (arith, same_pair)
                by_test false false is e none ih = ih e none
        by_flying own (Some n) is one queue order_is =
            let taken = taken_out _ _ (is_done cmp w) f n w.sending found own one in
            let c : Completed P = completed cmp t f.message in
            let of_pair : completes_pair cmp k c ≡ true = own in
            let list_is : told_of_k (cs ++ c ∷ []) ≡ told_of_k cs ++ c ∷ [] = told_more cs c of_pair in
            let is_of : IsCompletionOf c n
            = (
              t,
              (if is_delivered cmp f.message then Some (arrival cmp t f.message) else None),
              ap (λ (x : Message P). completion_of x t
                  (if is_delivered cmp f.message then Some (arrival cmp t f.message) else None)) taken.0,
            )
            in
            let in_order_here : is_in_order (last w) (t + f.message.latency) ≡ true =
            subst (λ (x : Message P). is_in_order (last w) (t + x.latency) ≡ true) (sym taken.0) order_is in
            record {
              done = h.done ++ n ∷ [];
              flying = None;
              told = subst (λ (xs : List (Completed P)). AllZip IsCompletionOf xs (h.done ++ n ∷ [])) (sym list_is)
                  (told_push (told_of_k cs) h.done c n h.told is_of);
              in_flight = taken.1;
              queue = queue ∙ sym (append_assoc h.done (n ∷ []) (waits w));
              deliveries = subst NeverGoDown (sym list_is) (deliveries_push (last w) _ c h.deliveries h.not_past
                  (by_bool (is_delivered cmp f.message) (λ here. rw here in_order_here) (λ here. rw here tt)));
              not_past =
                  subst (λ (xs : List (Completed P)). AllNotPast (last (land w f.message)) xs) (sym list_is)
                  (subst (λ (l : Option ℕ). AllNotPast l (told_of_k cs ++ c ∷ [])) (sym (own_last own))
                  (not_past_push (Some (later_of (last w) (arrival cmp t f.message))) (told_of_k cs) c
                  (not_past_later (last w) (Some (later_of (last w) (arrival cmp t f.message))) _
                  (λ s np. raises (last w) _ s np) h.not_past) (by_bool (is_delivered cmp f.message)
                  (λ seen. rw seen (reaches_it (last w) _)) (λ seen. rw seen tt))));
              in_order = tt;
              alike = alike_too;
              now = h.now;
            }

    complete_goes : (cs : List (Completed P)) (w : World P) (f : Flight P) → find (is_done cmp w) w.sending ≡ Some f
        → IsHistory messages t cs w → GoesByRule cs (complete cmp t w f.message)
    unfolding land GoesByRule
    complete_goes cs w f found h =
        by_bool (is_late cmp t f.message) (λ is. rw is tt) (λ is. rw is (
        goes_preceded cs (completed cmp t f.message ∷ []) _ (next_goes _ _ f.message _ refl
        (land_history cs w f found h))))

    -- ---- an instant

    settle_within_goes : (n : ℕ) (cs : List (Completed P)) (w : World P) → IsHistory messages t cs w
        → GoesByRule cs (settle_within cmp n t w)
    settle_within_goes zero cs w h = stays cs w h
    settle_within_goes (suc n) cs w h =
        grind (arith, settle_none, stays, settle_first, goes_then, complete_goes, (settle_within_goes n))

    pub settle_goes : (cs : List (Completed P)) (w : World P) → IsHistory messages t cs w
        → GoesByRule cs (settle cmp t w)
    settle_goes cs w h = settle_within_goes (length w.sending + length w.waiting) cs w h

    ready_may : (w : World P) (m : Message P) → least_pair cmp (ready cmp t w) ≡ Some m
        → (find (same_pair cmp m) w.waiting ≡ Some m) × (may_start cmp t w m ≡ true)
    ready_may w m e =
        each_least cmp order (λ (n : Message P). (find _ w.waiting ≡ Some n) × (may_start cmp t w n ≡ true)) _ m
        (each_filter _ _ _ _ (λ n may first. (first, may)) (fronts_are_first cmp order w.waiting)) e

    turn_goes : (cs : List (Completed P)) (w : World P) (m : Message P) → least_pair cmp (ready cmp t w) ≡ Some m
        → IsHistory messages t cs w → GoesByRule cs (turn cmp t w m)
    turn_goes cs w m e h = grind (arith, ready_may, goes_then, start, start_goes, settle_goes)

    wake_within_goes : (n : ℕ) (cs : List (Completed P)) (w : World P) → IsHistory messages t cs w
        → GoesByRule cs (wake_within cmp n t w)
    wake_within_goes zero cs w h = stays cs w h
    wake_within_goes (suc n) cs w h = grind (arith, wake_none, stays, goes_then, turn, turn_goes, (wake_within_goes n))

    pub instant_goes : (cs : List (Completed P)) (w : World P) → IsHistory messages t cs w
        → GoesByRule cs (instant cmp w)
    instant_goes cs w h = grind (arith, goes_then, settle_goes, wake_within_goes)
