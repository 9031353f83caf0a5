-- The index of idle pairs after a change of the planned world.
use Rattle.link_waiting.proofs.Common.{◌≡◌, ℕ, Bool, true, false, not, ◌&&◌, ◌||◌, cond, if◌then◌else◌, List, [], ◌∷◌}
use Rattle.link_waiting.proofs.Common.{◌++◌, Option, Some, None, refl, sym, ◌∙◌, ap, subst, find, filter, list_any}
use Rattle.link_waiting.proofs.Common.{Ordering, IsTotalOrder, and_from, by_bool, first_of_both, second_of_both}
use Rattle.link_waiting.proofs.Common.{without_first, same_peer, Message, PairsAlike, pair_before, with_link, Planned}
use Rattle.link_waiting.proofs.Common.{rated_messages, queued, idle_from, IsIndexOf, first_moment, first_of, is_sending}
use Rattle.link_waiting.proofs.Common.{pair_like, pair_sym, same_peer_itself, fun_ext, or_parts, with_queued}
use Rattle.link_waiting.proofs.Common.{RatedFlight, Pair, arrival_of, raised_at, of_pairs}
use Rattle.std.specs.Prelude.{option_map}
use Rattle.std.proofs.lemmas.Bool.{or_left}
use Rattle.std.proofs.Math.Bool.{or-true}
use Rattle.link_simulation.specs.Rule.Planned.{drained_to}
use Rattle.link_waiting.specs.Idle.Index.{is_of_pair, AreAtRest}
use Rattle.link_waiting.proofs.Idle.Index.{same_two}
use Rattle.link_waiting.proofs.Idle.FirstStart.{idle_respects}

module _ {P : Type 0} (cmp : P → P → Ordering) where
  -- two planned worlds that agree on a pair
  pub alike_from : (p q : Planned P) (a b : P) → is_sending cmp q a b ≡ is_sending cmp p a b
      → first_of cmp q.waiting a b ≡ first_of cmp p.waiting a b → q.last_arrival a b ≡ p.last_arrival a b
      → idle_from cmp q a b ≡ idle_from cmp p a b
  alike_from p q a b sends first last i =
      if sends i then None else option_map (λ (m : Message P). first_moment (last i) m.latency) (first i)

  -- a pair of which a message is in flight is not idle
  pub busy_none : (p : Planned P) (o r : P) → is_sending cmp p o r ≡ true → idle_from cmp p o r ≡ None
  busy_none p o r busy =
      ap
      (λ (b : Bool). if b then None else option_map (λ (m : Message P). first_moment (p.last_arrival o r) m.latency)
      (first_of cmp p.waiting o r))
      busy

  -- no earlier arrival of one pair: the others are as they were
  pub raised_else : (p : Planned P) (o r : P) (at : ℕ) (a b : P) → same_two cmp o r a b ≡ false
      → idle_from cmp (record p { last_arrival = raised_at cmp p.last_arrival o r at }) a b ≡ idle_from cmp p a b
  raised_else p o r at a b apart =
      alike_from p (record p { last_arrival = raised_at cmp p.last_arrival o r at }) a b refl refl (rw apart refl)

  module _ (order : IsTotalOrder cmp) where
    -- of a pair that is not idle nothing is told, so it changes nothing to tell nothing of it
    pub link_none : (p : Planned P) (o r : P) (es : P → P → Option ℕ) → PairsAlike cmp p.last_arrival p.last_arrival
        → IsIndexOf cmp p es → idle_from cmp p o r ≡ None → es ≡ with_link cmp es o r None
    link_none p o r es alike index none = fun_ext (λ a. fun_ext (λ b. by_bool (same_two cmp o r a b)
        (λ h. rw h (index a b ∙ sym (idle_respects cmp order p alike o r a b (first_of_both (same_peer cmp o a) _ h)
        (second_of_both _ _ h)) ∙ none)) (λ h. rw h refl)))

    -- ---- from one world to another

    -- where one pair alone may start from another moment on, the index in which that pair is changed is that of the new
    -- world
    pub follows : (p q : Planned P) (o r : P) (old new : P → P → Option ℕ)
        → PairsAlike cmp q.last_arrival q.last_arrival
        → ((a b : P) → same_two cmp o r a b ≡ false → idle_from cmp q a b ≡ idle_from cmp p a b) → IsIndexOf cmp p old
        → new ≡ with_link cmp old o r (idle_from cmp q o r) → IsIndexOf cmp q new
    follows p q o r old new alike others index changed a b = ap (λ f. f a b) changed ∙ by_bool (same_two cmp o r a b)
        (λ h. rw h (idle_respects cmp order q alike o r a b (first_of_both _ _ h) (second_of_both _ _ h)))
        (λ h. rw h (index a b ∙ sym (others a b h)))

    -- where no pair may start from another moment on, the index stays
    pub stays_index : (p q : Planned P) (es : P → P → Option ℕ)
        → ((a b : P) → idle_from cmp q a b ≡ idle_from cmp p a b) → IsIndexOf cmp p es → IsIndexOf cmp q es
    stays_index p q es same index a b = index a b ∙ sym (same a b)

    -- ---- messages of one pair, and those of another

    module _ (o r a b : P) (apart : same_two cmp o r a b ≡ false) where
      abbrev of_one : Message P → Bool
      of_one n = same_peer cmp o n.origin && same_peer cmp r n.recipient

      abbrev of_other : Message P → Bool
      of_other n = same_peer cmp a n.origin && same_peer cmp b n.recipient

      -- what is of the one is not of the other
      not_other : (n : Message P) → of_one n ≡ true → of_other n ≡ false
      not_other n is =
          let k : Message P = record n { origin = o; recipient = r } in
          let l : Message P = record n { origin = a; recipient = b } in
          pair_sym cmp order l n ∙ pair_like cmp order k n l is ∙ apart

      first_without : (ns : List (Message P)) → find of_other (without_first of_one ns) ≡ find of_other ns
      first_without [] = refl
      first_without (n ∷ ns) = by_bool (of_one n)
          (λ h. rw h (sym (ap (λ c. cond c (Some n) (find of_other ns)) (not_other n h))))
          (λ h. rw h (ap (λ f. cond (of_other n) (Some n) f) (first_without ns)))

      first_queued : (m : Message P) → of_one m ≡ true → (ns : List (Message P))
          → find of_other (queued cmp m ns) ≡ find of_other ns
      first_queued m is [] = ap (λ c. cond c (Some m) None) (not_other m is)
      first_queued m is (n ∷ ns) = by_bool (pair_before cmp m n)
          (λ h. rw h (ap (λ c. cond c (Some m) (find of_other (n ∷ ns))) (not_other m is)))
          (λ h. rw h (ap (λ f. cond (of_other n) (Some n) f) (first_queued m is ns)))

      sends_more : (fs : List (RatedFlight P)) (f : RatedFlight P) → of_one f.message ≡ true
          → list_any of_other (rated_messages (fs ++ f ∷ [])) ≡ list_any of_other (rated_messages fs)
      sends_more [] f is = ap (λ c. c || false) (not_other f.message is)
      sends_more (g ∷ fs) f is = ap (λ c. of_other g.message || c) (sends_more fs f is)

      -- the first message of a pair starts: the other pairs are as they were
      pub pushed_else : (p : Planned P) (f : RatedFlight P) (id : ℕ)
          → same_two cmp o r f.message.origin f.message.recipient ≡ true
          → idle_from cmp
          (record p {
            sending = p.sending ++ f ∷ [];
            waiting = without_first (λ (n : Message P). same_peer cmp o n.origin && same_peer cmp r n.recipient)
                p.waiting;
            next_id = id;
          })
          a b
          ≡ idle_from cmp p a b
      pushed_else p f id is =
          alike_from p
          (record p {
            sending = p.sending ++ f ∷ [];
            waiting = without_first (λ (n : Message P). same_peer cmp o n.origin && same_peer cmp r n.recipient)
                p.waiting;
            next_id = id;
          })
          a b (sends_more p.sending f is) (first_without p.waiting) refl

      -- a message of a pair joins those that wait: the other pairs are as they were
      pub queued_else : (p : Planned P) (m : Message P) → same_two cmp o r m.origin m.recipient ≡ true
          → idle_from cmp (with_queued cmp p m) a b ≡ idle_from cmp p a b
      queued_else p m is = alike_from p (with_queued cmp p m) a b refl (first_queued m is p.waiting) refl

  -- ---- an account

  module _ (u : Message P → Bool) where
    -- nothing that left is of the pair, so it is what stays that is
    pub left_else : (spent : RatedFlight P → Bool) (fs : List (RatedFlight P))
        → list_any u (rated_messages (filter spent fs)) ≡ false
        → list_any u (rated_messages (filter (λ f. not (spent f)) fs)) ≡ list_any u (rated_messages fs)
    left_else spent [] none = refl
    left_else spent (f ∷ fs) none = by_test (spent f) refl none (left_else spent fs)
      where
        by_test : (c : Bool) → spent f ≡ c
            → list_any u (rated_messages (cond c (f ∷ filter spent fs) (filter spent fs))) ≡ false
            → (list_any u (rated_messages (filter spent fs)) ≡ false
            → list_any u (rated_messages (filter (λ g. not (spent g)) fs)) ≡ list_any u (rated_messages fs))
            → list_any u
            (rated_messages
            (cond (not (spent f)) (f ∷ filter (λ g. not (spent g)) fs) (filter (λ g. not (spent g)) fs)))
            ≡ (u f.message || list_any u (rated_messages fs))
        by_test true is none ih =
            let parts : (u f.message ≡ false) × (list_any u _ ≡ false) = or_parts _ _ none in
            rw (is, parts.0) (ih parts.1)
        by_test false is none ih = rw is (ap (λ c. u f.message || c) (ih none))

-- ---- the pairs of what left are at rest

or_else : (c d : Bool) → c ≡ false → (d || c) ≡ d
or_else c true h = refl
or_else c false h = h

any_more : {X : Type 0} (u : X → Bool) (xs : List X) (x : X) → list_any u (xs ++ x ∷ []) ≡ (list_any u xs || u x)
any_more u [] x = or_else false (u x) refl
any_more u (y ∷ xs) x = ap (λ c. u y || c) (any_more u xs x) ∙ sym (or_assoc (u y) (list_any u xs) (u x))
  where
    or_assoc : (a b c : Bool) → ((a || b) || c) ≡ (a || (b || c))
    or_assoc true b c = refl
    or_assoc false b c = refl

module _ {P : Type 0} (cmp : P → P → Ordering) (order : IsTotalOrder cmp) (q : Planned P)
    (alike : PairsAlike cmp q.last_arrival q.last_arrival) (old : P → P → Option ℕ) where
  module _ (done : List (Message P)) (m : Message P) (es : P → P → Option ℕ) (so : AreAtRest cmp q done old es) where
    -- what the rest says of the pair of the message
    own : (a b : P) → is_of_pair cmp a b m ≡ true → idle_from cmp q a b ≡ idle_from cmp q m.origin m.recipient
    own a b h = idle_respects cmp order q alike a b m.origin m.recipient (first_of_both _ _ h) (second_of_both _ _ h)

    more_true : (a b : P) → is_of_pair cmp a b m ≡ true → list_any (is_of_pair cmp a b) (done ++ m ∷ []) ≡ true
    more_true a b h = any_more (is_of_pair cmp a b) done m ∙ rw h (or-true (list_any (is_of_pair cmp a b) done))

    more_false : (a b : P) → is_of_pair cmp a b m ≡ false
        → list_any (is_of_pair cmp a b) (done ++ m ∷ []) ≡ list_any (is_of_pair cmp a b) done
    more_false a b h = any_more _ done m ∙ or_else _ _ h

    -- from when on the next one may start is told
    pub rests_more : (new : P → P → Option ℕ)
        → new ≡ with_link cmp es m.origin m.recipient (idle_from cmp q m.origin m.recipient)
        → AreAtRest cmp q (done ++ m ∷ []) old new
    rests_more new told a b = ap (λ f. f a b) told ∙ by_bool _ (λ h. rw (more_true a b h, turned ∙ h) (sym (own a b h)))
        (λ h. rw (more_false a b h, turned ∙ h) (so a b))
      where
        turned : same_two cmp m.origin m.recipient a b ≡ is_of_pair cmp a b m
        turned = pair_sym cmp order m (record m { origin = a; recipient = b })

  -- all that left is at rest, so the index is that of what stays
  pub rests_index : (p : Planned P) (leavers : List (Message P)) (new : P → P → Option ℕ)
      → ((a b : P) → list_any (is_of_pair cmp a b) leavers ≡ false → idle_from cmp q a b ≡ idle_from cmp p a b)
      → IsIndexOf cmp p old → AreAtRest cmp q leavers old new → IsIndexOf cmp q new
  rests_index p leavers new others index rests a b = rests a b ∙ by_bool (list_any (is_of_pair cmp a b) leavers)
      (λ h. rw h refl)
      (λ h. rw h (index a b ∙ sym (others a b h)))

-- ---- the index of what is kept, after a change of one pair

module _ {P : Type 0} (cmp : P → P → Ordering) (order : IsTotalOrder cmp) where
  pub raised_index : (pairs others : List (Pair P)) (ms : List (Message P)) (sending : List (RatedFlight P))
      (o r : P) (at : ℕ) (es new : P → P → Option ℕ)
      → PairsAlike cmp (arrival_of cmp others) (arrival_of cmp others)
      → arrival_of cmp others ≡ raised_at cmp (arrival_of cmp pairs) o r at
      → IsIndexOf cmp (of_pairs cmp pairs ms sending) es
      → new ≡ with_link cmp es o r (idle_from cmp (of_pairs cmp others ms sending) o r)
      → IsIndexOf cmp (of_pairs cmp others ms sending) new
  raised_index pairs others ms sending o r at es new alike raised index changed =
      let p : Planned P = of_pairs cmp pairs ms sending in
      let q : Planned P = of_pairs cmp others ms sending in
      let same : q ≡ record p { last_arrival = raised_at cmp p.last_arrival o r at } = λ i.
      record p { last_arrival = raised i } in
      follows cmp order p q o r es new alike
      (λ a b apart. ap (λ (w : Planned P). idle_from cmp w a b) same ∙ raised_else cmp p o r at a b apart) index changed

  -- where the pair is not idle, or none of it waits
  pub raised_none : (pairs others : List (Pair P)) (ms : List (Message P)) (sending : List (RatedFlight P))
      (o r : P) (at : ℕ) (es : P → P → Option ℕ)
      → PairsAlike cmp (arrival_of cmp others) (arrival_of cmp others)
      → PairsAlike cmp (arrival_of cmp pairs) (arrival_of cmp pairs)
      → arrival_of cmp others ≡ raised_at cmp (arrival_of cmp pairs) o r at
      → IsIndexOf cmp (of_pairs cmp pairs ms sending) es
      → idle_from cmp (of_pairs cmp pairs ms sending) o r ≡ None
      → idle_from cmp (of_pairs cmp others ms sending) o r ≡ None
      → IsIndexOf cmp (of_pairs cmp others ms sending) es
  raised_none pairs others ms sending o r at es alike was_alike raised index was is =
      let p : Planned P = of_pairs cmp pairs ms sending in
      let q : Planned P = of_pairs cmp others ms sending in
      let same : q ≡ record p { last_arrival = raised_at cmp p.last_arrival o r at } = λ i.
      record p { last_arrival = raised i } in
      stays_index cmp order p q es (λ a b. by_bool _ (λ h.
      let first = first_of_both _ _ h in
      let second = second_of_both _ _ h in
      sym (idle_respects cmp order q alike o r a b first second) ∙ is ∙ sym was ∙ idle_respects cmp order p was_alike o
      r a b first second) (λ h. ap (λ (w : Planned P). idle_from cmp w a b) same ∙ raised_else cmp p o r at a b h))
      index

  -- where no last arrival is another, the index stays
  pub arrived_index : (pairs others : List (Pair P)) (ms : List (Message P)) (sending : List (RatedFlight P))
      (es : P → P → Option ℕ) → arrival_of cmp others ≡ arrival_of cmp pairs
      → IsIndexOf cmp (of_pairs cmp pairs ms sending) es → IsIndexOf cmp (of_pairs cmp others ms sending) es
  arrived_index pairs others ms sending es same =
      subst (λ (f : P → P → Option ℕ). IsIndexOf cmp (record (of_pairs cmp pairs ms sending) { last_arrival = f }) es)
      (sym same)

  pub queued_index : (pairs : List (Pair P)) (ms ns : List (Message P)) (sending : List (RatedFlight P)) (o r : P)
      (m : Message P) (es new : P → P → Option ℕ)
      → PairsAlike cmp (arrival_of cmp pairs) (arrival_of cmp pairs)
      → ns ≡ queued cmp m ms → same_two cmp o r m.origin m.recipient ≡ true
      → IsIndexOf cmp (of_pairs cmp pairs ms sending) es
      → new ≡ with_link cmp es o r (idle_from cmp (of_pairs cmp pairs ns sending) o r)
      → IsIndexOf cmp (of_pairs cmp pairs ns sending) new
  queued_index pairs ms ns sending o r m es new alike joined own index changed =
      let p : Planned P = of_pairs cmp pairs ms sending in
      let q : Planned P = of_pairs cmp pairs ns sending in
      let same : q ≡ with_queued cmp p m = λ i. record p { waiting = joined i } in
      follows cmp order p q o r es new alike
      (λ a b apart. ap (λ (w : Planned P). idle_from cmp w a b) same ∙ queued_else cmp order o r a b apart p m own)
      index changed

  -- the first message of an idle pair goes, and it is told of the next one
  pub taken_index : (pairs : List (Pair P)) (ms ns : List (Message P)) (sending : List (RatedFlight P)) (o r : P)
      (es new : P → P → Option ℕ)
      → PairsAlike cmp (arrival_of cmp pairs) (arrival_of cmp pairs)
      → ns ≡ without_first (λ (n : Message P). same_peer cmp o n.origin && same_peer cmp r n.recipient) ms
      → IsIndexOf cmp (of_pairs cmp pairs ms sending) es
      → new ≡ with_link cmp es o r (idle_from cmp (of_pairs cmp pairs ns sending) o r)
      → IsIndexOf cmp (of_pairs cmp pairs ns sending) new
  taken_index pairs ms ns sending o r es new alike taken index changed =
      let p : Planned P = of_pairs cmp pairs ms sending in
      let q : Planned P = of_pairs cmp pairs ns sending in
      follows cmp order p q o r es new alike
      (λ a b apart. alike_from cmp p q a b refl
      (ap (λ (l : List (Message P)). first_of cmp l a b) taken ∙ first_without cmp order o r a b apart ms) refl)
      index changed

  -- a message joins those that wait behind one that is in flight: no idle pair is another
  pub waited_index : (pairs : List (Pair P)) (ms ns : List (Message P)) (sending : List (RatedFlight P))
      (m : Message P) (es : P → P → Option ℕ)
      → ns ≡ queued cmp m ms
      → is_sending cmp (of_pairs cmp pairs ms sending) m.origin m.recipient ≡ true
      → PairsAlike cmp (arrival_of cmp pairs) (arrival_of cmp pairs)
      → IsIndexOf cmp (of_pairs cmp pairs ms sending) es → IsIndexOf cmp (of_pairs cmp pairs ns sending) es
  waited_index pairs ms ns sending m es joined busy alike index =
      let p : Planned P = of_pairs cmp pairs ms sending in
      let q : Planned P = of_pairs cmp pairs ns sending in
      let same : q ≡ with_queued cmp p m = λ i. record p { waiting = joined i } in
      let own : same_two cmp m.origin m.recipient m.origin m.recipient ≡ true =
      and_from (same_peer cmp m.origin m.origin) (same_peer cmp m.recipient m.recipient)
      (same_peer_itself cmp order m.origin) (same_peer_itself cmp order m.recipient) in
      stays_index cmp order p q es (λ a b. by_bool _ (λ h.
      let first = first_of_both _ _ h in
      let second = second_of_both _ _ h in
      sym (idle_respects cmp order q alike m.origin m.recipient a b first second) ∙ busy_none cmp q m.origin m.recipient
      busy ∙ sym (busy_none cmp p m.origin m.recipient busy) ∙ idle_respects cmp order p alike m.origin m.recipient a b
      first second) (λ h. ap (λ (w : Planned P). idle_from cmp w a b) same ∙ queued_else cmp order m.origin m.recipient
      a b h p m own)) index

  -- a message of a pair of which none waits is in flight: no idle pair is another
  pub started_index : (pairs : List (Pair P)) (ms : List (Message P)) (sending after : List (RatedFlight P))
      (f : RatedFlight P) (es : P → P → Option ℕ)
      → PairsAlike cmp (arrival_of cmp pairs) (arrival_of cmp pairs)
      → first_of cmp ms f.message.origin f.message.recipient ≡ None → after ≡ sending ++ f ∷ []
      → IsIndexOf cmp (of_pairs cmp pairs ms sending) es → IsIndexOf cmp (of_pairs cmp pairs ms after) es
  started_index pairs ms sending after f es alike alone pushed index =
      let p : Planned P = of_pairs cmp pairs ms sending in
      let q : Planned P = of_pairs cmp pairs ms after in
      let o : P = f.message.origin in
      let r : P = f.message.recipient in
      let own : same_two cmp o r o r ≡ true = and_from (same_peer cmp o o) (same_peer cmp r r)
      (same_peer_itself cmp order o) (same_peer_itself cmp order r) in
      stays_index cmp order p q es (λ a b. by_bool _ (λ h.
      let first = first_of_both _ _ h in
      let second = second_of_both _ _ h in
      sym (idle_respects cmp order q alike o r a b first second) ∙ none_idle q alone ∙ sym (none_idle p alone) ∙
      idle_respects cmp order p alike o r a b first second) (λ h. alike_from cmp p q a b
      (ap (λ l. list_any (is_of_pair cmp a b) (rated_messages l)) pushed ∙ sends_more cmp order o r a b h sending f own)
      refl refl)) index
    where
      none_idle : (w : Planned P) → first_of cmp w.waiting f.message.origin f.message.recipient ≡ None
          → idle_from cmp w f.message.origin f.message.recipient ≡ None
      none_idle w none =
          ap (λ (first : Option (Message P)). if is_sending cmp w f.message.origin f.message.recipient then None else
          option_map (λ (m : Message P). first_moment (w.last_arrival f.message.origin f.message.recipient) m.latency)
          first) none ∙ by_bool (is_sending cmp w f.message.origin f.message.recipient) (λ t. rw t refl)
          (λ t. rw t refl)

  -- the first message of a pair is in flight: the pair is idle no more
  pub departed_index : (pairs : List (Pair P)) (ms ns : List (Message P)) (sending after : List (RatedFlight P))
      (f : RatedFlight P) (o r : P) (es new : P → P → Option ℕ)
      → PairsAlike cmp (arrival_of cmp pairs) (arrival_of cmp pairs)
      → ns ≡ without_first (λ (n : Message P). same_peer cmp o n.origin && same_peer cmp r n.recipient) ms
      → after ≡ sending ++ f ∷ [] → same_two cmp o r f.message.origin f.message.recipient ≡ true
      → IsIndexOf cmp (of_pairs cmp pairs ms sending) es
      → new ≡ with_link cmp es o r None
      → IsIndexOf cmp (of_pairs cmp pairs ns after) new
  departed_index pairs ms ns sending after f o r es new alike taken pushed own index changed =
      let p : Planned P = of_pairs cmp pairs ms sending in
      let q : Planned P = of_pairs cmp pairs ns after in
      let same : q
      ≡ record p {
        sending = p.sending ++ f ∷ [];
        waiting = without_first (λ (n : Message P). same_peer cmp o n.origin && same_peer cmp r n.recipient) p.waiting;
        next_id = 0;
      } =
      λ i. record p { sending = pushed i; waiting = taken i } in
      let flies : is_sending cmp q o r ≡ true =
      ap (λ l. list_any (is_of_pair cmp o r) (rated_messages l)) pushed ∙ last_flies sending in
      let none : idle_from cmp q o r ≡ None = ap (λ (c : Bool). if c then None else option_map
      (λ (m : Message P). first_moment (q.last_arrival o r) m.latency) (first_of cmp q.waiting o r)) flies in
      follows cmp order p q o r es new alike (λ a b apart. ap (λ (w : Planned P). idle_from cmp w a b) same ∙
      pushed_else cmp order o r a b apart p f 0 own) index (changed ∙ ap (with_link cmp es o r) (sym none))
    where
      last_flies : (fs : List (RatedFlight P)) → list_any (is_of_pair cmp o r) (rated_messages (fs ++ f ∷ [])) ≡ true
      last_flies [] = or_left _ false own
      last_flies (g ∷ fs) = rw (last_flies fs) (or-true _)

pub flows_drained : {P : Type 0} (t : ℕ) (fs : List (RatedFlight P))
    → rated_messages (drained_to t fs) ≡ rated_messages fs
flows_drained t [] = refl
flows_drained t (f ∷ fs) = ap (λ l. f.message ∷ l) (flows_drained t fs)

module _ {P : Type 0} (cmp : P → P → Ordering) (order : IsTotalOrder cmp) (pairs : List (Pair P))
    (ms : List (Message P)) where
  -- while the same messages are in flight, the same pairs are idle
  pub same_flights_index : (sending after : List (RatedFlight P)) (es : P → P → Option ℕ)
      → rated_messages after ≡ rated_messages sending → IsIndexOf cmp (of_pairs cmp pairs ms sending) es
      → IsIndexOf cmp (of_pairs cmp pairs ms after) es
  same_flights_index sending after es same =
      stays_index cmp order (of_pairs cmp pairs ms sending) (of_pairs cmp pairs ms after) es
      (λ a b. alike_from cmp (of_pairs cmp pairs ms sending) (of_pairs cmp pairs ms after) a b
      (ap (list_any (is_of_pair cmp a b)) same) refl refl)
