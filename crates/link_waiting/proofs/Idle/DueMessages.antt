-- The pairs that may start by now are those of the messages that may.
use Rattle.link_waiting.proofs.Common.{◌≡◌, ℕ, suc, Bool, true, false, not, ◌&&◌, cond, if◌then◌else◌, List, [], ◌∷◌}
use Rattle.link_waiting.proofs.Common.{map, Option, Some, None, refl, sym, ◌∙◌, ap, ap₂, nat_le, AllZip, filter, find}
use Rattle.link_waiting.proofs.Common.{list_any, Ordering, Less, Equal, Greater, is_lt, is_eq, ordering_reverse}
use Rattle.link_waiting.proofs.Common.{IsTotalOrder, and_from, by_bool, first_of_both, second_of_both, PeerPair}
use Rattle.link_waiting.proofs.Common.{same_peer, Message, PairsAlike, same_pair, Planned, AreInPairOrder}
use Rattle.link_waiting.proofs.Common.{may_launch, idle_from, IsIndexOf, has_come, NamesPairOf, first_moment, pair_cmp}
use Rattle.link_waiting.proofs.Common.{first_of, may_launch_first, is_sending, pair_like, pair_sym, pair_total}
use Rattle.link_waiting.proofs.Common.{list_all, are_ascending, pair_of_key, is_eq-then}
use Rattle.std.proofs.Common.{true≢false}
use Rattle.std.specs.Prelude.{option_map}
use Rattle.std.proofs.lemmas.Cmp.{tied_back}
use Rattle.std.proofs.Math.Bool.{and-false}
use Rattle.link_simulation.specs.Simulation.World.{fronts}
use Rattle.link_waiting.specs.Idle.Starting.{ready_messages}
use Rattle.fairness.proofs.Sides.Subjects.{peer_sym}
use Rattle.fairness.proofs.Lists.Sorted.{is_eq_equal}
use Rattle.fairness.proofs.Lists.Zips.{zip_weaker}
use Rattle.link_waiting.proofs.Idle.DueCounts.{how_many, same_many, never_many, filter_many}
use Rattle.link_waiting.proofs.Idle.DueCounts.{is_rising, of_key, rising_same}
use Rattle.link_waiting.proofs.Idle.FirstStart.{may_from}

abbrev pub one_if : Bool → ℕ
one_if b = if b then 1 else 0

-- ---- lists in the order of pairs

module _ {X : Type 0} where
  all_filtered : (q t : X → Bool) (xs : List X) → list_all q xs ≡ true → list_all q (filter t xs) ≡ true
  all_filtered q t [] h = refl
  all_filtered q t (x ∷ xs) h = by_bool (t x)
      (λ is. rw is (and_from (q x) _ (first_of_both (q x) _ h) (all_filtered q t xs (second_of_both (q x) _ h))))
      (λ is. rw is (all_filtered q t xs (second_of_both (q x) _ h)))

  all_not : (t : X → Bool) (xs : List X) → list_any t xs ≡ false → list_all (λ x. not (t x)) xs ≡ true
  all_not t [] h = refl
  all_not t (x ∷ xs) h =
      by_bool (t x) (λ is. let some : list_any t (x ∷ xs) ≡ true = rw is refl in cc)
      (λ is. and_from _ _ (ap not is) (all_not t xs (sym (rw is refl) ∙ h)))

module _ {P : Type 0} (cmp : P → P → Ordering) (order : IsTotalOrder cmp) where
  abbrev key_pair : PeerPair P → P × P
  key_pair k = (k.origin, k.recipient)

  abbrev message_pair : Message P → P × P
  message_pair m = (m.origin, m.recipient)

  rising_filter : (t : Message P → Bool) (ms : List (Message P))
      → is_rising (pair_cmp cmp) (pair_total cmp order) message_pair ms ≡ true
      → is_rising (pair_cmp cmp) (pair_total cmp order) message_pair (filter t ms) ≡ true
  rising_filter t [] h = refl
  rising_filter t (m ∷ ms) h =
      let all : list_all (λ n. not _) ms ≡ true = first_of_both _ _ h in
      by_bool (t m) (λ is. rw is (and_from _ _ (all_filtered _ t ms all) (rising_filter t ms (second_of_both _ _ h))))
      (λ is. rw is (rising_filter t ms (second_of_both _ _ h)))

  all_fronts : (q : Message P → Bool) (ms : List (Message P)) → list_all q ms ≡ true → list_all q (fronts cmp ms) ≡ true
  all_fronts q [] h = refl
  all_fronts q (m ∷ ms) h =
      and_from (q m) _ (first_of_both (q m) _ h) (all_filtered q _ _ (all_fronts q ms (second_of_both (q m) _ h)))

  rising_fronts : (ms : List (Message P)) → AreInPairOrder cmp ms
      → is_rising (pair_cmp cmp) (pair_total cmp order) message_pair (fronts cmp ms) ≡ true
  rising_fronts [] h = refl
  rising_fronts (m ∷ ms) h = and_from _ _ (all_filtered (λ n. not _) (λ n. not _) (fronts cmp ms)
      (all_fronts _ ms (all_not _ ms h.0))) (rising_filter (λ n. not _) _ (rising_fronts ms h.1))

  -- ---- how many keys name a pair

  module _ (now : ℕ) (a b : P) where
    abbrev of_pair_key : PeerPair P → Bool
    of_pair_key k = is_eq (pair_cmp cmp (pair_of_key k) (a, b))

    abbrev names : PeerPair P → Bool
    names k = same_peer cmp a k.origin && same_peer cmp b k.recipient

    names_is : (k : PeerPair P) → of_pair_key k ≡ names k
    names_is k =
        is_eq-then (cmp k.origin a) (cmp k.recipient b)
        ∙ ap₂ (λ c d. c && d) (peer_sym cmp order k.origin a) (peer_sym cmp order k.recipient b)

    -- keys that ascend name a pair once or not at all
    ascending_once : (keys : List (PeerPair P)) → are_ascending (pair_cmp cmp) (map pair_of_key keys) ≡ true
        → of_key (pair_cmp cmp) (pair_total cmp order) key_pair (a, b) keys ≡ one_if (list_any names keys)
    ascending_once [] h = refl
    ascending_once (k ∷ keys) h =
        let above : list_all (λ l. is_lt _) (map pair_of_key keys) ≡ true = first_of_both _ _ h in
        let rest = ascending_once keys (second_of_both _ _ h) in
        by_bool (names k) (λ is. rw (names_is k ∙ is, is) (ap suc (none_again keys (names_is k ∙ is) above)))
        (λ is. rw (names_is k ∙ is, is) rest)
      where
        none_again : (ls : List (PeerPair P)) → of_pair_key k ≡ true
            → list_all (λ l. is_lt (pair_cmp cmp (pair_of_key k) l)) (map pair_of_key ls) ≡ true
            → of_key (pair_cmp cmp) (pair_total cmp order) key_pair (a, b) ls ≡ 0
        none_again [] is above = refl
        none_again (l ∷ ls) is above =
            let lower : is_lt (pair_cmp cmp (pair_of_key k) (pair_of_key l)) ≡ true = first_of_both _ _ above in
            let other : of_pair_key l ≡ false = by_bool _
            (λ same. let equal = (pair_total cmp order).congr (pair_of_key k) (a, b) (pair_of_key l) (is_eq_equal _ is) in
            let turned = tied_back (pair_total cmp order) (pair_of_key l) (a, b) (is_eq_equal _ same) in
            let no : true ≡ false = sym lower ∙ ap is_lt (equal ∙ turned) in
            absurd (true≢false no)) (λ apart. apart) in
            rw other (none_again ls is (second_of_both _ _ above))

    -- ---- how many messages that may start are of a pair

    abbrev of_message : Message P → Bool
    of_message m = is_eq (pair_cmp cmp (message_pair m) (a, b))

    abbrev sought : Message P → Bool
    sought m = same_peer cmp a m.origin && same_peer cmp b m.recipient

    of_is : (m : Message P) → of_message m ≡ sought m
    of_is m = is_eq-then _ _ ∙ pair_sym cmp order m (record m { origin = a; recipient = b })

    abbrev passes : (Message P → Bool) → Option (Message P) → Bool
    passes may None = false
    passes may (Some m) = may m

    fronts_of : (may : Message P → Bool) (ms : List (Message P))
        → how_many (λ m. may m && of_message m) (fronts cmp ms) ≡ one_if (passes may (find sought ms))
    fronts_of may [] = refl
    fronts_of may (m ∷ ms) = by_test (sought m) refl (fronts_of may ms)
      where
        of_pair_like : sought m ≡ true → (n : Message P) → same_pair cmp m n ≡ sought n
        of_pair_like is n = pair_like cmp order (record m { origin = a; recipient = b }) m n is

        by_test : (c : Bool) → sought m ≡ c
            → how_many (λ m. may m && of_message m) (fronts cmp ms) ≡ one_if (passes may (find sought ms))
            → how_many (λ m. may m && of_message m) (m ∷ filter (λ n. not (same_pair cmp m n)) (fronts cmp ms))
            ≡ one_if (passes may (cond c (Some m) (find sought ms)))
        by_test true is ih =
            ap
            (λ c. if may m
            && c then suc
            (how_many (λ m. may m && of_message m) (filter (λ n. not (same_pair cmp m n)) (fronts cmp ms))) else
            how_many (λ m. may m && of_message m) (filter (λ n. not (same_pair cmp m n)) (fronts cmp ms)))
            (of_is m ∙ is)
            ∙ one_more (may m) _
            (filter_many (λ n. not (same_pair cmp m n)) (λ n. may n && of_message n) (fronts cmp ms)
            ∙ never_many (λ n. not (same_pair cmp m n) && (may n && of_message n))
            (λ n. ap (λ c. not (same_pair cmp m n) && (may n && c)) (of_is n ∙ sym (of_pair_like is n))
            ∙ never (same_pair cmp m n) (may n))
            (fronts cmp ms))
          where
            one_more : (c : Bool) (n : ℕ) → n ≡ 0 → (if c && true then suc n else n) ≡ one_if c
            one_more true n z = ap suc z
            one_more false n z = z

            never : (c d : Bool) → (not c && (d && c)) ≡ false
            never true d = refl
            never false true = refl
            never false false = refl
        by_test false is ih =
            ap
            (λ c. if may m
            && c then suc
            (how_many (λ m. may m && of_message m) (filter (λ n. not (same_pair cmp m n)) (fronts cmp ms))) else
            how_many (λ m. may m && of_message m) (filter (λ n. not (same_pair cmp m n)) (fronts cmp ms)))
            (of_is m ∙ is)
            ∙ ap
            (λ c. if c then suc
            (how_many (λ m. may m && of_message m) (filter (λ n. not (same_pair cmp m n)) (fronts cmp ms))) else
            how_many (λ m. may m && of_message m) (filter (λ n. not (same_pair cmp m n)) (fronts cmp ms)))
            (and-false (may m))
            ∙ filter_many (λ n. not (same_pair cmp m n)) (λ n. may n && of_message n) (fronts cmp ms)
            ∙ same_many (λ n. not (same_pair cmp m n) && (may n && of_message n)) (λ n. may n && of_message n)
            (λ n. others (same_pair cmp m n) (may n) (of_message n) (λ h k. apart n h k)) (fronts cmp ms)
            ∙ ih
          where
            apart : (n : Message P) → same_pair cmp m n ≡ true → of_message n ≡ true → false ≡ true
            apart n h k =
                sym is ∙ sym (pair_sym cmp order m (record m { origin = a; recipient = b }))
                ∙ sym (pair_like cmp order m n (record m { origin = a; recipient = b }) h)
                ∙ pair_sym cmp order n (record m { origin = a; recipient = b }) ∙ sym (of_is n) ∙ k

            others : (c d f : Bool) → (c ≡ true → f ≡ true → false ≡ true) → (not c && (d && f)) ≡ (d && f)
            others false d f h = refl
            others true true true h = h refl refl
            others true true false h = refl
            others true false f h = refl

  -- ---- both together

  module _ (p : Planned P) (alike : PairsAlike cmp p.last_arrival p.last_arrival) (now : ℕ) where
    -- the first message of a pair may start by now if its moment has come
    may_by : (a b : P)
        → passes now a b (may_launch cmp now p) (first_of cmp p.waiting a b) ≡ has_come now (idle_from cmp p a b)
    may_by a b = by_parts (is_sending cmp p a b) (first_of cmp p.waiting a b) refl refl
      where
        by_parts : (c : Bool) (o : Option (Message P)) → is_sending cmp p a b ≡ c → first_of cmp p.waiting a b ≡ o
            → passes now a b (may_launch cmp now p) o
            ≡ has_come now
            (if c then None else option_map (λ (m : Message P). first_moment (p.last_arrival a b) m.latency) o)
        by_parts true None sends first = refl
        by_parts false None sends first = refl
        by_parts true (Some m) sends first =
            sym (may_from cmp order p alike a b m first now)
            ∙ ap (λ c. not c && nat_le (first_moment (p.last_arrival a b) m.latency) now) sends
        by_parts false (Some m) sends first =
            sym (may_from cmp order p alike a b m first now)
            ∙ ap (λ c. not c && nat_le (first_moment (p.last_arrival a b) m.latency) now) sends

    -- so it is told of the pair's first message
    pub may_first : (a b : P)
        → has_come now (idle_from cmp p a b) ≡ may_launch_first cmp now p (first_of cmp p.waiting a b)
    may_first a b = by_parts (is_sending cmp p a b) (first_of cmp p.waiting a b) refl refl
      where
        by_parts : (c : Bool) (o : Option (Message P)) → is_sending cmp p a b ≡ c → first_of cmp p.waiting a b ≡ o
            → has_come now
            (if c then None else option_map (λ (m : Message P). first_moment (p.last_arrival a b) m.latency) o)
            ≡ may_launch_first cmp now p o
        by_parts true None sends first = refl
        by_parts false None sends first = refl
        by_parts true (Some m) sends first =
            sym (ap (λ c. not c && nat_le (first_moment (p.last_arrival a b) m.latency) now) sends)
            ∙ may_from cmp order p alike a b m first now
        by_parts false (Some m) sends first =
            sym (ap (λ c. not c && nat_le (first_moment (p.last_arrival a b) m.latency) now) sends)
            ∙ may_from cmp order p alike a b m first now

    messages_due : (a b : P)
        → of_key (pair_cmp cmp) (pair_total cmp order) message_pair (a, b) (ready_messages cmp now p)
        ≡ one_if (has_come now (idle_from cmp p a b))
    messages_due a b =
        filter_many (may_launch cmp now p) (of_message now a b) (fronts cmp p.waiting)
        ∙ fronts_of now a b (may_launch cmp now p) p.waiting ∙ ap one_if (may_by a b)

    -- the keys of the pairs that are listed up to now, in the order of pairs, are those of the messages that may start
    pub ready_so : (since : P → P → Option ℕ) (keys : List (PeerPair P)) → AreInPairOrder cmp p.waiting
        → IsIndexOf cmp p since
        → are_ascending (pair_cmp cmp) (map pair_of_key keys) ≡ true
        → ((o r : P) → list_any (λ key. same_peer cmp o key.origin && same_peer cmp r key.recipient) keys
        ≡ has_come now (since o r))
        → AllZip (NamesPairOf cmp) keys (ready_messages cmp now p)
    ready_so since keys in_order index ascending ready =
        zip_weaker (λ k m. pair_cmp cmp (key_pair k) (message_pair m) ≡ Equal) (NamesPairOf cmp)
        (λ k m same. named k m same) keys (ready_messages cmp now p)
        (rising_same (pair_cmp cmp) (pair_total cmp order) key_pair message_pair keys (ready_messages cmp now p)
        (rising_ascending keys ascending)
        (rising_filter (may_launch cmp now p) (fronts cmp p.waiting) (rising_fronts p.waiting in_order))
        (λ q. ascending_once now q.0 q.1 keys ascending
        ∙ ap one_if (ready q.0 q.1 ∙ ap (has_come now) (index q.0 q.1))
        ∙ sym (messages_due q.0 q.1)))
      where
        named : (k : PeerPair P) (m : Message P) → pair_cmp cmp (key_pair k) (message_pair m) ≡ Equal
            → NamesPairOf cmp k m
        named k m same =
            let both : (same_peer cmp k.origin m.origin && same_peer cmp k.recipient m.recipient) ≡ true =
            sym (is_eq-then (cmp k.origin m.origin) (cmp k.recipient m.recipient)) ∙ ap is_eq same in
            record {
              origin = peer_sym cmp order m.origin k.origin ∙ first_of_both (same_peer cmp k.origin m.origin) _ both;
              recipient =
                  peer_sym cmp order m.recipient k.recipient ∙ second_of_both (same_peer cmp k.origin m.origin) _ both;
            }

        rising_ascending : (ks : List (PeerPair P)) → are_ascending (pair_cmp cmp) (map pair_of_key ks) ≡ true
            → is_rising (pair_cmp cmp) (pair_total cmp order) key_pair ks ≡ true
        rising_ascending [] h = refl
        rising_ascending (k ∷ ks) h =
            and_from _ _
            (not_lower ks (first_of_both (list_all (λ l. is_lt (pair_cmp cmp (pair_of_key k) l)) (map pair_of_key ks)) _ h))
            (rising_ascending ks
            (second_of_both (list_all (λ l. is_lt (pair_cmp cmp (pair_of_key k) l)) (map pair_of_key ks)) _ h))
          where
            not_lower : (ls : List (PeerPair P))
                → list_all (λ l. is_lt (pair_cmp cmp (pair_of_key k) l)) (map pair_of_key ls) ≡ true
                → list_all (λ l. not (is_lt (pair_cmp cmp (key_pair l) (key_pair k)))) ls ≡ true
            not_lower [] above = refl
            not_lower (l ∷ ls) above =
                and_from _ _
                (above_not (first_of_both (is_lt (pair_cmp cmp (pair_of_key k) (pair_of_key l))) _ above))
                (not_lower ls (second_of_both (is_lt (pair_cmp cmp (pair_of_key k) (pair_of_key l))) _ above))
              where
                above_not : is_lt (pair_cmp cmp (key_pair k) (key_pair l)) ≡ true
                    → not (is_lt (pair_cmp cmp (key_pair l) (key_pair k))) ≡ true
                above_not lower =
                    ap (λ o. not (is_lt o)) ((pair_total cmp order).antisymm (key_pair l) (key_pair k))
                    ∙ by_order (pair_cmp cmp (key_pair k) (key_pair l)) lower
                  where
                    by_order : (o : Ordering) → is_lt o ≡ true → not (is_lt (ordering_reverse o)) ≡ true
                    by_order Less h = refl
                    by_order Equal h = cc
                    by_order Greater h = cc
