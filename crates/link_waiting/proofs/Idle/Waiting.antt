-- What waits, as the messages in the order of pairs: the first of a pair, and the list without it.
use Rattle.link_waiting.proofs.Common.{◌≡◌, Bool, true, false, cond, ◌||◌, List, [], ◌∷◌, ◌++◌, map, refl, sym}
use Rattle.link_waiting.proofs.Common.{ap, ◌∙◌, slice_get, suc, ◌+◌, length, arith, filter, find, fold, list_any}
use Rattle.link_waiting.proofs.Common.{option_map, Ordering, IsTotalOrder, append-nil, by_bool, Each, each_map}
use Rattle.link_waiting.proofs.Common.{each_without, without_first, Message, pair_before, same_pair, AreInPairOrder}
use Rattle.link_waiting.proofs.Common.{queued, pair_like, first_of, Waiter, is_of, queue_of, or_parts}
use Rattle.std.proofs.Math.Bool.{or_comm, or_assoc}
use Rattle.std.proofs.lemmas.List.{append_assoc}
use Rattle.std.proofs.lemmas.List.Elements.{filter-append}
use Rattle.link_simulation.proofs.Rule.Enqueue.{queued_in_order, queued_last}
use Rattle.link_simulation.proofs.Rule.Waking.{each_none}
use Rattle.link_simulation.proofs.Simulation.FilteredFronts.{before_both}
use Rattle.link_simulation.proofs.Simulation.PairOrder.{apart_if_before}

-- ---- lists

module _ {X : Type 0} (test : X → Bool) where
  find_filter : (xs : List X) → find test xs ≡ slice_get (filter test xs) 0
  find_filter [] = refl
  find_filter (x ∷ xs) = grind (arith, (find_filter xs))

  without_none : (xs : List X) → list_any test xs ≡ false → without_first test xs ≡ xs
  without_none [] none = refl
  without_none (x ∷ xs) none = grind (arith, or_parts, (without_none xs))

pub find_map : {X Y : Type 0} (test : Y → Bool) (f : X → Y) (xs : List X)
    → find test (map f xs) ≡ option_map f (find (λ x. test (f x)) xs)
find_map test f [] = refl
find_map test f (x ∷ xs) = grind (arith, (find_map test f xs))

module _ {P : Type 0} (cmp : P → P → Ordering) (order : IsTotalOrder cmp) where
  -- those that waited before, and then these
  abbrev joined : List (Message P) → List (Waiter P) → List (Message P)
  joined messages waiters = fold (λ messages waiter. queued cmp waiter.message messages) messages waiters

  in_order_from : (ms : List (Message P)) (ws : List (Waiter P)) → AreInPairOrder cmp ms → AreInPairOrder cmp (joined ms ws)
  in_order_from ms [] h = h
  in_order_from ms (w ∷ ws) h = in_order_from (queued cmp w.message ms) ws (queued_in_order cmp order w.message ms h)

  -- what waits stands in the order of pairs
  pub in_pair_order : (ws : List (Waiter P)) → AreInPairOrder cmp (queue_of cmp ws)
  in_pair_order ws = in_order_from [] ws tt

  -- ---- the messages of a pair

  module _ (k : Message P) where
    abbrev of : Message P → Bool
    of = same_pair cmp k

    those_from : (ms : List (Message P)) (ws : List (Waiter P)) → AreInPairOrder cmp ms
        → filter of (joined ms ws) ≡ filter of ms ++ filter of (map (λ w. w.message) ws)
    those_from ms [] h = sym (append-nil (filter of ms))
    those_from ms (w ∷ ws) h =
        those_from (queued cmp w.message ms) ws (queued_in_order cmp order w.message ms h)
        ∙ ap (λ l. l ++ filter of (map (λ w. w.message) ws)) (queued_last cmp order k w.message ms h)
        ∙ append_assoc (filter of ms) (filter of (w.message ∷ [])) (filter of (map (λ w. w.message) ws))
        ∙ ap (λ l. filter of ms ++ l) (sym (filter-append of (w.message ∷ []) (map (λ w. w.message) ws)))

    first_is : (ws : List (Waiter P))
        → find of (queue_of cmp ws) ≡ option_map (λ w. w.message) (find (λ w. of w.message) ws)
    first_is ws =
        find_filter of (queue_of cmp ws) ∙ ap (λ l. slice_get l 0) (those_from [] ws tt)
        ∙ sym (find_filter of (map (λ w. w.message) ws)) ∙ find_map of (λ w. w.message) ws

    -- ---- without the first one of the pair

    all_after : (m n : Message P) (ns : List (Message P)) → pair_before cmp m n ≡ true
        → list_any (λ z. pair_before cmp z n) ns ≡ false → Each (λ z. pair_before cmp m z ≡ true) (n ∷ ns)
    all_after m n ns before none = (
      before,
      each_map (λ z. pair_before cmp z n ≡ false) (λ z. pair_before cmp m z ≡ true) ns
          (λ z k. before_both cmp order m n z before k) (each_none (λ z. pair_before cmp z n) ns none),
    )

    queued_front : (m : Message P) (ns : List (Message P)) → Each (λ z. pair_before cmp m z ≡ true) ns
        → queued cmp m ns ≡ m ∷ ns
    queued_front m [] after = refl
    queued_front m (n ∷ ns) after = ap (λ b. cond b (m ∷ n ∷ ns) (n ∷ queued cmp m ns)) after.0

    none_of : (m : Message P) (ns : List (Message P)) → of m ≡ true → Each (λ z. pair_before cmp m z ≡ true) ns
        → list_any of ns ≡ false
    none_of m [] e after = refl
    none_of m (n ∷ ns) e after =
        let other : of n ≡ false = sym (pair_like cmp order k m n e) ∙ apart_if_before cmp order m n after.0 in
        ap (λ b. b || list_any of ns) other ∙ none_of m ns e after.1

    any_joined : (m : Message P) (ms : List (Message P)) → list_any of (queued cmp m ms) ≡ (list_any of ms || of m)
    any_joined m [] = or_comm (of m) false
    any_joined m (n ∷ ns) = grind (arith, or_comm, or_assoc, (any_joined m ns))

    -- it stays behind the others
    without_stays : (m : Message P) (ms : List (Message P)) → AreInPairOrder cmp ms → list_any of ms ≡ true
        → without_first of (queued cmp m ms) ≡ queued cmp m (without_first of ms)
    without_stays m [] h any = cc
    without_stays m (n ∷ ns) h any = by_bool _ (λ e. first e (all_after m n ns e h.0))
        (λ e. grind (arith, e, any, (without_stays m ns h.1)))
      where
        first : pair_before cmp m n ≡ true → Each (λ z. pair_before cmp m z ≡ true) (n ∷ ns)
            → without_first of (queued cmp m (n ∷ ns)) ≡ queued cmp m (without_first of (n ∷ ns))
        first e after = by_bool (of m) (λ is. let none : list_any of (n ∷ ns) ≡ false = none_of m (n ∷ ns) is after in
            let no : true ≡ false = sym any ∙ none in cc)
            (λ other. grind (
              arith,
              e,
              other,
              queued_front m (without_first of (n ∷ ns))
                  (each_without (λ z. pair_before cmp m z ≡ true) of (n ∷ ns) after),
            ))

    -- it is the only one
    without_it : (m : Message P) (ms : List (Message P)) → list_any of ms ≡ false → of m ≡ true
        → without_first of (queued cmp m ms) ≡ ms
    without_it m [] none is = ap (λ b. cond b [] (m ∷ [])) is
    without_it m (n ∷ ns) none is = grind (arith, or_parts, (without_it m ns))

    without_before : (ms : List (Message P)) (ws : List (Waiter P)) → AreInPairOrder cmp ms → list_any of ms ≡ true
        → without_first of (joined ms ws) ≡ joined (without_first of ms) ws
    without_before ms [] h any = refl
    without_before ms (w ∷ ws) h any =
        without_before (queued cmp w.message ms) ws (queued_in_order cmp order w.message ms h)
        (any_joined w.message ms ∙ ap (λ b. b || of w.message) any)
        ∙ ap (λ l. joined l ws) (without_stays w.message ms h any)

    without_after : (ms : List (Message P)) (ws : List (Waiter P)) → AreInPairOrder cmp ms → list_any of ms ≡ false
        → without_first of (joined ms ws) ≡ joined ms (without_first (λ w. of w.message) ws)
    without_after ms [] h none = without_none of ms none
    without_after ms (w ∷ ws) h none =
        let more : AreInPairOrder cmp (queued cmp w.message ms) = queued_in_order cmp order w.message ms h in
        let any : list_any of (queued cmp w.message ms) ≡ of w.message =
        any_joined w.message ms ∙ ap (λ b. b || of w.message) none in
        by_bool _ (λ is. without_before _ ws more (any ∙ is) ∙ ap (λ l. joined l ws) (without_it w.message ms none is) ∙
        sym (ap (λ b. joined ms (cond b ws (w ∷ without_first (λ w. of w.message) ws))) is))
        (λ other. without_after (queued cmp w.message ms) ws more (any ∙ other) ∙ sym
        (ap (λ b. joined ms (cond b ws (w ∷ without_first (λ w. of w.message) ws))) other))

  module _ (origin recipient : P) where
    -- some message of that pair
    abbrev pub one_of : Message P
    one_of = record { origin = origin; recipient = recipient; channel = 0; bytes = []; latency = 0; should_deliver = false }

    -- the first one of a pair, as they came
    pub first_waits : (ws : List (Waiter P)) → first_of cmp (queue_of cmp ws) origin recipient
        ≡ option_map (λ w. w.message) (find (is_of cmp origin recipient) ws)
    first_waits = first_is one_of

    -- and the others
    pub without_waits : (ws : List (Waiter P))
        → queue_of cmp (without_first (is_of cmp origin recipient) ws)
        ≡ without_first (same_pair cmp one_of) (queue_of cmp ws)
    without_waits ws = sym (without_after one_of [] ws tt refl)

-- as many messages as waiters
module _ {P : Type 0} (cmp : P → P → Ordering) where
  one_queued : (m : Message P) (ms : List (Message P)) → length (queued cmp m ms) ≡ suc (length ms)
  one_queued m [] = refl
  one_queued m (n ∷ ns) = grind (arith, (one_queued m ns))

  all_queued : (ms : List (Message P)) (ws : List (Waiter P))
      → length (fold (λ messages waiter. queued cmp waiter.message messages) ms ws) ≡ length ms + length ws
  all_queued ms [] = omega arith
  all_queued ms (w ∷ ws) = all_queued (queued cmp w.message ms) ws ∙ omega (arith, one_queued w.message ms)

  pub queue_length : (ws : List (Waiter P)) → length (queue_of cmp ws) ≡ length ws
  queue_length ws = all_queued [] ws ∙ omega arith
