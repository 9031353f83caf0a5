-- Going once through the pairs that are ready, in their order, is picking the least pair again and again.
use Rattle.link_simulation.proofs.Common.{arith, ◌≡◌, ℕ, List, [], ◌∷◌, Bool, true, false, not, Option, Some, None}
use Rattle.link_simulation.proofs.Common.{refl, sym, ◌∙◌, subst, ◌⊎◌, inl, inr, ⊤, if◌then◌else◌, filter, find}
use Rattle.link_simulation.proofs.Common.{Ordering, IsTotalOrder, not-true, World, fronts, least_pair, may_start, ready}
use Rattle.link_simulation.proofs.Common.{Message, SameMessage, pair_before, same_pair, AreInPairOrder, Planned}
use Rattle.link_simulation.proofs.Common.{SomeReadyAt, may_launch, next_of, Tallies, Each, each_map, each_filtered}
use Rattle.link_simulation.proofs.Common.{by_bool}
use Rattle.link_simulation.proofs.Rule.BeforeNext.{fronts_first, first_found, may_alike, messages_alike}
use Rattle.std.proofs.lemmas.Bool.{not_from_false}
use Rattle.link_simulation.proofs.Simulation.Queue.{pair_sym, find_passes}
use Rattle.link_simulation.proofs.Simulation.AlikeMessages.{pair_itself, message_itself, pairs_alike}
use Rattle.link_simulation.proofs.Simulation.SettlingEnds.{find_like}
use Rattle.link_simulation.proofs.Rule.Launch.{OptionsAlike, next_alike}
use Rattle.link_simulation.proofs.Simulation.OnePair.{apart}
use Rattle.link_simulation.proofs.Rule.Waking.{Picks, each_none}
use Rattle.link_simulation.proofs.Laws.Bytes.{each_least}
use Rattle.link_simulation.proofs.Simulation.PairOrder.{before_if_not, apart_if_before}
use Rattle.link_simulation.proofs.Simulation.FilteredFronts.{none_below}

-- ---- lists

-- Q holds of some
abbrev pub Somewhere : {X : Type 0} → (X → Type 0) → List X → Type 0
Somewhere Q [] = ⊥
Somewhere Q (x ∷ xs) = Q x ⊎ Somewhere Q xs

pub some_map : {X : Type 0} (Q R : X → Type 0) (xs : List X) → ((x : X) → Q x → R x) → Somewhere Q xs → Somewhere R xs
some_map Q R [] f h = absurd h
some_map Q R (x ∷ xs) f (inl q) = inl (f x q)
some_map Q R (x ∷ xs) f (inr h) = inr (some_map Q R xs f h)

pub some_filtered : {X : Type 0} (Q : X → Type 0) (test : X → Bool) (xs : List X)
    → Somewhere (λ x. Q x × (test x ≡ true)) xs → Somewhere Q (filter test xs)
some_filtered Q test [] h = absurd h
some_filtered Q test (x ∷ xs) (inl q) = rw q.1 (inl q.0)
some_filtered {X} Q test (x ∷ xs) (inr h) = grind (arith, (some_filtered Q test xs h))

-- what holds of each holds of the one that is found
some_each : {X : Type 0} (Q R : X → Type 0) (xs : List X) → Each Q xs → Somewhere R xs → (x : X) × Q x × R x
some_each Q R [] e h = absurd h
some_each Q R (x ∷ xs) e (inl r) = (x, e.0, r)
some_each Q R (x ∷ xs) e (inr h) = some_each Q R xs e.1 h

pub each_in_filter : {X : Type 0} (Q : X → Type 0) (test : X → Bool) (xs : List X) → Each Q xs → Each Q (filter test xs)
each_in_filter Q test [] h = tt
each_in_filter {X} Q test (x ∷ xs) h = grind (arith, (each_in_filter Q test xs))

module _ {P : Type 0} (cmp : P → P → Ordering) (order : IsTotalOrder cmp) where
  -- ---- the order of pairs

  pub before_alike : (m n k l : Message P) → SameMessage cmp m n → SameMessage cmp k l
      → pair_before cmp m k ≡ pair_before cmp n l
  before_alike m n k l f g = grind arith

  -- ---- the least pair

  least_some : (x : Message P) (xs : List (Message P)) → (y : Message P) × (least_pair cmp (x ∷ xs) ≡ Some y)
  least_some x xs = (elim (least_pair cmp xs) [ None ↦ x | Some n ↦ if pair_before cmp n x then n else x ], refl)

  -- ---- a list in the order of pairs

  abbrev pub IsSorted : List (Message P) → Type 0
  IsSorted [] = ⊤
  IsSorted (m ∷ ms) = Each (λ n. pair_before cmp m n ≡ true) ms × IsSorted ms

  sorted_filter : (test : Message P → Bool) (ms : List (Message P)) → IsSorted ms → IsSorted (filter test ms)
  sorted_filter test [] h = tt
  sorted_filter test (m ∷ ms) h = grind (arith, each_in_filter, (sorted_filter test ms))

  each_front : (Q : Message P → Type 0) (ms : List (Message P)) → Each Q ms → Each Q (fronts cmp ms)
  each_front Q [] h = tt
  each_front Q (m ∷ ms) h = (h.0, each_in_filter Q (λ n. not (same_pair cmp m n)) (fronts cmp ms) (each_front Q ms h.1))

  pub fronts_sorted : (ms : List (Message P)) → AreInPairOrder cmp ms → IsSorted (fronts cmp ms)
  fronts_sorted [] h = tt
  fronts_sorted (m ∷ ms) h = (
    each_map (λ n. (pair_before cmp n m ≡ false) × (not (same_pair cmp m n) ≡ true)) (λ n. pair_before cmp m n ≡ true)
        (filter (λ n. not (same_pair cmp m n)) (fronts cmp ms))
        (λ n k. before_if_not cmp order m n k.0 (not-true (same_pair cmp m n) k.1))
        (each_filtered (λ n. pair_before cmp n m ≡ false) (λ n. not (same_pair cmp m n)) (fronts cmp ms)
        (each_front (λ n. pair_before cmp n m ≡ false) ms (each_none (λ n. pair_before cmp n m) ms h.0))),
    sorted_filter (λ n. not (same_pair cmp m n)) (fronts cmp ms) (fronts_sorted ms h.1),
  )

  abbrev pub HasIn : List (Message P) → Message P → Type 0
  HasIn xs m = Somewhere (λ y. SameMessage cmp m y) xs

  abbrev pub IsAmong : List (Message P) → Message P → Type 0
  IsAmong ms y = Somewhere (λ m. SameMessage cmp m y) ms

  -- a sorted list with the same pairs picks them in order
  pub picks_from : (ms xs : List (Message P)) → IsSorted ms → Each (IsAmong ms) xs → Each (HasIn xs) ms
      → Picks cmp order xs ms
  picks_from [] [] sorted among has = refl
  picks_from [] (x ∷ xs) sorted among has = absurd among.0
  picks_from (m ∷ ms) [] sorted among has = absurd has.0
  picks_from (m ∷ ms) (x ∷ xs) sorted among has = (y, least, own, picks_from ms _ sorted.1 among_rest has_rest)
    where
      y : Message P
      y = (least_some x xs).0

      least : least_pair cmp (x ∷ xs) ≡ Some y
      least = (least_some x xs).1

      by_place : SameMessage cmp m y ⊎ IsAmong ms y → SameMessage cmp m y
      by_place (inl same) = same
      by_place (inr rest) =
          let later = some_each _ _ ms sorted.0 rest in
          let there = some_each _ _ (x ∷ xs) (none_below cmp order (x ∷ xs) y least) has.0 in
          let same = before_alike m there.0 later.0 y there.2 later.2 in
          absurd (differ (sym later.1 ∙ same ∙ there.1))
        where
          differ : true ≡ false → ⊥
          differ e = cc

      own : SameMessage cmp m y
      own = by_place (each_least cmp order _ (x ∷ xs) y among least)

      among_rest : Each (IsAmong ms) (filter (apart cmp order y) (x ∷ xs))
      among_rest = grind (arith, each_map, each_filtered, apart, y, pairs_alike, own, pair_itself, same_pair, not-true)

      has_rest : Each (HasIn (filter (apart cmp order y) (x ∷ xs))) ms
      has_rest = each_map _ _ ms (λ n k. stays n k.0 k.1) (each_both _ _ ms has.1 sorted.0)
        where
          each_both : (Q R : Message P → Type 0) (ns : List (Message P)) → Each Q ns → Each R ns
              → Each (λ n. Q n × R n) ns
          each_both Q R [] f g = tt
          each_both Q R (n ∷ ns) f g = ((f.0, g.0), each_both Q R ns f.1 g.1)

          stays : (n : Message P) → HasIn (x ∷ xs) n → pair_before cmp m n ≡ true
              → HasIn (filter (apart cmp order y) (x ∷ xs)) n
          stays n has before = some_filtered _ _ (x ∷ xs)
              (some_map _ _ (x ∷ xs)
              (λ z same. (
                same,
                not_from_false _
                    (sym (pairs_alike cmp order m y n z own same) ∙ apart_if_before cmp order m n before),
              )) has)

  -- ---- who is ready in the one world is ready in the other

  pub in_fronts : (Q : Message P → Type 0) (x : Message P) (ws : List (Message P)) → find (same_pair cmp x) ws ≡ Some x
      → Q x → Somewhere Q (fronts cmp ws)
  in_fronts Q x [] e q = cc
  in_fronts Q x (z ∷ ws) e q =
      by_bool (same_pair cmp x z) (λ is. let same : x ≡ z = cc in inl (subst Q same q))
      (λ is. inr (some_filtered Q (λ n. not _) _ ((in_fronts (λ n. Q n × (not _ ≡ true)) x ws) (rw is at e)
      (q, not_from_false _ (pair_sym cmp order z x ∙ is)))))

  alike_some : (o : Option (Message P)) (x : Message P) → OptionsAlike (SameMessage cmp) (Some x) o
      → (y : Message P) × (o ≡ Some y) × SameMessage cmp x y
  alike_some None x h = absurd h
  alike_some (Some y) x h = (y, refl, h)

  alike_some_back : (o : Option (Message P)) (y : Message P) → OptionsAlike (SameMessage cmp) o (Some y)
      → (x : Message P) × (o ≡ Some x) × SameMessage cmp x y
  alike_some_back None y h = absurd h
  alike_some_back (Some x) y h = (x, refl, h)

  found_own : (m x : Message P) (ws : List (Message P)) → find (same_pair cmp m) ws ≡ Some x
      → find (same_pair cmp x) ws ≡ Some x
  found_own m x ws e = find_like cmp order m x ws (find_passes (same_pair cmp m) x ws e) ∙ e

  pub in_ready : (t : ℕ) (p : Planned P) (w : World P) (m : Message P) → Tallies cmp t p w → next_of cmp p m ≡ Some m
      → may_launch cmp t p m ≡ true → HasIn (ready cmp t w) m
  in_ready t p w m same next may =
      let there = alike_some _ m (subst (λ (o : Option (Message P)). OptionsAlike (SameMessage cmp) o
      (find (same_pair cmp m) w.waiting)) next (next_alike cmp order t p w m m same (message_itself cmp order m))) in
      let may_too = sym (may_alike cmp order t p w m there.0 same.last_arrival
      (messages_alike cmp order t p.sending w.sending same.sending) there.2) ∙ may in
      some_filtered _ _ _ (in_fronts _ there.0 w.waiting (found_own m there.0 w.waiting there.1) (there.2, may_too))

  in_launching : (t : ℕ) (p : Planned P) (w : World P) (y : Message P) → Tallies cmp t p w
      → find (same_pair cmp y) w.waiting ≡ Some y → may_start cmp t w y ≡ true
      → IsAmong (filter (may_launch cmp t p) (fronts cmp p.waiting)) y
  in_launching t p w y same next may =
      let there = alike_some_back _ y (subst (λ (o : Option (Message P)). OptionsAlike (SameMessage cmp)
      (next_of cmp p y) o) next (next_alike cmp order t p w y y same (message_itself cmp order y))) in
      let may_too = may_alike cmp order t p w there.0 y same.last_arrival
      (messages_alike cmp order t p.sending w.sending same.sending) there.2 ∙ may in
      some_filtered _ _ _ (in_fronts _ there.0 p.waiting (found_own y there.0 p.waiting there.1) (there.2, may_too))

  -- the pairs that the planned world finds ready are those that the world picks, in this order
  pub picks_ready : (t : ℕ) (p : Planned P) (w : World P) → Tallies cmp t p w
      → Picks cmp order (ready cmp t w) (filter (may_launch cmp t p) (fronts cmp p.waiting))
  picks_ready t p w same =
      picks_from _ _ (sorted_filter _ _ (fronts_sorted p.waiting same.pair_order))
      (each_map _ _ _ (λ y k. in_launching t p w y same (first_found cmp order _ y k.0.0 w.waiting k.0.1) k.1)
      (each_filtered _ _ _ (fronts_first cmp order w.waiting))) (each_map _ (HasIn _) _
      (λ m k. in_ready t p w m same (first_found cmp order _ m k.0.0 p.waiting k.0.1) k.1)
      (each_filtered _ _ _ (fronts_first cmp order p.waiting)))

  -- where nothing is ready in the world, nothing is in the planned world
  pub none_ready_back : (t : ℕ) (p : Planned P) (w : World P) → Tallies cmp t p w → ready cmp t w ≡ []
      → ¬ SomeReadyAt cmp p t
  none_ready_back t p w same none some = grind (arith, in_ready)
