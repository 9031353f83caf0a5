-- Where no message of any pair is lost or doubled, none is in number.
use Rattle.link_simulation.proofs.Common.{◌≡◌, ℕ, zero, suc, ◌+◌, ◌≤◌, List, [], ◌∷◌, ◌++◌, length, Bool, true, false}
use Rattle.link_simulation.proofs.Common.{cond, not, refl, subst, arith, length-append, filter, AllZip, Ordering}
use Rattle.link_simulation.proofs.Common.{IsTotalOrder, filter-append, Message, SameMessage, same_pair, Completed}
use Rattle.link_simulation.proofs.Common.{IsCompletionOf, Planned, rated_messages, of_pair, IsConserved, zip-length}
use Rattle.link_simulation.proofs.Simulation.Queue.{pair_sym, pair_like}
use Rattle.link_simulation.proofs.Simulation.AlikeMessages.{pair_itself}
use Rattle.link_simulation.proofs.Laws.MostEvents.{split_length, map_length}

module _ {P : Type 0} (cmp : P → P → Ordering) (order : IsTotalOrder cmp) where
  -- those of other pairs
  abbrev others_than : Message P → List (Message P) → List (Message P)
  others_than m ms = filter (λ n. not (same_pair cmp m n)) ms

  -- of the pair itself none is left, and of another pair all
  of_others : (k m : Message P) (ms : List (Message P))
      → of_pair cmp k (others_than m ms) ≡ cond (same_pair cmp m k) [] (of_pair cmp k ms)
  of_others k m ms = by_pair (same_pair cmp m k) refl ms
    where
      by_pair : (b : Bool) → same_pair cmp m k ≡ b → (ms : List (Message P))
          → of_pair cmp k (others_than m ms) ≡ cond b [] (of_pair cmp k ms)
      by_pair true own [] = refl
      by_pair false off [] = refl
      by_pair true own (n ∷ ms) = grind (arith, pair_like, (by_pair true own ms))
      by_pair false off (n ∷ ms) = grind (arith, pair_sym, pair_like, (by_pair false off ms))

  -- two lists with the same messages of each pair are as long as each other
  abbrev AreAlike : List (Message P) → List (Message P) → Type 0
  AreAlike ms ns = (k : Message P) → AllZip (SameMessage cmp) (of_pair cmp k ms) (of_pair cmp k ns)

  own_there : (m : Message P) (ms : List (Message P)) → of_pair cmp m (m ∷ ms) ≡ m ∷ of_pair cmp m ms
  own_there m ms = rw (pair_itself cmp order m) refl

  without_own : (m : Message P) (ms : List (Message P)) → others_than m (m ∷ ms) ≡ others_than m ms
  without_own m ms = rw (pair_itself cmp order m) refl

  others_alike : (m : Message P) (ms ns : List (Message P)) → AreAlike ms ns
      → AreAlike (others_than m ms) (others_than m ns)
  others_alike m ms ns alike k = grind (arith, of_others)

  shorter : (test : Message P → Bool) (ms : List (Message P)) → length (filter test ms) ≤ length ms
  shorter test ms = let both = split_length test ms in omega arith

  as_long : (most : ℕ) (ms ns : List (Message P)) → length ms ≤ most → AreAlike ms ns → length ms ≡ length ns
  as_long most [] [] le alike = refl
  as_long most [] (n ∷ ns) le alike =
      absurd (subst (λ (ys : List (Message P)). AllZip (SameMessage cmp) [] ys) (own_there n ns) (alike n))
  as_long zero (m ∷ ms) ns le alike = absurd (omega arith)
  as_long (suc most) (m ∷ ms) ns le alike =
      grind (
        arith,
        without_own,
        shorter,
        others_alike,
        zip-length,
        split_length,
        (as_long most (others_than m (m ∷ ms))
            (others_than m ns) (grind (arith, without_own, shorter)) (others_alike m (m ∷ ms) ns alike)),
      )

  pub all_counted : (p q : Planned P) (messages : List (Message P)) (cs : List (Completed P))
      → IsConserved cmp p messages cs q
      → length cs + length q.sending + length q.waiting ≡ length p.sending + length p.waiting + length messages
  all_counted p q messages cs a =
      let same = as_long (length (a.done ++ (rated_messages q.sending ++ q.waiting))) _ _ (omega arith) alike in
      let told : length cs ≡ length a.done = zip-length IsCompletionOf cs a.done a.completions_are in
      let left = length-append a.done (rated_messages q.sending ++ q.waiting) in
      let held = length-append (rated_messages q.sending) q.waiting in
      let right = length-append (rated_messages p.sending ++ p.waiting) messages in
      let before = length-append (rated_messages p.sending) p.waiting in
      let sent : length (rated_messages p.sending) ≡ length p.sending = map_length cmp order p.sending in
      let sends : length (rated_messages q.sending) ≡ length q.sending = map_length cmp order q.sending in
      omega arith
    where
      alike : AreAlike (a.done ++ (rated_messages q.sending ++ q.waiting))
          ((rated_messages p.sending ++ p.waiting) ++ messages)
      alike k = grind (arith, filter-append)
