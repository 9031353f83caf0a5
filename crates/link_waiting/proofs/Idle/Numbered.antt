-- The numbers of the pairs of what waits: who has the number of a pair is of it.
use Rattle.link_waiting.proofs.Common.{◌≡◌, ℕ, Bool, cond, List, [], ◌∷◌, ◌++◌, Option, Some, None}
use Rattle.link_waiting.proofs.Common.{refl, sym, ap, ◌∙◌, find, Ordering, IsTotalOrder, Each, each_of_all}
use Rattle.link_waiting.proofs.Common.{all_of_each, each_without, each_map, without_first, number_of_pair, Waiter}
use Rattle.link_waiting.proofs.Common.{has_number, is_of, AreNumbered, All-weaker, All-push}
use Rattle.peer_numbers.specs.Pairs.{IsWithPair}
use Rattle.peer_numbers.proofs.OrderedPairs.{same_number, other_pair, number_stays}

-- ---- tests that say the same of a list

module _ {P : Type 0} (p q : Waiter P → Bool) where
  abbrev pub AreAlike : List (Waiter P) → Type 0
  AreAlike = Each (λ w. p w ≡ q w)

  pub find_alike : (ws : List (Waiter P)) → AreAlike ws → find p ws ≡ find q ws
  find_alike [] h = refl
  find_alike (w ∷ ws) h =
      ap (λ b. cond b (Some w) (find p ws)) h.0 ∙ ap (λ o. cond (q w) (Some w) o) (find_alike ws h.1)

  pub without_alike : (ws : List (Waiter P)) → AreAlike ws → without_first p ws ≡ without_first q ws
  without_alike [] h = refl
  without_alike (w ∷ ws) h =
      ap (λ b. cond b ws (w ∷ without_first p ws)) h.0 ∙ ap (λ l. cond (q w) ws (w ∷ l)) (without_alike ws h.1)

module _ {P : Type 0} where
  pub find_false : (ws : List (Waiter P)) → find (has_number None) ws ≡ None
  find_false [] = refl
  find_false (w ∷ ws) = find_false ws

-- ---- numbers

module _ {P : Type 0} (cmp : P → P → Ordering) (order : IsTotalOrder cmp) (pairs : List (P × P)) where
  abbrev IsNumbered : Waiter P → Type 0
  IsNumbered w = number_of_pair cmp pairs w.message.origin w.message.recipient ≡ Some w.pair

  -- the test by number says the same as that by pair
  pub of_number : (o r : P) (number : Option ℕ) → number_of_pair cmp pairs o r ≡ number → (ws : List (Waiter P))
      → AreNumbered cmp pairs ws → AreAlike (is_of cmp o r) (has_number number) ws
  of_number o r number e ws numbered = each_map _ _ ws (one number e) (each_of_all IsNumbered ws numbered)
    where
      one : (number : Option ℕ) → number_of_pair cmp pairs o r ≡ number → (w : Waiter P)
          → number_of_pair cmp pairs w.message.origin w.message.recipient ≡ Some w.pair
          → is_of cmp o r w ≡ has_number number w
      one None e w h = other_pair cmp order pairs o r w.message.origin w.message.recipient w.pair e h
      one (Some n) e w h = sym (same_number cmp order pairs o r w.message.origin w.message.recipient n w.pair e h)

  pub numbered_without : (test : Waiter P → Bool) (ws : List (Waiter P)) → AreNumbered cmp pairs ws
      → AreNumbered cmp pairs (without_first test ws)
  numbered_without test ws h = all_of_each IsNumbered _ (each_without IsNumbered test ws (each_of_all IsNumbered ws h))

  pub numbered_more : (o r : P) (new : List (P × P)) → IsWithPair cmp pairs o r new → (ws : List (Waiter P))
      → AreNumbered cmp pairs ws → AreNumbered cmp new ws
  numbered_more o r new with ws h =
      All-weaker _ _ (λ w e. number_stays cmp pairs o r new with w.message.origin w.message.recipient w.pair e) ws h

  pub numbered_added : (w : Waiter P) → number_of_pair cmp pairs w.message.origin w.message.recipient ≡ Some w.pair
      → (ws : List (Waiter P)) → AreNumbered cmp pairs ws → AreNumbered cmp pairs (ws ++ w ∷ [])
  numbered_added w e ws h = All-push IsNumbered ws w h e
