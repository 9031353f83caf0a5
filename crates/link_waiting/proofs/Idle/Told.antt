-- What is told of pairs, as callers see it.
use Rattle.link_waiting.proofs.Common.{◌≡◌, ℕ, Bool, true, cond, ◌&&◌, List, map, Option, Some, None, refl, sym}
use Rattle.link_waiting.proofs.Common.{ap, ◌∙◌, subst, find, option_and_then, option_map, Ordering, IsTotalOrder}
use Rattle.link_waiting.proofs.Common.{eqb-true, by_bool, find_passes, same_peer, with_link, pair_like, pair_sym}
use Rattle.link_waiting.proofs.Common.{number_of_pair, Waiter, has_pair, has_number, is_of, AreNumbered, AreTold}
use Rattle.link_waiting.proofs.Common.{IsToldAnew, Told, told_of, since_of, moment_at, fun_ext}
use Rattle.peer_numbers.proofs.OrderedPairs.{same_number, other_pair}
use Rattle.link_waiting.proofs.Idle.Waiting.{one_of, find_map}
use Rattle.link_waiting.proofs.Idle.Numbered.{AreAlike, find_alike, find_false, of_number}

module _ {P : Type 0} (cmp : P → P → Ordering) (sinces : List (Option ℕ)) (ws : List (Waiter P)) where
  abbrev pub since_in : P → P → Option ℕ
  since_in = since_of cmp (map (told_of sinces) ws)

  -- what is told of the pair of the one that was found
  abbrev said : Option (Waiter P) → Option ℕ
  said = option_and_then (λ w. moment_at sinces w.pair)

  since_is : (o r : P) → since_in o r ≡ said (find (is_of cmp o r) ws)
  since_is o r = ap (option_and_then _) (find_map _ _ ws) ∙ through _
    where
      through : (o : Option (Waiter P))
          → option_and_then (λ (one : Told P). one.since) (option_map (told_of sinces) o) ≡ said o
      through None = refl
      through (Some w) = refl

  module _ (told : AreTold sinces ws) where
    -- it is what is told of the number of the pair
    pub since_alike : (o r : P) (number : Option ℕ) → AreAlike (is_of cmp o r) (has_number number) ws
        → since_in o r ≡ option_and_then (moment_at sinces) number
    since_alike o r number alike = since_is o r ∙ ap said (find_alike _ (has_number number) ws alike) ∙ by number
      where
        one : (pair : ℕ) (found : Option (Waiter P)) → find (has_pair pair) ws ≡ found → said found ≡ moment_at sinces pair
        one pair None e = sym (told.only pair e)
        one pair (Some w) e = ap (moment_at sinces) (eqb-true w.pair pair (find_passes _ w ws e))

        by : (number : Option ℕ) → said (find (has_number number) ws) ≡ option_and_then (moment_at sinces) number
        by None = ap said (find_false ws)
        by (Some pair) = one pair _ refl

    module _ (order : IsTotalOrder cmp) where
      pub since_numbered : (pairs : List (P × P)) → AreNumbered cmp pairs ws → (o r : P)
          → since_in o r ≡ option_and_then (moment_at sinces) (number_of_pair cmp pairs o r)
      since_numbered pairs numbered o r = since_alike o r _ (of_number cmp order pairs o r _ refl ws numbered)

      -- nothing is told of a pair of which none waits
      pub since_missing : (o r : P) → AreAlike (is_of cmp o r) (has_number None) ws
          → since_in ≡ with_link cmp since_in o r None
      since_missing o r alike = fun_ext (λ p. fun_ext (λ q. by_bool (same_peer cmp o p && same_peer cmp r q)
          (λ e. since_alike p q None (subst (λ (test : Waiter P → Bool). AreAlike test (has_number None) ws) (same_test p q e) alike)
          ∙ sym (ap (λ b. cond b None (since_in p q)) e))
          (λ e. sym (ap (λ b. cond b None (since_in p q)) e))))
        where
          same_test : (p q : P) → (same_peer cmp o p && same_peer cmp r q) ≡ true → is_of cmp o r ≡ is_of cmp p q
          same_test p q e =
              fun_ext (λ w. sym (pair_like cmp order (one_of cmp order o r) (one_of cmp order p q) w.message e))

module _ {P : Type 0} (cmp : P → P → Ordering) (order : IsTotalOrder cmp) (pairs : List (P × P))
    (old new : List (Option ℕ)) (ws more : List (Waiter P))
    (was : AreTold old ws) (numbered : AreNumbered cmp pairs ws)
    (told : AreTold new more) (all_numbered : AreNumbered cmp pairs more) where
  -- where the same is told by number
  pub since_same : ((at : ℕ) → moment_at new at ≡ moment_at old at) → since_in cmp new more ≡ since_in cmp old ws
  since_same same = fun_ext (λ p. fun_ext (λ q.
      since_numbered cmp new more told order pairs all_numbered p q
      ∙ ap (λ (moments : ℕ → Option ℕ). option_and_then moments (number_of_pair cmp pairs p q)) (fun_ext same)
      ∙ sym (since_numbered cmp old ws was order pairs numbered p q)))

  -- where another moment is told of a pair
  pub since_anew : (o r : P) (pair : ℕ) (moment : Option ℕ) → number_of_pair cmp pairs o r ≡ Some pair
      → IsToldAnew pair moment old new → since_in cmp new more ≡ with_link cmp (since_in cmp old ws) o r moment
  since_anew o r pair moment number anew = fun_ext (λ p. fun_ext (λ q.
      since_numbered cmp new more told order pairs all_numbered p q ∙ by p q (number_of_pair cmp pairs p q) refl
      ∙ ap (λ since. cond (same_peer cmp o p && same_peer cmp r q) moment since)
      (sym (since_numbered cmp old ws was order pairs numbered p q))))
    where
      by : (p q : P) (found : Option ℕ) → number_of_pair cmp pairs p q ≡ found
          → option_and_then (moment_at new) found
          ≡ cond (same_peer cmp o p && same_peer cmp r q) moment (option_and_then (moment_at old) found)
      by p q None e = sym (ap (λ b. cond b moment None)
          (pair_sym cmp order (one_of cmp order o r) (one_of cmp order p q) ∙ other_pair cmp order pairs p q o r pair e number))
      by p q (Some at) e =
          anew at ∙ ap (λ b. cond b moment (moment_at old at)) (same_number cmp order pairs o r p q pair at number e)
