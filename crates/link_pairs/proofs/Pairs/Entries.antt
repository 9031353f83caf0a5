-- What is known of pairs: look-ups of equal pairs, and what one more change says.
use Rattle.std.proofs.Common.{◌≡◌, ℕ, true, ◌&&◌, List, Option, Some, None, refl, ◌∙◌, ap}
use Rattle.std.specs.declared.cmp.Ordering.{Ordering}
use Rattle.std.specs.Ordering.{is_eq}
use Rattle.std.specs.Cmp.{IsTotalOrder}
use Rattle.std.proofs.lemmas.Bool.{and_from}
use Rattle.fairness.proofs.Lists.Booleans.{by_bool, first_of_both, second_of_both}
use Rattle.fairness.specs.Lists.Sorted.{value_at}
use Rattle.fairness.specs.Sides.Subjects.{same_peer}
use Rattle.link_simulation.specs.Simulation.Messages.{with_link, PairsAlike}
use Rattle.link_simulation.specs.Simulation.World.{later_of}
use Rattle.link_pairs.specs.Pairs.Entries.{Pair, pair_cmp, key_of, link_of, arrival_of, raised_at}
use Rattle.fairness.proofs.Lists.Sorted.{is_eq_equal, value_respects}
use Rattle.link_pairs.proofs.Pairs.PairOrder.{pair_total, is_eq-then}

module _ {P : Type 0} (cmp : P → P → Ordering) (total : IsTotalOrder cmp) where
  -- the clones of two peers are a pair that is equal to theirs
  pub same_key : (o r p q : P) → same_peer cmp o p ≡ true → same_peer cmp r q ≡ true
      → is_eq (pair_cmp cmp (p, q) (o, r)) ≡ true
  same_key o r p q same_origin same_recipient =
      let equal : is_eq (pair_cmp cmp (o, r) (p, q)) ≡ true =
      is_eq-then (cmp o p) (cmp r q) ∙ and_from _ _ same_origin same_recipient in
      rw ((pair_total cmp total).antisymm (p, q) (o, r), is_eq_equal _ equal) refl

  -- where of equal pairs the same is known, what is known of one may be said of it again
  pub link_again : (f : P → P → Option ℕ) → PairsAlike cmp f f → (o r : P) → with_link cmp f o r (f o r) ≡ f
  link_again f alike o r = λ i a b. there a b i
    where
      there : (a b : P) → with_link cmp f o r (f o r) a b ≡ f a b
      there a b = by_bool (same_peer cmp o a && same_peer cmp r b)
          (λ t. rw t (alike o a r b (first_of_both (same_peer cmp o a) _ t) (second_of_both (same_peer cmp o a) _ t)))
          (λ t. rw t refl)

  pub link_raised : (f : P → P → Option ℕ) → PairsAlike cmp f f → (o r : P) (moment : ℕ)
      → with_link cmp f o r (Some (later_of (f o r) moment)) ≡ raised_at cmp f o r moment
  link_raised f alike o r moment = λ i a b. there a b i
    where
      there : (a b : P) → with_link cmp f o r (Some (later_of (f o r) moment)) a b ≡ raised_at cmp f o r moment a b
      there a b = by_bool (same_peer cmp o a && same_peer cmp r b)
          (λ t. rw t
          (ap (λ v. Some (later_of v moment))
          (alike o a r b (first_of_both (same_peer cmp o a) _ t) (second_of_both (same_peer cmp o a) _ t))))
          (λ t. rw t refl)

  -- of equal pairs the same is known
  pub parts_alike : (value : Pair P → Option ℕ) (es : List (Pair P))
      → PairsAlike cmp (λ o r. value_at (pair_cmp cmp) key_of value None es (o, r))
      (λ o r. value_at (pair_cmp cmp) key_of value None es (o, r))
  parts_alike value es p q r s same_p same_r =
      value_respects (pair_cmp cmp) (pair_total cmp total) key_of value None es (p, r) (q, s)
      (is_eq_equal _ (is_eq-then (cmp p q) (cmp r s) ∙ and_from _ _ same_p same_r))

  pub links_alike : (es : List (Pair P)) → PairsAlike cmp (link_of cmp es) (link_of cmp es)
  links_alike es = parts_alike (λ (pair : Pair P). pair.cap) es

  pub arrivals_alike : (es : List (Pair P)) → PairsAlike cmp (arrival_of cmp es) (arrival_of cmp es)
  arrivals_alike es = parts_alike (λ (pair : Pair P). pair.last_arrival) es
