-- The pairs whose first message may start: whether there is one, and their keys in order.
use Rattle.link_waiting.proofs.Common.{◌≡◌, ℕ, suc, ◌+◌, ◌≤◌, Bool, true, false, cond, ◌&&◌, List, [], ◌∷◌, length}
use Rattle.link_waiting.proofs.Common.{map, refl, Option, Some, None, sym, ap, ap₂, ◌∙◌, subst, arith, slice_index_or}
use Rattle.link_waiting.proofs.Common.{list_any, AllZip, Ordering, Less, Equal, Greater, is_lt, is_eq}
use Rattle.link_waiting.proofs.Common.{ordering_reverse, IsTotalOrder, and_from, sum_by-cons, eqb-true, first_of_both}
use Rattle.link_waiting.proofs.Common.{each_find, each_of_all, find_passes, same_peer, number_of_pair, Message}
use Rattle.link_waiting.proofs.Common.{pair_like, pair_sym, PeerPair, pair_cmp, pair_total, NamesPairOf, Waiter}
use Rattle.link_waiting.proofs.Common.{has_pair, is_of, AreNumbered, AreTold, has_come, due_below, count_by, IsDue}
use Rattle.link_waiting.proofs.Common.{IsSortedBy, list_all-mono, are_ascending, is_eq-then, pair_of_key, moment_at}
use Rattle.link_waiting.proofs.Common.{option_and_then}
use Rattle.std.specs.Prelude.{◌↔◌}
use Rattle.std.specs.List.{sum_by}
use Rattle.std.specs.List.Sorted.{IsPermutation}
use Rattle.std.proofs.lemmas.List.Sorted.{sum_by-IsPermutation}
use Rattle.fairness.proofs.Lists.Sorted.{is_lt_less}
use Rattle.least_moment.specs.Moments.{IsLeast}
use Rattle.link_simulation.proofs.Simulation.AlikeMessages.{pair_itself}
use Rattle.link_waiting.proofs.Idle.Due.{comes, has_come_if, due_first, count_due, any_many}
use Rattle.link_waiting.proofs.Idle.Numbered.{of_number}
use Rattle.link_waiting.proofs.Idle.Told.{since_in, since_numbered}
use Rattle.link_waiting.proofs.Idle.Waiting.{one_of}

-- ---- keys in order

module _ {P : Type 0} (cmp : P → P → Ordering) (total : IsTotalOrder cmp) where
  abbrev before : PeerPair P → PeerPair P → Bool
  before j k = is_lt (pair_cmp cmp (pair_of_key j) (pair_of_key k))

  -- no pair has two keys
  abbrev AreFew : List (PeerPair P) → Type 0
  AreFew keys = (o r : P) → count_by (λ key. same_peer cmp o key.origin && same_peer cmp r key.recipient) keys ≤ 1

  few_behind : (key : PeerPair P) (keys : List (PeerPair P)) → AreFew (key ∷ keys) → AreFew keys
  few_behind key keys few o r =
      let one = sum_by-cons (λ (key : PeerPair P). cond (same_peer cmp o key.origin && same_peer cmp r key.recipient) 1 0) key keys in
      let all = few o r in
      omega (arith, one, all)

  sorted_behind : (key : PeerPair P) (keys : List (PeerPair P)) → IsSortedBy before (key ∷ keys) → IsSortedBy before keys
  sorted_behind key keys sorted k d low high =
      let e : suc k + 1 ≡ suc (k + 1) = omega arith in
      ap (λ n. before (slice_index_or (key ∷ keys) n d) (slice_index_or keys k d)) (sym e)
      ∙ sorted (suc k) d (omega arith) (omega (arith, high))

  same_key : (key : PeerPair P) → (same_peer cmp key.origin key.origin && same_peer cmp key.recipient key.recipient) ≡ true
  same_key key = pair_itself cmp total (one_of cmp total key.origin key.recipient)

  next_above : (j k : PeerPair P) (keys : List (PeerPair P)) → IsSortedBy before (j ∷ k ∷ keys) → AreFew (j ∷ k ∷ keys)
      → before j k ≡ true
  next_above j k keys sorted few = by (pair_cmp cmp (pair_of_key j) (pair_of_key k)) refl
    where
      by : (o : Ordering) → pair_cmp cmp (pair_of_key j) (pair_of_key k) ≡ o → is_lt o ≡ true
      by Less e = refl
      by Equal e =
          let names : PeerPair P → ℕ
          = λ key. cond (same_peer cmp j.origin key.origin && same_peer cmp j.recipient key.recipient) 1 0 in
          let one = sum_by-cons names j (k ∷ keys) ∙ ap (λ b. cond b 1 0 + sum_by names (k ∷ keys)) (same_key j) in
          let two = sum_by-cons names k keys ∙ ap (λ b. cond b 1 0 + sum_by names keys)
          (sym (is_eq-then (cmp j.origin k.origin) _) ∙ ap is_eq e) in
          absurd (omega (arith, one, two, few j.origin j.recipient))
      by Greater e =
          let up : pair_cmp cmp (pair_of_key k) (pair_of_key j) ≡ Less =
          (pair_total cmp total).antisymm (pair_of_key k) (pair_of_key j) ∙ ap ordering_reverse e in
          let no : true ≡ false = sym (ap is_lt up) ∙ sorted 0 j (omega arith) (omega arith) in cc

  less_still : (j k l : P × P) → is_lt (pair_cmp cmp j k) ≡ true → is_lt (pair_cmp cmp k l) ≡ true
      → is_lt (pair_cmp cmp j l) ≡ true
  less_still j k l e f = ap is_lt ((pair_total cmp total).trans j k l (is_lt_less _ e) (is_lt_less _ f))

  pub ascends : (keys : List (PeerPair P)) → IsSortedBy before keys → AreFew keys
      → are_ascending (pair_cmp cmp) (map pair_of_key keys) ≡ true
  ascends [] sorted few = refl
  ascends (j ∷ []) sorted few = refl
  ascends (j ∷ k ∷ keys) sorted few =
      let rest : are_ascending (pair_cmp cmp) (map pair_of_key (k ∷ keys)) ≡ true =
      ascends (k ∷ keys) (sorted_behind j (k ∷ keys) sorted) (few_behind j (k ∷ keys) few) in
      let less = next_above j k keys sorted few in
      and_from _ _ (and_from _ _ less (list_all-mono _ _ (λ l h. less_still _ _ l less h) _ (first_of_both _ _ rest)))
      rest

module _ {P : Type 0} (cmp : P → P → Ordering) (order : IsTotalOrder cmp) (pairs : List (P × P)) (now : ℕ)
    (sinces : List (Option ℕ)) (ws : List (Waiter P)) (told : AreTold sinces ws) (numbered : AreNumbered cmp pairs ws) where
  -- ---- the least moment

  -- it has come as soon as that of some pair has
  pub least_comes : (least : Option ℕ) → IsLeast sinces least → (has_come now least ≡ true)
      ↔ ((o : P) × (r : P) × (has_come now (since_in cmp sinces ws o r) ≡ true))
  least_comes least is = (
    λ come.
        let due = (is now).1 (has_come_if now least come) in
        let is_due = comes now (moment_at sinces due.0) due.1 in
        let first = due_first now sinces ws told due.0 is_due in
        let w : Waiter P = first.0 in
        let o = w.message.origin in
        let r = w.message.recipient in
        let number : number_of_pair cmp pairs o r ≡ Some w.pair = each_find (λ w. number_of_pair cmp pairs
        w.message.origin w.message.recipient ≡ Some w.pair) (has_pair due.0) ws w (each_of_all _ ws numbered) first.1 in
        let same : w.pair ≡ due.0 = eqb-true w.pair due.0 (find_passes (has_pair due.0) w ws first.1) in (
          o,
          r,
          ap (has_come now) (since_numbered cmp sinces ws told order pairs numbered o r
              ∙ ap (option_and_then (moment_at sinces)) number ∙ ap (moment_at sinces) same)
              ∙ is_due,
        ),
    λ found. comes now least ((is now).0 (by (number_of_pair cmp pairs found.0 found.1)
        (sym (ap (has_come now) (since_numbered cmp sinces ws told order pairs numbered found.0 found.1)) ∙ found.2))),
  )
    where
      by : (number : Option ℕ) → has_come now (option_and_then (moment_at sinces) number) ≡ true
          → (at : ℕ) × IsDue sinces now at
      by None e = cc
      by (Some at) e = (at, has_come_if now _ e)

  -- ---- the keys

  abbrev due : List (Waiter P)
  due = due_below now sinces (length sinces) ws

  -- whether a key names the pair
  abbrev names : P → P → PeerPair P → Bool
  names o r key = same_peer cmp o key.origin && same_peer cmp r key.recipient

  abbrev Named : PeerPair P → Waiter P → Type 0
  Named key w = NamesPairOf cmp key w.message

  one_named : (o r : P) (key : PeerPair P) (w : Waiter P) → Named key w → names o r key ≡ is_of cmp o r w
  one_named o r key w h =
      let k : Message P = one_of cmp order o r in
      let n : Message P = one_of cmp order key.origin key.recipient in
      let like = pair_like cmp order w.message n k (and_from _ _ h.origin h.recipient) in
      pair_sym cmp order k n ∙ like ∙ pair_sym cmp order w.message k

  count_named : (o r : P) (keys : List (PeerPair P)) (us : List (Waiter P)) → AllZip Named keys us
      → count_by (names o r) keys ≡ count_by (is_of cmp o r) us
  count_named o r [] [] z = refl
  count_named o r [] (w ∷ us) z = absurd z
  count_named o r (key ∷ keys) [] z = absurd z
  count_named o r (key ∷ keys) (w ∷ us) z =
      sum_by-cons _ key keys ∙ ap₂ (λ a b. a + b) (ap (λ b. cond b 1 0) (one_named o r key w z.0))
      (count_named o r keys us z.1) ∙ sym (sum_by-cons _ w us)

  module _ (o r : P) (keys all : List (PeerPair P)) (same : IsPermutation keys all) (z : AllZip Named keys due) where
    abbrev is_due : Bool
    is_due = has_come now (since_in cmp sinces ws o r)

    keys_counted : count_by (names o r) all ≡ cond is_due 1 0
    keys_counted =
        sum_by-IsPermutation _ keys all same ∙ count_named o r keys due z ∙ count_due now sinces ws told _ _
        (of_number cmp order pairs o r _ refl ws numbered) ∙ sym (ap (λ o. cond (has_come now o) 1 0)
        (since_numbered cmp sinces ws told order pairs numbered o r))

    -- each pair whose first message may start has a key, and no other
    pub keys_named : list_any (names o r) all ≡ is_due
    keys_named = any_many (names o r) all is_due keys_counted

    -- and but one
    pub keys_few : count_by (names o r) all ≤ 1
    keys_few = subst (λ n. n ≤ 1) (sym keys_counted) (by is_due)
      where
        by : (b : Bool) → cond b 1 0 ≤ 1
        by true = omega arith
        by false = omega arith
