-- What a filter leaves of first elements, fronts and least pairs.
use Rattle.link_simulation.proofs.Common.{arith, ◌≡◌, List, [], ◌∷◌, map, Bool, true, false, cond, Option, Some, None}
use Rattle.link_simulation.proofs.Common.{refl, sym, ap, ◌∙◌, subst, if◌then◌else◌, filter, find, list_any, Ordering}
use Rattle.link_simulation.proofs.Common.{IsTotalOrder, without_first, fronts, least_pair, Message, pair_before}
use Rattle.link_simulation.proofs.Common.{same_pair, Each, each_map, filter_stronger, rules}
use Rattle.link_simulation.proofs.Simulation.PairOrder.{pair_cmp, pairs_total, least_none, not_before_itself}
use Rattle.link_simulation.proofs.Simulation.PairOrder.{not_before_back}
use Rattle.fairness.proofs.Lists.Sorted.{is_lt_less}
use Rattle.std.proofs.lemmas.Bool.{false_from_ne_true}
use Rattle.link_simulation.proofs.Laws.Bytes.{each_filter, each_least}

-- ---- the first that passes, in the list and in what a filter leaves

pub first_kept : {X : Type 0} (p q : X → Bool) (xs : List X) (x : X) → find q xs ≡ Some x → p x ≡ true
    → (find q (filter p xs) ≡ Some x) × (filter p (without_first q xs) ≡ without_first q (filter p xs))
first_kept p q [] x e h = cc
first_kept {X} p q (y ∷ ys) x e h = grind (arith, (first_kept p q ys x))

pub first_dropped : {X : Type 0} (p q : X → Bool) (xs : List X) (x : X) → find q xs ≡ Some x → p x ≡ false
    → filter p (without_first q xs) ≡ filter p xs
first_dropped p q [] x e h = refl
first_dropped {X} p q (y ∷ ys) x e h = grind (arith, (first_dropped p q ys x))

pub none_kept : {X : Type 0} (p q : X → Bool) (xs : List X) → find q xs ≡ None → find q (filter p xs) ≡ None
none_kept p q [] e = refl
none_kept {X} p q (y ∷ ys) e = grind (arith, (none_kept p q ys))

-- what passes is kept
pub find_kept : {X : Type 0} (p q : X → Bool) (xs : List X) → ((x : X) → q x ≡ true → p x ≡ true)
    → find q (filter p xs) ≡ find q xs
find_kept p q [] h = refl
find_kept {X} p q (y ∷ ys) h = grind (arith, (find_kept p q ys h))

pub any_kept : {X Y : Type 0} (f : X → Y) (p : X → Bool) (q : Y → Bool) (xs : List X)
    → ((x : X) → q (f x) ≡ true → p x ≡ true) → list_any q (map f (filter p xs)) ≡ list_any q (map f xs)
any_kept f p q [] h = refl
any_kept {X} {Y} f p q (y ∷ ys) h = grind (arith, (any_kept f p q ys h))

-- ---- two filters

pub filter_swap : {X : Type 0} (p q r : X → Bool) (xs : List X) → ((x : X) → p x ≡ true → q x ≡ r x)
    → filter q (filter p xs) ≡ filter p (filter r xs)
filter_swap p q r [] h = refl
filter_swap {X} p q r (y ∷ ys) h = grind (arith, (filter_swap p q r ys h))

module _ {P : Type 0} (cmp : P → P → Ordering) (order : IsTotalOrder cmp) where
  -- ---- the order of pairs

  pub before_both : (k m n : Message P) → pair_before cmp k m ≡ true → pair_before cmp n m ≡ false
      → pair_before cmp k n ≡ true
  before_both k m n e f = grind (arith, pair_cmp, pairs_total, is_lt_less)

  not_below : (k m n : Message P) → pair_before cmp n m ≡ false → pair_before cmp k n ≡ false
      → pair_before cmp k m ≡ false
  not_below k m n h g = false_from_ne_true _ (λ t. let u : pair_before cmp k n ≡ true = before_both k m n t h in cc)

  -- ---- fronts and least pairs

  pub fronts_kept : (mine : Message P → Bool) (alike : (m n : Message P) → same_pair cmp m n ≡ true → mine m ≡ mine n)
      (ms : List (Message P)) → fronts cmp (filter mine ms) ≡ filter mine (fronts cmp ms)
  fronts_kept mine alike [] = refl
  fronts_kept mine alike (m ∷ ms) = search (rules, filter_swap, filter_stronger, (fronts_kept mine alike ms))

  least_is : (m : Message P) (ms : List (Message P)) (o : Option (Message P)) → least_pair cmp ms ≡ o
      → least_pair cmp (m ∷ ms) ≡ Some (elim o [ None ↦ m | Some n ↦ if pair_before cmp n m then n else m ])
  least_is m ms o e = rw e refl

  -- no pair of the list comes before the least
  pub none_below : (ms : List (Message P)) (x : Message P) → least_pair cmp ms ≡ Some x
      → Each (λ m. pair_before cmp m x ≡ false) ms
  none_below [] x e = cc
  none_below (m ∷ ms) x e = by_rest (least_pair cmp ms) refl (λ y g. none_below ms y g)
    where
      by_test : (n : Message P) (b : Bool) → pair_before cmp n m ≡ b → Some (cond b n m) ≡ Some x
          → Each (λ k. pair_before cmp k n ≡ false) ms → Each (λ k. pair_before cmp k x ≡ false) (m ∷ ms)
      by_test n true is s g = grind (arith, not_before_back)
      by_test n false is s g = grind (arith, not_before_itself, each_map, not_below)

      by_rest : (o : Option (Message P)) → least_pair cmp ms ≡ o
          → ((y : Message P) → least_pair cmp ms ≡ Some y → Each (λ k. pair_before cmp k y ≡ false) ms)
          → Each (λ k. pair_before cmp k x ≡ false) (m ∷ ms)
      by_rest None is ih = grind (arith, least_is, least_none, not_before_itself)
      by_rest (Some n) is ih = by_test n (pair_before cmp n m) refl (sym (least_is m ms (Some n) is) ∙ e) (ih n is)

  pub least_kept : (mine : Message P → Bool) (ms : List (Message P)) (x : Message P) → least_pair cmp ms ≡ Some x
      → mine x ≡ true → least_pair cmp (filter mine ms) ≡ Some x
  least_kept mine [] x e own = cc
  least_kept mine (m ∷ ms) x e own = by_rest _ refl (λ y g h. least_kept mine ms y g h) (none_below (m ∷ ms) x e)
    where
      keeps : (b : Bool) (n : Message P) → pair_before cmp n m ≡ true → least_pair cmp (filter mine ms) ≡ Some n
          → least_pair cmp (cond b (m ∷ filter mine ms) (filter mine ms)) ≡ Some n
      keeps true n h g = least_is m _ (Some n) g ∙ (rw h refl)
      keeps false n h g = g

      first : (o : Option (Message P)) → least_pair cmp (filter mine ms) ≡ o
          → ((n : Message P) → least_pair cmp (filter mine ms) ≡ Some n → pair_before cmp n m ≡ false)
          → least_pair cmp (m ∷ filter mine ms) ≡ Some m
      first None is h = least_is m _ None is
      first (Some n) is h = grind (arith, least_is)

      by_test : (n : Message P) (b : Bool) → pair_before cmp n m ≡ b → Some (cond b n m) ≡ Some x
          → (mine n ≡ true → least_pair cmp (filter mine ms) ≡ Some n)
          → Each (λ k. pair_before cmp k x ≡ false) ms → least_pair cmp (filter mine (m ∷ ms)) ≡ Some x
      by_test n true is s ih below = grind (arith, keeps)
      by_test n false is s ih below =
          let same : m ≡ x = cc in
          let here : mine m ≡ true = ap mine same ∙ own in
          let low = subst (λ (z : Message P). Each (λ k. pair_before cmp k z ≡ false) ms) (sym same) below in
          let rest = each_filter _ _ mine ms (λ k t h. h) low in
          rw here (first _ refl (λ k g. each_least cmp order _ _ k rest g) ∙ ap Some same)

      by_rest : (o : Option (Message P)) → least_pair cmp ms ≡ o
          → ((y : Message P) → least_pair cmp ms ≡ Some y → mine y ≡ true → least_pair cmp (filter mine ms) ≡ Some y)
          → Each (λ k. pair_before cmp k x ≡ false) (m ∷ ms) → least_pair cmp (filter mine (m ∷ ms)) ≡ Some x
      by_rest None is ih below = grind (arith, least_is, least_none)
      by_rest (Some n) is ih below = by_test n _ refl (sym (least_is m ms (Some n) is) ∙ e) (λ h. ih n is h) below.1
