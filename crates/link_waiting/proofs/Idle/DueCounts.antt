-- How many of a list pass a test, and two lists that rise and have as many of each key.
use Rattle.link_waiting.proofs.Common.{◌≡◌, ℕ, suc, ◌+◌, Bool, true, false, not, ◌&&◌, cond, if◌then◌else◌, List, []}
use Rattle.link_waiting.proofs.Common.{◌∷◌, refl, sym, ◌∙◌, ap, arith, AllZip, filter, fold, Ordering, Less, Equal}
use Rattle.link_waiting.proofs.Common.{Greater, is_lt, is_eq, ordering_reverse, IsTotalOrder, and_from, by_bool}
use Rattle.link_waiting.proofs.Common.{first_of_both, second_of_both, get_or, list_all, IsSortedBy, ranks_by}
use Rattle.link_waiting.proofs.Common.{list_all-mono}
use Rattle.std.proofs.lemmas.Cmp.{tied_itself, alike_right}
use Rattle.std.proofs.lemmas.List.Sorted.{sorted_far}
use Rattle.fairness.proofs.Lists.Sorted.{all_from_within}

-- how many pass
abbrev pub how_many : {X : Type 0} → (X → Bool) → List X → ℕ
how_many t [] = 0
how_many t (x ∷ xs) = if t x then suc (how_many t xs) else how_many t xs

module _ {X : Type 0} where
  pub none_many : (t : X → Bool) (xs : List X) → list_all (λ x. not (t x)) xs ≡ true → how_many t xs ≡ 0
  none_many t [] h = refl
  none_many t (x ∷ xs) h = by_bool (t x)
      (λ is. let one : not (t x) ≡ false = ap not is in
      let other : not (t x) ≡ true = first_of_both (not (t x)) _ h in
      cc)
      (λ is. rw is (none_many t xs (second_of_both (not (t x)) _ h)))

  pub same_many : (t u : X → Bool) → ((x : X) → t x ≡ u x) → (xs : List X) → how_many t xs ≡ how_many u xs
  same_many t u same [] = refl
  same_many t u same (x ∷ xs) = rw (same x, same_many t u same xs) refl

  pub never_many : (t : X → Bool) → ((x : X) → t x ≡ false) → (xs : List X) → how_many t xs ≡ 0
  never_many t never [] = refl
  never_many t never (x ∷ xs) = rw (never x) (never_many t never xs)

  pub filter_many : (p u : X → Bool) (xs : List X) → how_many u (filter p xs) ≡ how_many (λ x. p x && u x) xs
  filter_many p u [] = refl
  filter_many p u (x ∷ xs) = by_bool (p x)
      (λ h. rw h (ap (λ n. if u x then suc n else n) (filter_many p u xs)))
      (λ h. rw h (filter_many p u xs))

  sums : (t : X → Bool) (n : ℕ) (xs : List X) → fold (λ a x. a + cond (t x) 1 0) n xs ≡ n + how_many t xs
  sums t n [] = omega arith
  sums t n (x ∷ xs) = sums t (n + cond (t x) 1 0) xs ∙ by_test (t x) (how_many t xs)
    where
      by_test : (b : Bool) (m : ℕ) → n + cond b 1 0 + m ≡ n + (if b then suc m else m)
      by_test true m = omega arith
      by_test false m = omega arith

pub zipped_many : {X Y : Type 0} (R : X → Y → Type 0) (t : X → Bool) (u : Y → Bool)
    → ((x : X) (y : Y) → R x y → t x ≡ u y) → (xs : List X) (ys : List Y) → AllZip R xs ys
    → how_many t xs ≡ how_many u ys
zipped_many R t u same [] [] zip = refl
zipped_many R t u same [] (y ∷ ys) zip = absurd zip
zipped_many R t u same (x ∷ xs) [] zip = absurd zip
zipped_many R t u same (x ∷ xs) (y ∷ ys) zip = rw (same x y zip.0, zipped_many R t u same xs ys zip.1) refl

-- ---- lists that rise

module _ {K : Type 0} (cmp : K → K → Ordering) (total : IsTotalOrder cmp) where
  module _ {A : Type 0} (key : A → K) where
    -- no element is less than one before it
    abbrev pub is_rising : List A → Bool
    is_rising [] = true
    is_rising (x ∷ xs) = list_all (λ y. not (is_lt (cmp (key y) (key x)))) xs && is_rising xs

    -- how many have that key
    abbrev pub of_key : K → List A → ℕ
    of_key q xs = how_many (λ x. is_eq (cmp (key x) q)) xs

    pub rising_sorted : (xs : List A) → IsSortedBy (λ x y. is_lt (cmp (key x) (key y))) xs → is_rising xs ≡ true
    rising_sorted [] h = refl
    rising_sorted (x ∷ xs) h = and_from _ _ (all_from_within _ xs (λ i d low high. ap not
        (sorted_far (λ x y. is_lt _) (ranks_by total key) (x ∷ xs) h 0 (suc i) d (omega arith) (omega arith))))
        (rising_sorted xs (λ k d low high. ap (λ n. is_lt (cmp (key (get_or (x ∷ xs) n d)) (key (get_or xs k d))))
        (shifted k) ∙ h (suc k) d (omega arith) (omega arith)))
      where
        shifted : (k : ℕ) → suc (k + 1) ≡ suc k + 1
        shifted k = omega arith

    not_equal : (x y : A) (q : K) → cmp (key x) q ≡ Greater → not (is_lt (cmp (key y) (key x))) ≡ true
        → not (is_eq (cmp (key y) q)) ≡ true
    not_equal x y q above from = by_order (cmp (key y) q) refl
      where
        by_order : (o : Ordering) → cmp (key y) q ≡ o → not (is_eq (cmp (key y) q)) ≡ true
        by_order Less is = ap (λ o. not (is_eq o)) is
        by_order Greater is = ap (λ o. not (is_eq o)) is
        by_order Equal is =
            let more : cmp (key x) (key y) ≡ Greater = alike_right total (key y) q (key x) is ∙ above in
            let less : cmp (key y) (key x) ≡ Less = total.antisymm (key y) (key x) ∙ ap ordering_reverse more in
            let below : not (is_lt (cmp (key y) (key x))) ≡ false = ap (λ o. not (is_lt o)) less in
            cc

    none_less : (x : A) (xs : List A) (q : K) → is_rising (x ∷ xs) ≡ true → cmp (key x) q ≡ Greater
        → of_key q (x ∷ xs) ≡ 0
    none_less x xs q h above = none_many (λ y. is_eq (cmp (key y) q)) (x ∷ xs)
        (and_from _ _ (ap (λ o. not (is_eq o)) above) (list_all-mono _ _ (λ y from. not_equal x y q above from) xs
        (first_of_both _ _ h)))

    some_own : (x : A) (xs : List A) → of_key (key x) (x ∷ xs) ≡ suc (of_key (key x) xs)
    some_own x xs = ap (λ o. if is_eq o then suc (of_key (key x) xs) else of_key (key x) xs) (tied_itself total (key x))

  module _ {A B : Type 0} (f : A → K) (g : B → K) where
    -- as many of each key: the keys are the same, one by one
    pub rising_same : (xs : List A) (ys : List B) → is_rising f xs ≡ true → is_rising g ys ≡ true
        → ((q : K) → of_key f q xs ≡ of_key g q ys) → AllZip (λ x y. cmp (f x) (g y) ≡ Equal) xs ys
    rising_same [] [] rise_x rise_y same = tt
    rising_same [] (y ∷ ys) rise_x rise_y same = absurd (omega (arith, same (g y), some_own g y ys))
    rising_same (x ∷ xs) [] rise_x rise_y same = absurd (omega (arith, same (f x), some_own f x xs))
    rising_same (x ∷ xs) (y ∷ ys) rise_x rise_y same = by_order _ refl (rising_same xs ys (second_of_both _ _ rise_x)
        (second_of_both _ _ rise_y))
      where
        same_rest : (b : Bool) (m n : ℕ) → (if b then suc m else m) ≡ (if b then suc n else n) → m ≡ n
        same_rest true m n e = omega (arith, e)
        same_rest false m n e = e

        step : cmp (f x) (g y) ≡ Equal → (q : K) → of_key f q xs ≡ of_key g q ys
        step is q =
            same_rest _ (of_key f q xs) _ (ap (λ o. if is_eq o then suc (of_key f q xs) else of_key f q xs)
            (sym (total.congr (f x) (g y) q is)) ∙ same q)

        by_order : (o : Ordering) → cmp (f x) (g y) ≡ o
            → (((q : K) → of_key f q xs ≡ of_key g q ys) → AllZip (λ x y. cmp (f x) (g y) ≡ Equal) xs ys)
            → AllZip (λ x y. cmp (f x) (g y) ≡ Equal) (x ∷ xs) (y ∷ ys)
        by_order Less is ih =
            absurd
            (omega (
              arith,
              same (f x),
              some_own f x xs,
              none_less g y ys (f x) rise_y (total.antisymm (g y) (f x) ∙ ap ordering_reverse is),
            ))
        by_order Greater is ih = absurd (omega (arith, same (g y), some_own g y ys, none_less f x xs (g y) rise_x is))
        by_order Equal is ih = (is, ih (step is))
