-- Lists whose elements differ: such a list is no longer than one that has all its elements.
use Rattle.fairness.proofs.Common.{◌≡◌, ◌≢◌, zero, suc, ◌≤◌, List, [], ◌∷◌, ◌++◌, length, AllPairs, Contains, ⊎_elim}
use Rattle.fairness.proofs.Common.{refl, sym, ap, subst, ◌∙◌, arith, Contains-append_left, Contains-append_right}
use Rattle.std.proofs.lemmas.List.{length-append}
use Rattle.std.proofs.lemmas.List.Elements.{Contains-append_cases}

module _ {X : Type 0} where
  abbrev AreApart : List X → Type 0
  AreApart xs = AllPairs (λ x y. x ≢ y) xs

  pub in_one : (x y : X) → Contains (x ∷ []) y → x ≡ y
  in_one x y (zero, within, is) = is
  in_one x y (suc i, within, is) = absurd (omega arith)

  -- what is in the list stands between some elements and others
  stands_in : (ys : List X) (x : X) → Contains ys x → (before : List X) × (after : List X) × (ys ≡ before ++ x ∷ after)
  stands_in [] x (i, within, is) = absurd (omega arith)
  stands_in (y ∷ ys) x (zero, within, is) = ([], ys, ap (λ z. z ∷ ys) is)
  stands_in (y ∷ ys) x (suc i, within, is) =
      let (before, after, split) = stands_in ys x (i, omega arith, is) in
      (y ∷ before, after, ap (λ zs. y ∷ zs) split)

  apart_from_head : (x : X) (xs : List X) → AreApart (x ∷ xs) → (y : X) → Contains xs y → x ≢ y
  apart_from_head x xs apart y (i, within, is) same = apart 0 (suc i) y (omega arith) (omega arith) (same ∙ sym is)

  apart_tail : (x : X) (xs : List X) → AreApart (x ∷ xs) → AreApart xs
  apart_tail x xs apart i j d less within = apart (suc i) (suc j) d (omega arith) (omega arith)

  -- different ones that are all in a list are no more than the list has
  pub no_more : (xs ys : List X) → AreApart xs → ((x : X) → Contains xs x → Contains ys x) → length xs ≤ length ys
  no_more [] ys apart in_ys = omega arith
  no_more (x ∷ xs) ys apart in_ys =
      let (before, after, split) = stands_in ys x (in_ys x (0, omega arith, refl)) in
      let rest = no_more xs (before ++ after) (apart_tail x xs apart) (λ y has. without before after y
      (apart_from_head x xs apart y has) (subst (λ (zs : List X). Contains zs y) split (in_ys y (later y has)))) in
      let long = length-append before (x ∷ after) in
      let short = length-append before after in
      omega (arith, rest, ap length split, long, short)
    where
      later : (y : X) → Contains xs y → Contains (x ∷ xs) y
      later y (i, within, is) = (suc i, omega arith, is)

      without : (before after : List X) (y : X) → x ≢ y → Contains (before ++ x ∷ after) y
          → Contains (before ++ after) y
      without before after y other has =
          ⊎_elim (λ h. Contains-append_left before after y h)
          (λ h. ⊎_elim (λ e. absurd (other (in_one x y e))) (λ k. Contains-append_right before after y k)
          (Contains-append_cases (x ∷ []) after y h)) (Contains-append_cases before (x ∷ after) y has)
