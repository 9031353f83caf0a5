-- A loop that changes a list in place, element by element.
use Rattle.fairness.proofs.Common.{◌≡◌, ℕ, ◌+◌, ◌<◌, ◌≤◌, List, [], ◌∷◌, ◌++◌, length, get_or, set, refl, sym, ◌∙◌}
use Rattle.fairness.proofs.Common.{ap, arith, append_assoc, AllZip, append-nil, common_steps, rules}
use Rattle.std.proofs.lemmas.List.{length-append}
use Rattle.fairness.proofs.Lists.Sorted.{get_or-seam, set-seam}
use Rattle.fairness.proofs.Lists.Zips.{zip-push}

-- up to a place the new elements stand to the old ones as R says, and from there on nothing has changed
pub record IsChangedUpTo {X : Type 0} (R : X → X → Type 0) (old now : List X) (at : ℕ) : Type 0 where
  pub from : List X
  pub to : List X
  pub rest : List X
  pub old_is : old ≡ from ++ rest
  pub now_is : now ≡ to ++ rest
  pub at_is : at ≡ length to
  pub changed : AllZip R from to

module _ {X : Type 0} (R : X → X → Type 0) where
  pub unchanged : (old : List X) → IsChangedUpTo R old old 0
  unchanged old = record { from = []; to = []; rest = old; old_is = refl; now_is = refl; at_is = refl; changed = tt }

  module _ (old now : List X) (at : ℕ) (h : IsChangedUpTo R old now at) where
    pub one_more : (x y : X) → at < length now → x ≡ get_or now at x → R x y
        → IsChangedUpTo R old (set now at y) (at + 1)
    one_more x y lt is r = by_rest h.rest h.old_is h.now_is
      where
        by_rest : (rest : List X) → old ≡ h.from ++ rest → now ≡ h.to ++ rest
            → IsChangedUpTo R old (set now at y) (at + 1)
        by_rest [] old_is now_is = absurd (omega (arith, h.at_is, ap length now_is, length-append h.to []))
        by_rest (z ∷ rest) old_is now_is =
            let here : x ≡ z = search (rules, get_or-seam) in
            record {
              from = h.from ++ x ∷ [];
              to = h.to ++ y ∷ [];
              rest = rest;
              old_is = old_is ∙ ap (λ v. h.from ++ v ∷ rest) (sym here) ∙ sym (append_assoc h.from (x ∷ []) rest);
              now_is = search (rules, set-seam, append_assoc);
              at_is = ap (λ n. n + 1) h.at_is ∙ sym (length-append h.to (y ∷ []));
              changed = zip-push R h.from h.to x y h.changed r;
            }

    pub all_changed : length now ≤ at → AllZip R old now
    all_changed le = grind (arith, common_steps, append-nil, length-append)
