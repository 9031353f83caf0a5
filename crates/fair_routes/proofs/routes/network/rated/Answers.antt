use Rattle.fair_routes.proofs.Common.{◌≡◌, ◌++◌, ◌∷◌, ◌⊎◌, List, [], inl, inr, refl, sym, ap, ap₂, ◌∙◌, zip}
use Rattle.std.proofs.Common.{append_assoc, append-nil}
use Rattle.std.proofs.lemmas.Slice.Zip.{Zip-more, either_empty_from_Zip}
use Rattle.fair_routes.proofs.routes.network.rated.Goals as goal

-- one pair more
one_more : {A B : Type 0} (x : A) (y : B) (xs xs2 : List A) (ys ys2 : List B) (before after all : List (A × B))
    → xs ≡ x ∷ xs2 → ys ≡ y ∷ ys2 → after ≡ before ++ (x, y) ∷ [] → before ++ zip xs ys ≡ all
    → after ++ zip xs2 ys2 ≡ all
one_more x y xs xs2 ys ys2 before after all first second pushed so_far =
    ap (λ ps. ps ++ zip xs2 ys2) pushed ∙ append_assoc before ((x, y) ∷ []) (zip xs2 ys2)
    ∙ ap₂ (λ us vs. before ++ zip us vs) (sym first) (sym second) ∙ so_far

-- and none
none_left : {A B : Type 0} (xs : List A) (ys : List B) → (xs ≡ []) ⊎ (ys ≡ []) → zip xs ys ≡ []
none_left xs ys (inl none) = ap (λ us. zip us ys) none
none_left [] ys (inr none) = refl
none_left (x ∷ xs) ys (inr none) = ap (λ vs. zip (x ∷ xs) vs) none

pub loop-flow-preserved : goal.loop-flow-preserved
loop-flow-preserved c =
    let turn =
    Zip-more c.loop-flow.flow-iterator c.next.new.self c.next.result (c.in-Some.flow, c.in-Some.rate) c.in-Some.is
    c.next.ensures.steps in
    one_more c.in-Some.flow.now c.in-Some.rate.now _ _ _ _ c.loop-flow.rated.items c.push.new.self.items
    (zip c.args.flows.now c.args.rates.now) turn.0 turn.1 c.in_ok-push.ensures.items c.loop-flow.invariant

pub returns : goal.returns
returns c =
    sym (append-nil c.loop-flow.rated.items) ∙ ap (λ ps. c.loop-flow.rated.items ++ ps) (sym (none_left _ _
    (either_empty_from_Zip c.loop-flow.flow-iterator c.next.new.self c.next.result c.in-None.is c.next.ensures.steps)))
    ∙ c.loop-flow.invariant
