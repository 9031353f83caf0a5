-- A list, one item after another.
use Rattle.link_events.proofs.Common.{◌≡◌, suc, ◌+◌, List, [], ◌∷◌, ◌++◌, length, refl, ap, ◌∙◌, length-append}
use Rattle.link_events.proofs.Common.{arith, into_iter_items}
use Rattle.std.specs.Iterator.{Yields}
use Rattle.std.specs.Vec.Iter.{into_iter_steps}
use Rattle.std.specs.declared.vec.IntoIter.{IntoIter}

-- what an iterator has given, and what is still to come, are what it began with
pub given_so_far : {X A : Type 0} (s : IntoIter X A) (xs : List X) (t : IntoIter X A) → Yields into_iter_steps s xs t
    → into_iter_items s ≡ xs ++ into_iter_items t
given_so_far s [] t y = ap into_iter_items y
given_so_far s (x ∷ xs) t y = y.1.0 ∙ ap (λ ys. x ∷ ys) (given_so_far y.0 xs t y.2)

-- nothing stands behind a front that is as long as the whole
pub none_behind : {X : Type 0} (all xs ys : List X) → all ≡ xs ++ ys → length all ≡ length xs → ys ≡ []
none_behind all xs [] is long = refl
none_behind all xs (y ∷ ys) is long =
    let both : length (xs ++ y ∷ ys) ≡ length xs + suc (length ys) = length-append xs (y ∷ ys) in
    let whole : length all ≡ length (xs ++ y ∷ ys) = ap length is in
    absurd (omega (arith, both, whole, long))
