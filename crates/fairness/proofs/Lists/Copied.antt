-- Lists that are copied element by element.
use Rattle.fairness.proofs.Common.{◌≡◌, ℕ, zero, suc, ◌+◌, ◌<◌, List, [], ◌∷◌, ◌++◌, length, get_or, take, ◌∙◌, ap}
use Rattle.fairness.proofs.Common.{subst, arith, AllZip}
use Rattle.std.proofs.Common.{add-one}
use Rattle.std.proofs.Math.Seq.{take-length}

-- one element more
zip_more : {X Y : Type 0} (R : X → Y → Type 0) (xs : List X) (ys : List Y) (i : ℕ) (x : X) (y : Y) → i < length xs
    → x ≡ get_or xs i x → AllZip R (take i xs) ys → R x y → AllZip R (take (suc i) xs) (ys ++ y ∷ [])
zip_more R [] ys i x y lt is z r = absurd (omega arith)
zip_more R (w ∷ xs) [] zero x y lt is z r = (subst (λ v. R v y) is r, tt)
zip_more R (w ∷ xs) (v ∷ ys) zero x y lt is z r = absurd z
zip_more R (w ∷ xs) [] (suc i) x y lt is z r = absurd z
zip_more R (w ∷ xs) (v ∷ ys) (suc i) x y lt is z r = (z.0, zip_more R xs ys i x y (omega arith) is z.1 r)

pub copied_more : {X Y : Type 0} (R : X → Y → Type 0) (xs : List X) (ys : List Y) (i : ℕ) (x : X) (y : Y)
    → i < length xs → x ≡ get_or xs i x → AllZip R (take i xs) ys → R x y → AllZip R (take (i + 1) xs) (ys ++ y ∷ [])
copied_more R xs ys i x y lt is z r = rw add-one (zip_more R xs ys i x y lt is z r)

pub copied_all : {X Y : Type 0} (R : X → Y → Type 0) (xs : List X) (ys : List Y) (i : ℕ) → i ≡ length xs
    → AllZip R (take i xs) ys → AllZip R xs ys
copied_all R xs ys i end z = subst (λ l. AllZip R l ys) (ap (λ n. take n xs) end ∙ take-length xs) z
