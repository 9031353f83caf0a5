-- Lists that match element by element.
use Rattle.fairness.proofs.Common.{◌≡◌, suc, List, [], ◌∷◌, ◌++◌, length, Bool, true, false, cond, refl, ap, filter}
use Rattle.fairness.proofs.Common.{AllZip, rules}

pub zip-length : {X Y : Type 0} (R : X → Y → Type 0) (xs : List X) (ys : List Y) → AllZip R xs ys
    → length xs ≡ length ys
zip-length R [] [] z = refl
zip-length R [] (y ∷ ys) z = absurd z
zip-length R (x ∷ xs) [] z = absurd z
zip-length R (x ∷ xs) (y ∷ ys) z = ap suc (zip-length R xs ys z.1)

pub zip-same : {X : Type 0} (R : X → X → Type 0) → ((x : X) → R x x) → (xs : List X) → AllZip R xs xs
zip-same R r [] = tt
zip-same R r (x ∷ xs) = (r x, zip-same R r xs)

pub zip_weaker : {X Y : Type 0} (R S : X → Y → Type 0) → ((x : X) (y : Y) → R x y → S x y) → (xs : List X) (ys : List Y)
    → AllZip R xs ys → AllZip S xs ys
zip_weaker R S f [] [] z = tt
zip_weaker R S f [] (y ∷ ys) z = absurd z
zip_weaker R S f (x ∷ xs) [] z = absurd z
zip_weaker R S f (x ∷ xs) (y ∷ ys) z = (f x y z.0, zip_weaker R S f xs ys z.1)

pub zip-push : {X Y : Type 0} (R : X → Y → Type 0) (xs : List X) (ys : List Y) (x : X) (y : Y) → AllZip R xs ys → R x y
    → AllZip R (xs ++ x ∷ []) (ys ++ y ∷ [])
zip-push R [] [] x y z r = (r, tt)
zip-push R [] (v ∷ ys) x y z r = absurd z
zip-push R (u ∷ xs) [] x y z r = absurd z
zip-push R (u ∷ xs) (v ∷ ys) x y z r = (z.0, zip-push R xs ys x y z.1 r)

pub zip-append : {X Y : Type 0} (R : X → Y → Type 0) (xs us : List X) (ys vs : List Y) → AllZip R xs ys → AllZip R us vs
    → AllZip R (xs ++ us) (ys ++ vs)
zip-append R [] us [] vs z w = w
zip-append R [] us (v ∷ ys) vs z w = absurd z
zip-append R (u ∷ xs) us [] vs z w = absurd z
zip-append R (u ∷ xs) us (v ∷ ys) vs z w = (z.0, zip-append R xs us ys vs z.1 w)

pub zip_chain : {X Y Z : Type 0} (R : X → Y → Type 0) (S : Y → Z → Type 0) (T : X → Z → Type 0)
    → ((x : X) (y : Y) (z : Z) → R x y → S y z → T x z)
    → (xs : List X) (ys : List Y) (zs : List Z) → AllZip R xs ys → AllZip S ys zs → AllZip T xs zs
zip_chain R S T chain [] [] [] f g = tt
zip_chain R S T chain [] [] (z ∷ zs) f g = absurd g
zip_chain R S T chain [] (y ∷ ys) zs f g = absurd f
zip_chain R S T chain (x ∷ xs) [] zs f g = absurd f
zip_chain R S T chain (x ∷ xs) (y ∷ ys) [] f g = absurd g
zip_chain R S T chain (x ∷ xs) (y ∷ ys) (z ∷ zs) f g = (chain x y z f.0 g.0, zip_chain R S T chain xs ys zs f.1 g.1)

-- where two tests agree, either both match or the others do
pub zip-if : {X Y : Type 0} (R : X → Y → Type 0) (a b : Bool) (xs us : List X) (ys vs : List Y) → a ≡ b → AllZip R xs ys
    → AllZip R us vs → AllZip R (cond a xs us) (cond b ys vs)
zip-if R true true xs us ys vs e f g = f
zip-if R true false xs us ys vs e f g = cc
zip-if R false true xs us ys vs e f g = cc
zip-if R false false xs us ys vs e f g = g

-- what passes tests that agree
pub zip-filter : {X Y : Type 0} (R : X → Y → Type 0) (f : X → Bool) (g : Y → Bool)
    → ((x : X) (y : Y) → R x y → f x ≡ g y) → (xs : List X) (ys : List Y)
    → AllZip R xs ys → AllZip R (filter f xs) (filter g ys)
zip-filter R f g alike [] [] all = tt
zip-filter R f g alike [] (y ∷ ys) all = absurd all
zip-filter R f g alike (x ∷ xs) [] all = absurd all
zip-filter R f g alike (x ∷ xs) (y ∷ ys) all = search (rules, zip-if, zip-filter R f g alike xs ys all.1)

-- where two tests answer alike, either branch is the same
