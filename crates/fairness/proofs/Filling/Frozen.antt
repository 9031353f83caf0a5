-- What a frozen flow has, and what one that rises.
use Rattle.fairness.proofs.Common.{◌≡◌, ℕ, ◌⊎◌, inl, inr, Option, Some, None, IsSome, refl, ap, subst, unwrap_or}
use Rattle.fairness.proofs.Common.{at_level, Error, rules}
use Rattle.std.specs.Option.{ok_or}
use Rattle.std.specs.Prelude.{OnOk, OnSome, Result, Ok, Err, IfErr, IsErrAnd, IfSome, MatchOption}

pub none_or_some : {X : Type 0} (o : Option X) → (o ≡ None) ⊎ ((x : X) × (o ≡ Some x))
none_or_some None = inl refl
none_or_some (Some x) = inr (x, refl)

pub some_value : {X : Type 0} (o : Option X) → IsSome o → (x : X) × (o ≡ Some x)
some_value None h = cc
some_value (Some x) h = (x, refl)

pub some_is : {X : Type 0} (o : Option X) (x : X) → o ≡ Some x → IsSome o
some_is None x e = cc
some_is (Some y) x e = refl

module _ (frozen : ℕ → Option ℕ) (level : ℕ) where
  pub at_some : (i parts : ℕ) → frozen i ≡ Some parts → at_level frozen level i ≡ parts
  at_some i parts e = ap (λ o. unwrap_or o level) e

  pub at_none : (i : ℕ) → frozen i ≡ None → at_level frozen level i ≡ level
  at_none i e = ap (λ o. unwrap_or o level) e

-- a frozen flow has the same at every level
pub at_any : (frozen : ℕ → Option ℕ) (level other i : ℕ) → IsSome (frozen i)
    → at_level frozen level i ≡ at_level frozen other i
at_any frozen level other i h = search (rules, some_value, at_some)

pub some_of_if : {X : Type 0} (P : X → Type 0) (o : Option X) → IfSome o P → (x : X) → o ≡ Some x → P x
some_of_if P o h x e = let at : IfSome (Some x) P = subst (λ o. IfSome o P) e h in at

pub match_some : {X : Type 0} (P : Type 0) (Q : X → Type 0) (o : Option X) → MatchOption o P Q → (x : X) → o ≡ Some x
    → Q x
match_some P Q o h x e = let at : MatchOption (Some x) P Q = subst (λ o. MatchOption o P Q) e h in at

pub match_none : {X : Type 0} (P : Type 0) (Q : X → Type 0) (o : Option X) → MatchOption o P Q → o ≡ None → P
match_none {X} P Q o h e = let at : MatchOption {T = X} None P Q = subst (λ o. MatchOption o P Q) e h in at

pub not_some : {X : Type 0} (o : Option X) → o ≡ None → IsSome o → ⊥
not_some None e s = cc
not_some (Some x) e s = cc

-- ---- results

-- an error that stands for no value
pub none_by : {X : Type 0} (o : Option X) (given error : Error) → ◌≡◌ {A = Result X Error} (Err given) (ok_or o error)
    → (given ≡ error) × (o ≡ None)
none_by None given error e = (cc, refl)
none_by (Some x) given error e = cc

pub if_err : {X E : Type 0} (P Q : E → Type 0) (r : Result X E) → IsErrAnd r P → ((e : E) → P e → Q e) → IfErr r Q
if_err P Q (Ok x) h f = tt
if_err P Q (Err e) h f = f e h

pub ok_by : {X : Type 0} (o : Option X) (value : X) (error : Error)
    → ◌≡◌ {A = Result X Error} (Ok value) (ok_or o error) → o ≡ Some value
ok_by None value error e = cc
ok_by (Some x) value error e = cc

pub on_some_of : {X P : Type 0} (o : Option X) → OnSome o P → (x : X) → o ≡ Some x → P
on_some_of None h x e = cc
on_some_of (Some y) h x e = h

pub on_ok : {X E P : Type 0} (r : Result X E) → P → OnOk r P
on_ok (Ok x) p = p
on_ok (Err e) p = tt
