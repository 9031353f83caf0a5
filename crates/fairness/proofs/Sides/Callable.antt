-- Closures that may always be called.
use Rattle.fairness.proofs.Common.{ℕ, List, [], ◌∷◌, Option, CalledAt, TakesAt, CalledAtTwo, TakesAtTwo}
use Rattle.fairness.proofs.Common.{CallableOnEach, CallableOnEachPair}
use denote.Ref.{Bor}
use denote.Param.Members.{Mut}
use Rattle.std.specs.Fn.{always_mut}

-- such a closure may be called on each peer of a list in turn
pub callable_on_each : {P F : Type 0} (closure : Mut F (Bor P × Unit {0}) (Option ℕ)) (state : F) (peers : List P)
    → always_mut closure state → CallableOnEach (TakesAt closure) (CalledAt closure) state peers
callable_on_each closure state [] always = tt
callable_on_each closure state (p ∷ peers) always = (
  (λ y e. (always.at ((y, tt) ∷ [])).0),
  λ a next k.
      callable_on_each closure next peers (record { at = λ xs. (always.at ((k.shown, tt) ∷ xs)).1 a next k.called }),
)

-- and on each ordered pair
pub callable_on_each_pair : {P F : Type 0} (closure : Mut F (Bor P × (Bor P × Unit {0})) (Option ℕ)) (state : F)
    (pairs : List (P × P))
    → always_mut closure state → CallableOnEachPair (TakesAtTwo closure) (CalledAtTwo closure) state pairs
callable_on_each_pair closure state [] always = tt
callable_on_each_pair closure state ((p, q) ∷ pairs) always = (
  (λ y z e k. (always.at ((y, (z, tt)) ∷ [])).0),
  λ a next k.
      callable_on_each_pair closure next pairs
      (record { at = λ xs. (always.at ((k.first, (k.second, tt)) ∷ xs)).1 a next k.called }),
)
