-- The rate of the last flow with an id, while the flows are gone through from the first on.
use Rattle.fairness.proofs.Common.{◌≡◌, ℕ, ◌⊎◌, Bool, true, false, cond, List, [], ◌∷◌, Option, Some, None, refl}
use Rattle.fairness.proofs.Common.{is_eq, nat_cmp, Flow, Rate, last_rate, rules}
use Rattle.fairness.specs.Fairness.Rates.{or_else}

or_else_twice : (later : Option Rate) (b : Bool) (r : Rate) (old : Option Rate)
    → or_else (or_else later (cond b (Some r) None)) old ≡ or_else later (cond b (Some r) old)
or_else_twice None true r old = refl
or_else_twice None false r old = refl
or_else_twice (Some x) b r old = refl

-- one flow less to come, and its rate stored
pub stored : {P : Type 0} (id : ℕ) (f : Flow P) (r : Rate) (flows flows' : List (Flow P)) (rates rates' : List Rate)
    (old new all : Option Rate) → flows ≡ f ∷ flows' → rates ≡ r ∷ rates'
    → new ≡ cond (is_eq (nat_cmp f.id id)) (Some r) old → or_else (last_rate id flows rates) old ≡ all
    → or_else (last_rate id flows' rates') new ≡ all
stored id f r flows flows' rates rates' old new all next next_rate writes before = search (rules, or_else_twice)

none_to_come : {P : Type 0} (id : ℕ) (flows : List (Flow P)) → last_rate id flows [] ≡ None
none_to_come id [] = refl
none_to_come id (f ∷ flows) = refl

-- none to come
pub all_stored : {P : Type 0} (id : ℕ) (flows : List (Flow P)) (rates : List Rate) (old all : Option Rate)
    → (flows ≡ []) ⊎ (rates ≡ []) → or_else (last_rate id flows rates) old ≡ all → old ≡ all
all_stored id flows rates old all over h = search (rules, none_to_come)
