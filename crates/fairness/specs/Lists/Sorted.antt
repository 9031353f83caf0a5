-- Lists in the order of keys, in which each key stands at most once.
use Rattle.std.specs.Prelude.{◌≡◌, ℕ, Bool, true, ◌&&◌, if◌then◌else◌, List, [], ◌∷◌, ◌++◌, length}
use Rattle.std.specs.List.{list_all}
use Rattle.std.specs.declared.cmp.Ordering.{Ordering}
use Rattle.std.specs.Ordering.{is_lt, is_eq, is_gt}

module _ {K : Type 0} (cmp : K → K → Ordering) where
  -- whether each key is below those after it
  abbrev pub are_ascending : List K → Bool
  are_ascending [] = true
  are_ascending (k ∷ ks) = list_all (λ l. is_lt (cmp k l)) ks && are_ascending ks

module _ {E K : Type 0} (cmp : K → K → Ordering) (key : E → K) where
  -- what the entry of a key says, or what is said without one
  abbrev pub value_at : {V : Type 0} → (E → V) → V → List E → K → V
  value_at says none [] k = none
  value_at says none (e ∷ es) k = if is_eq (cmp (key e) k) then says e else value_at says none es k

  -- the entry of a key stands there, between lesser and greater keys
  pub record IsPlace (es : List E) (k : K) (at : ℕ) : Type 0 where
    pub before : List E
    pub entry : E
    pub after : List E
    pub split : es ≡ before ++ entry ∷ after
    pub is_at : at ≡ length before
    pub below : list_all (λ e. is_lt (cmp (key e) k)) before ≡ true
    pub same : is_eq (cmp (key entry) k) ≡ true
    pub above : list_all (λ e. is_gt (cmp (key e) k)) after ≡ true

  -- the key has no entry, which would stand there
  pub record IsGap (es : List E) (k : K) (at : ℕ) : Type 0 where
    pub before : List E
    pub after : List E
    pub split : es ≡ before ++ after
    pub is_at : at ≡ length before
    pub below : list_all (λ e. is_lt (cmp (key e) k)) before ≡ true
    pub above : list_all (λ e. is_gt (cmp (key e) k)) after ≡ true
