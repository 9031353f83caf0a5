-- The numbers of keys.
use Rattle.std.specs.Prelude.{◌≡◌, ℕ, Bool, true, Option, None, map}
use Rattle.std.specs.Option.{option_or}
use Rattle.std.specs.Map.{lookup}
use Rattle.std.specs.declared.cmp.Ordering.{Ordering}
use Rattle.fairness.specs.Lists.Sorted.{are_ascending}
use Rattle.fair_rates.specs.declared.bandwidth.numbers.Numbers.{Numbers}

module _ {K : Type 0} where
  -- the number of the first key that passes
  abbrev pub number_in : (K → Bool) → Numbers K → Option ℕ
  number_in passes numbers = option_or (lookup passes numbers.listed.items) (lookup passes numbers.later.entries)

  -- no key has a number
  abbrev pub HaveNone : Numbers K → Type 0
  HaveNone numbers = (passes : K → Bool) → number_in passes numbers ≡ None

  -- the keys of the list stand in their order
  abbrev pub AreInOrder : (K → K → Ordering) → Numbers K → Type 0
  AreInOrder cmp numbers = are_ascending cmp (map (λ entry. entry.0) numbers.listed.items) ≡ true
