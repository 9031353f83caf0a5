-- The next row that passes a test, by places and by slots.
use Rattle.row_table.proofs.Common.{◌≡◌, ℕ, zero, suc, ◌<◌, ◌≤◌, Bool, true, false, List, [], ◌∷◌, Option, Some, None}
use Rattle.row_table.proofs.Common.{length, map, refl, sym, ap, ◌∙◌, arith, IfSome, IfNone, slice_get, cases_lt}
use Rattle.row_table.proofs.Common.{slice_get_within, by_cases, IsNext, is_due_by, live, held, filled_from, IsPlaceOf}
use Rattle.row_table.proofs.Common.{moment_of, Row, ◌==◌, slice_index_or, option_map, rules, list_any, get_or-map}
use Rattle.row_table.proofs.Common.{has_come, IsSome}
use Rattle.std.proofs.Common.{◌||◌, eq-eqb}
use Rattle.std.proofs.lemmas.Bool.{cases_Bool, eqb-true, le-leb, leb-true}
use Rattle.chains.specs.Places.{IsFirst}
use Rattle.chains.proofs.Places.{first_same}
use Rattle.least_moment.specs.Moments.{HasCome, IsDue, moment_at, IsNextDue, NoneDue, IsLeast}
use Rattle.row_table.specs.Rows.{passes}
use Rattle.row_table.specs.Slots.{IsNextSlot}
use Rattle.row_table.proofs.Slots.{IsSlot, slot_at, held_at, slot_of_row, slots_below, places_below, some_same}
use Rattle.row_table.proofs.Slots.{the_entry, slot_holds, length-filled}

or_true : (a b : Bool) → b ≡ true → (a || b) ≡ true
or_true true b e = refl
or_true false b e = e

true_alike : (a b : Bool) → (a ≡ true → b ≡ true) → (b ≡ true → a ≡ true) → a ≡ b
true_alike true b f g = sym (f refl)
true_alike false true f g = g refl
true_alike false false f g = refl

-- what passes is a row
the_row : {T : Type 0} (test : Row T → Bool) (o : Option (Row T)) → passes test o ≡ true
    → (row : Row T) × (o ≡ Some row)
the_row test None e = cc
the_row test (Some row) e = (row, refl)

-- ---- from slots to places

-- rows from a place on are those of the slots from one on
pub record AreFrom {T : Type 0} (slots : List (Option (Row T))) (from start : ℕ) : Type 0 where
  pub slot : (at slot : ℕ) → IsSlot slots at slot → from ≤ at → start ≤ slot
  pub place : (at slot : ℕ) → IsSlot slots at slot → start ≤ slot → from ≤ at

module _ {T : Type 0} (slots : List (Option (Row T))) where
  pub from_first : AreFrom slots 0 0
  from_first = record { slot = λ at slot is on. omega arith; place = λ at slot is on. omega arith }

  pub from_behind : (from start : ℕ) → IsSlot slots from start → AreFrom slots (suc from) (suc start)
  from_behind from start is = search (rules, slots_below, places_below)

  pub from_there : (from start : ℕ) → IsSlot slots from start → AreFrom slots from start
  from_there from start is = search (rules, cases_lt, places_below, slots_below)

  module _ (test : Row T → Bool) where
    slot_of_passed : (at : ℕ) → passes test (slice_get (live slots) at) ≡ true
        → (slot : ℕ) × IsSlot slots at slot × (passes test (held slots slot) ≡ true)
    slot_of_passed at e = search (rules, the_row, slot_of_row, held_at)

    next_none : (from start : ℕ) → AreFrom slots from start → IsNextSlot test slots start None
        → IsNext test (live slots) from None
    next_none from start are none at on e = search (rules, slot_of_passed)

    next_some : (from start at slot : ℕ) → AreFrom slots from start → IsSlot slots at slot
        → IsNextSlot test slots start (Some slot)
        → IsNext test (live slots) from (Some at)
    next_some from start at slot are is next = search (rules, held_at, slot_of_passed, slots_below)

    -- the place of the next slot is the next place
    pub next_place : (filled : List ℕ) (from start : ℕ) (slot at : Option ℕ) → filled ≡ filled_from slots 0
        → AreFrom slots from start
        → IsPlaceOf filled slot at → IsNextSlot test slots start slot → IsNext test (live slots) from at
    next_place filled from start None None e are is next = next_none from start are next
    next_place filled from start None (Some at) e are is next = absurd is
    next_place filled from start (Some slot) None e are is next = absurd is
    next_place filled from start (Some slot) (Some at) e are is next = search (rules, next_some, slot_at)

-- it is one of the places
pub next_within : {T : Type 0} (test : Row T → Bool) (rows : List (Row T)) (from : ℕ) (result : Option ℕ)
    → IsNext test rows from result
    → IfSome result (λ at. at < length rows)
next_within test rows from None next = tt
next_within test rows from (Some at) next = search (rules, the_row, slice_get_within)

-- a place of a slot is one of the places
pub place_within : {T : Type 0} (slots : List (Option (Row T))) (filled : List ℕ) (slot at : Option ℕ)
    → filled ≡ filled_from slots 0 → IsPlaceOf filled slot at → IfSome at (λ at. at < length (live slots))
place_within slots filled slot None e is = tt
place_within slots filled None (Some at) e is = absurd is
place_within slots filled (Some slot) (Some at) e is =
    let low = slice_get_within filled at slot is in
    let long = ap length e ∙ length-filled slots 0 in
    omega (arith, low, long)

-- ---- an owner's rows

module _ {T : Type 0} (owner_in : Row T → ℕ) (slots : List (Option (Row T))) (stands : List (Option ℕ)) (owner : ℕ)
    (e : stands ≡ map (option_map owner_in) slots) where
  owned : (o : Option (Row T)) → option_map owner_in o ≡ Some owner → passes (λ row. owner_in row == owner) o ≡ true
  owned None e = cc
  owned (Some row) e = eq-eqb (owner_in row) owner (some_same (owner_in row) owner e)

  owner_of_passed : (o : Option (Row T)) → passes (λ row. owner_in row == owner) o ≡ true
      → option_map owner_in o ≡ Some owner
  owner_of_passed None e = cc
  owner_of_passed (Some row) e = ap Some (eqb-true (owner_in row) owner e)

  pub stand_at : (slot : ℕ) → slice_index_or stands slot None ≡ option_map owner_in (held slots slot)
  stand_at slot = ap (λ stands. slice_index_or stands slot None) e ∙ get_or-map (option_map owner_in) slots slot None

  some_owner : (o : Option (Row T)) → option_map owner_in o ≡ Some owner → IsSome o
  some_owner None e = cc
  some_owner (Some row) e = refl

  pub owner_there : (slot : ℕ) → slice_index_or stands slot None ≡ Some owner → IsSome (held slots slot)
  owner_there slot there = some_owner (held slots slot) (sym (stand_at slot) ∙ there)

  pub stands_if : (slot : ℕ) → passes (λ row. owner_in row == owner) (held slots slot) ≡ true
      → slice_index_or stands slot None ≡ Some owner
  stands_if slot there = stand_at slot ∙ owner_of_passed (held slots slot) there

  -- what stands next in the owner's chain is the owner's next slot
  pub next_of_owner : (from : ℕ) (result : Option ℕ)
      → IsFirst (λ slot. slice_index_or stands slot None ≡ Some owner) from result
      → IsNextSlot (λ row. owner_in row == owner) slots from result
  next_of_owner = search (rules, first_same, owned, stand_at, stands_if)

module _ {T : Type 0} (owner_in : Row T → ℕ) (slots : List (Option (Row T))) (stands : List (Option ℕ)) (at slot : ℕ)
    (e : stands ≡ map (option_map owner_in) slots) (is : IsSlot slots at slot) where
  -- a row stands in the chain of its owner
  pub stands_there : (row : Row T) → slice_get (live slots) at ≡ Some row
      → slice_index_or stands slot None ≡ Some (owner_in row)
  stands_there row there =
      stand_at owner_in slots stands 0 e slot ∙ ap (option_map owner_in) (sym (held_at slots at slot is) ∙ there)

  -- what stands next in that chain is a row
  pub next_held : (next : Option ℕ)
      → ((owner : ℕ) → slice_index_or stands slot None ≡ Some owner
      → IfSome next (λ other. slice_index_or stands other None ≡ Some owner))
      → IfSome next (λ other. IsSome (held slots other))
  next_held None same = tt
  next_held (Some next) same =
      let row = the_entry (held slots slot) (slot_holds slots at slot is) in
      let owner = owner_in row.0 in
      owner_there owner_in slots stands owner e next
      (same owner (stand_at owner_in slots stands owner e slot ∙ ap (option_map owner_in) row.1))

-- ---- moments

comes : (time : ℕ) (moment : Option ℕ) → HasCome time moment → has_come time moment ≡ true
comes time None come = absurd come
comes time (Some moment) come = le-leb moment time come

come_if : (time : ℕ) (moment : Option ℕ) → has_come time moment ≡ true → HasCome time moment
come_if time None e = cc
come_if time (Some moment) e = leb-true moment time e

module _ {T : Type 0} (slots : List (Option (Row T))) (moments : List (Option ℕ))
    (e : moments ≡ map moment_of slots) where
  due_of : (time : ℕ) (o : Option (Row T)) → passes (is_due_by time) o ≡ has_come time (moment_of o)
  due_of time None = refl
  due_of time (Some row) = refl

  moment_there : (slot : ℕ) → moment_at moments slot ≡ moment_of (held slots slot)
  moment_there slot = ap (λ moments. slice_index_or moments slot None) e ∙ get_or-map moment_of slots slot None

  due_at : (time slot : ℕ) → passes (is_due_by time) (held slots slot) ≡ has_come time (moment_at moments slot)
  due_at time slot = due_of time (held slots slot) ∙ ap (has_come time) (sym (moment_there slot))

  due_if : (time slot : ℕ) → IsDue moments time slot → passes (is_due_by time) (held slots slot) ≡ true
  due_if time slot due = due_at time slot ∙ comes time (moment_at moments slot) due

  is_due : (time slot : ℕ) → passes (is_due_by time) (held slots slot) ≡ true → IsDue moments time slot
  is_due time slot e = come_if time (moment_at moments slot) (sym (due_at time slot) ∙ e)

  pub next_due_is : (time from : ℕ) (result : Option ℕ) → IfSome result (IsNextDue moments time from)
      → IfNone result (NoneDue moments time from) → IsNextSlot (is_due_by time) slots from result
  next_due_is time from None some none = λ n on e. none n on (is_due time n e)
  next_due_is time from (Some at) some none = search (rules, due_if, is_due)

  any_live : (test : Row T → Bool) (slots : List (Option (Row T))) (slot : ℕ) → passes test (held slots slot) ≡ true
      → list_any test (live slots) ≡ true
  any_live test [] slot e = cc
  any_live test (None ∷ slots) zero e = cc
  any_live test (None ∷ slots) (suc slot) e = any_live test slots slot e
  any_live test (Some row ∷ slots) zero e = ap (λ b. b || list_any test (live slots)) e
  any_live test (Some row ∷ slots) (suc slot) e = search (rules, or_true, any_live test slots slot e)

  slot_of_any : (test : Row T → Bool) (slots : List (Option (Row T))) → list_any test (live slots) ≡ true
      → (slot : ℕ) × (passes test (held slots slot) ≡ true)
  slot_of_any test [] e = cc
  slot_of_any test (None ∷ slots) e = let found = slot_of_any test slots e in (suc found.0, found.1)
  slot_of_any test (Some row ∷ slots) e = by_cases (cases_Bool (test row)) (λ passed. (zero, passed))
      (λ failed. let found = slot_of_any test slots (sym (ap (λ b. b || list_any test (live slots)) failed) ∙ e) in
      (suc found.0, found.1))

  -- the least moment has come where one of those that are there has
  pub least_of_live : (least : Option ℕ) → IsLeast moments least → (time : ℕ)
      → has_come time least ≡ list_any (is_due_by time) (live slots)
  least_of_live least is_least time = search (rules, true_alike, come_if, any_live, due_if, slot_of_any, comes, is_due)
