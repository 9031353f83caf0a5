-- The slots that hold a row, where a row comes, changes or leaves.
use Rattle.row_table.proofs.Common.{common_steps, ◌≡◌, ℕ, zero, suc, ◌+◌, ◌<◌, ◌≤◌, List, [], ◌∷◌, ◌++◌, Option, Some}
use Rattle.row_table.proofs.Common.{None, length, map, take, refl, sym, subst, ap, ◌∙◌, arith, slice_get, slice_set}
use Rattle.row_table.proofs.Common.{IsSome, is_some, IfSome, IfNone, filter, vec_capacity, get_or_from_slice_get}
use Rattle.row_table.proofs.Common.{slice_get_within, cases_lt, live, held, filled_from, IsPlaceOf, Row, get_or, rules}
use Rattle.row_table.proofs.Common.{remove, AllPairs, slice_get_read}
use Rattle.std.proofs.Common.{add-one, length-take-le}
use Rattle.std.specs.List.{All}
use Rattle.std.specs.Vec.{vec_len}
use Rattle.std.specs.declared.vec.Vec.{Vec}
use Rattle.std.proofs.lemmas.Option.{slice_get-get_or}
use Rattle.std.proofs.Math.Seq.{take-suc}
use Rattle.std.proofs.lemmas.List.Kept.{AllPairs-cons}

pub some_same : (a b : ℕ) → Some a ≡ Some b → a ≡ b
some_same a b e = cc

-- what is said to be there
pub the_entry : {A : Type 0} (o : Option A) → IsSome o → (a : A) × (o ≡ Some a)
the_entry None e = cc
the_entry (Some a) e = (a, refl)

module _ {T : Type 0} where
  -- the row at that place is the one that this slot holds
  abbrev pub IsSlot : List (Option (Row T)) → ℕ → ℕ → Type 0
  IsSlot [] at slot = ⊥
  IsSlot (None ∷ slots) at zero = ⊥
  IsSlot (None ∷ slots) at (suc slot) = IsSlot slots at slot
  IsSlot (Some row ∷ slots) zero zero = Unit {0}
  IsSlot (Some row ∷ slots) zero (suc slot) = ⊥
  IsSlot (Some row ∷ slots) (suc at) zero = ⊥
  IsSlot (Some row ∷ slots) (suc at) (suc slot) = IsSlot slots at slot

  -- it is the one that is listed at that place
  pub slot_listed : (slots : List (Option (Row T))) (from at slot : ℕ) → IsSlot slots at slot
      → slice_get (filled_from slots from) at ≡ Some (from + slot)
  slot_listed [] from at slot is = absurd is
  slot_listed (None ∷ slots) from at zero is = absurd is
  slot_listed (None ∷ slots) from at (suc slot) is = search (rules, slot_listed slots (suc from))
  slot_listed (Some row ∷ slots) from zero zero is = let e : from ≡ from + zero = omega arith in ap Some e
  slot_listed (Some row ∷ slots) from zero (suc slot) is = absurd is
  slot_listed (Some row ∷ slots) from (suc at) zero is = absurd is
  slot_listed (Some row ∷ slots) from (suc at) (suc slot) is = search (rules, slot_listed slots (suc from))

  pub listed_slot : (slots : List (Option (Row T))) (from at listed : ℕ)
      → slice_get (filled_from slots from) at ≡ Some listed
      → (slot : ℕ) × (listed ≡ from + slot) × IsSlot slots at slot
  listed_slot [] from at listed e = cc
  listed_slot (None ∷ slots) from at listed e =
      let found = listed_slot slots (suc from) at listed e in
      (suc found.0, (let e : listed ≡ suc from + found.0 = found.1 in omega (arith, e)), found.2)
  listed_slot (Some row ∷ slots) from zero listed e =
      (zero, (let same : from ≡ listed = some_same from listed e in omega (arith, same)), tt)
  listed_slot (Some row ∷ slots) from (suc at) listed e =
      let found = listed_slot slots (suc from) at listed e in
      (suc found.0, (let e : listed ≡ suc from + found.0 = found.1 in omega (arith, e)), found.2)

  pub slot_at : (slots : List (Option (Row T))) (filled : List ℕ) (at slot : ℕ) → filled ≡ filled_from slots 0
      → slice_get filled at ≡ Some slot → IsSlot slots at slot
  slot_at slots filled at slot e listed = search (rules, listed_slot)

  -- what it holds is the row at that place
  pub held_at : (slots : List (Option (Row T))) (at slot : ℕ) → IsSlot slots at slot
      → slice_get (live slots) at ≡ held slots slot
  held_at [] at slot is = absurd is
  held_at (None ∷ slots) at zero is = absurd is
  held_at (None ∷ slots) at (suc slot) is = held_at slots at slot is
  held_at (Some row ∷ slots) zero zero is = refl
  held_at (Some row ∷ slots) zero (suc slot) is = absurd is
  held_at (Some row ∷ slots) (suc at) zero is = absurd is
  held_at (Some row ∷ slots) (suc at) (suc slot) is = held_at slots at slot is

  pub slot_holds : (slots : List (Option (Row T))) (at slot : ℕ) → IsSlot slots at slot → IsSome (held slots slot)
  slot_holds [] at slot is = absurd is
  slot_holds (None ∷ slots) at zero is = absurd is
  slot_holds (None ∷ slots) at (suc slot) is = slot_holds slots at slot is
  slot_holds (Some row ∷ slots) zero zero is = refl
  slot_holds (Some row ∷ slots) zero (suc slot) is = absurd is
  slot_holds (Some row ∷ slots) (suc at) zero is = absurd is
  slot_holds (Some row ∷ slots) (suc at) (suc slot) is = slot_holds slots at slot is

  -- each slot that holds a row is that of a place, and each row has a slot
  pub place_of_held : (slots : List (Option (Row T))) (slot : ℕ) → IsSome (held slots slot)
      → (at : ℕ) × IsSlot slots at slot
  place_of_held [] slot e = cc
  place_of_held (None ∷ slots) zero e = cc
  place_of_held (None ∷ slots) (suc slot) e = place_of_held slots slot e
  place_of_held (Some row ∷ slots) zero e = (zero, tt)
  place_of_held (Some row ∷ slots) (suc slot) e = let found = place_of_held slots slot e in (suc found.0, found.1)

  pub slot_of_row : (slots : List (Option (Row T))) (at : ℕ) (row : Row T) → slice_get (live slots) at ≡ Some row
      → (slot : ℕ) × IsSlot slots at slot
  slot_of_row [] at row e = cc
  slot_of_row (None ∷ slots) at row e = let found = slot_of_row slots at row e in (suc found.0, found.1)
  slot_of_row (Some one ∷ slots) zero row e = (zero, tt)
  slot_of_row (Some one ∷ slots) (suc at) row e = let found = slot_of_row slots at row e in (suc found.0, found.1)

  -- another row, or none, in place of one
  pub live_changed : (slots : List (Option (Row T))) (at slot : ℕ) (new : Row T) → IsSlot slots at slot
      → live (slice_set slots slot (Some new)) ≡ slice_set (live slots) at new
  live_changed [] at slot new is = absurd is
  live_changed (None ∷ slots) at zero new is = absurd is
  live_changed (None ∷ slots) at (suc slot) new is = live_changed slots at slot new is
  live_changed (Some row ∷ slots) zero zero new is = refl
  live_changed (Some row ∷ slots) zero (suc slot) new is = absurd is
  live_changed (Some row ∷ slots) (suc at) zero new is = absurd is
  live_changed (Some row ∷ slots) (suc at) (suc slot) new is = search (rules, live_changed slots)

  pub filled_changed : (slots : List (Option (Row T))) (from at slot : ℕ) (new : Row T) → IsSlot slots at slot
      → filled_from (slice_set slots slot (Some new)) from ≡ filled_from slots from
  filled_changed [] from at slot new is = absurd is
  filled_changed (None ∷ slots) from at zero new is = absurd is
  filled_changed (None ∷ slots) from at (suc slot) new is = filled_changed slots (suc from) at slot new is
  filled_changed (Some row ∷ slots) from zero zero new is = refl
  filled_changed (Some row ∷ slots) from zero (suc slot) new is = absurd is
  filled_changed (Some row ∷ slots) from (suc at) zero new is = absurd is
  filled_changed (Some row ∷ slots) from (suc at) (suc slot) new is = search (rules, filled_changed slots (suc from))

  pub live_taken : (slots : List (Option (Row T))) (at slot : ℕ) → IsSlot slots at slot
      → live (slice_set slots slot None) ≡ remove (live slots) at
  live_taken [] at slot is = absurd is
  live_taken (None ∷ slots) at zero is = absurd is
  live_taken (None ∷ slots) at (suc slot) is = live_taken slots at slot is
  live_taken (Some row ∷ slots) zero zero is = refl
  live_taken (Some row ∷ slots) zero (suc slot) is = absurd is
  live_taken (Some row ∷ slots) (suc at) zero is = absurd is
  live_taken (Some row ∷ slots) (suc at) (suc slot) is = ap (λ rows. row ∷ rows) (live_taken slots at slot is)

  pub filled_taken : (slots : List (Option (Row T))) (from at slot : ℕ) → IsSlot slots at slot
      → filled_from (slice_set slots slot None) from ≡ remove (filled_from slots from) at
  filled_taken [] from at slot is = absurd is
  filled_taken (None ∷ slots) from at zero is = absurd is
  filled_taken (None ∷ slots) from at (suc slot) is = filled_taken slots (suc from) at slot is
  filled_taken (Some row ∷ slots) from zero zero is = refl
  filled_taken (Some row ∷ slots) from zero (suc slot) is = absurd is
  filled_taken (Some row ∷ slots) from (suc at) zero is = absurd is
  filled_taken (Some row ∷ slots) from (suc at) (suc slot) is = search (rules, filled_taken slots (suc from))

  -- more slots
  pub live_append : (slots more : List (Option (Row T))) → live (slots ++ more) ≡ live slots ++ live more
  live_append [] more = refl
  live_append (None ∷ slots) more = live_append slots more
  live_append (Some row ∷ slots) more = ap (λ rows. row ∷ rows) (live_append slots more)

  pub filled_append : (slots more : List (Option (Row T))) (from end : ℕ) → end ≡ from + length slots
      → filled_from (slots ++ more) from ≡ filled_from slots from ++ filled_from more end
  filled_append [] more from end e = let same : from ≡ end = omega (arith, e) in ap (filled_from more) same
  filled_append (None ∷ slots) more from end e = filled_append slots more (suc from) end (omega (arith, e))
  filled_append (Some row ∷ slots) more from end e =
      ap (λ filled. from ∷ filled) (filled_append slots more (suc from) end (omega (arith, e)))

  -- where no slot is empty
  pub live_whole : (rows : List (Row T)) → live (map Some rows) ≡ rows
  live_whole [] = refl
  live_whole (row ∷ rows) = ap (λ rows. row ∷ rows) (live_whole rows)

  pub live_filter : (slots : List (Option (Row T))) → filter is_some slots ≡ map Some (live slots)
  live_filter [] = refl
  live_filter (None ∷ slots) = live_filter slots
  live_filter (Some row ∷ slots) = ap (λ rows. Some row ∷ rows) (live_filter slots)

  -- how many hold a row
  pub length-filled : (slots : List (Option (Row T))) (from : ℕ) → length (filled_from slots from) ≡ length (live slots)
  length-filled [] from = refl
  length-filled (None ∷ slots) from = length-filled slots (suc from)
  length-filled (Some row ∷ slots) from = ap suc (length-filled slots (suc from))

  pub length-live : (slots : List (Option (Row T))) → length (live slots) ≤ length slots
  length-live [] = omega arith
  length-live (None ∷ slots) = let less = length-live slots in omega (arith, less)
  length-live (Some row ∷ slots) = let less = length-live slots in omega (arith, less)

  -- one more than before a slot that holds one
  pub length-live_before : (slots : List (Option (Row T))) (slot : ℕ) → IsSome (held slots slot)
      → length (live (take slot slots)) < length (live slots)
  length-live_before [] slot e = cc
  length-live_before (None ∷ slots) zero e = cc
  length-live_before (None ∷ slots) (suc slot) e = length-live_before slots slot e
  length-live_before (Some row ∷ slots) zero e = omega arith
  length-live_before (Some row ∷ slots) (suc slot) e = let less = length-live_before slots slot e in omega (arith, less)

  pub held_within : (slots : List (Option (Row T))) (slot : ℕ) → IsSome (held slots slot) → slot < length slots
  held_within [] slot e = cc
  held_within (one ∷ slots) zero e = omega arith
  held_within (one ∷ slots) (suc slot) e = let less = held_within slots slot e in omega (arith, less)

  pub len-filled : {Z : Type 0} (filled : Vec ℕ Z) (slots : List (Option (Row T))) → filled.items ≡ filled_from slots 0
      → vec_len filled ≡ length (live slots)
  len-filled filled slots e = filled.ok.0 ∙ ap length e ∙ length-filled slots 0

  -- there is room for as many as are listed
  pub room_for : {Z : Type 0} (filled : Vec ℕ Z) (slots : List (Option (Row T))) → filled.items ≡ filled_from slots 0
      → length (live slots) ≤ vec_capacity filled
  room_for filled slots e = let len = len-filled filled slots e in let fits = filled.ok.1 in omega (arith, len, fits)

  -- they are listed in ascending order
  listed_past : (slots : List (Option (Row T))) (from : ℕ) → All (λ slot. from < slot) (filled_from slots (suc from))
  listed_past slots from k d low = search (rules, listed_slot, slice_get-get_or)

  pub ascends : (slots : List (Option (Row T))) (from : ℕ)
      → AllPairs (λ one other. one < other) (filled_from slots from)
  ascends [] from = λ i j d less low. absurd (omega (arith, low))
  ascends (None ∷ slots) from = ascends slots (suc from)
  ascends (Some row ∷ slots) from = search (rules, AllPairs-cons, listed_past, ascends slots (suc from))

  -- places and slots are in one order
  pub slots_below : (slots : List (Option (Row T))) (a slot b other : ℕ) → IsSlot slots a slot → IsSlot slots b other
      → a < b → slot < other
  slots_below slots a slot b other is_a is_b less =
      let filled : List ℕ = filled_from slots 0 in
      let listed_b = slot_listed slots 0 b other is_b in
      let at_a = get_or_from_slice_get filled a (0 + slot) 0 (slot_listed slots 0 a slot is_a) in
      let at_b = get_or_from_slice_get filled b (0 + other) 0 listed_b in
      let below = ascends slots 0 a b 0 less (slice_get_within filled b (0 + other) listed_b) in
      omega (arith, at_a, at_b, below)

  same_slot : (slots : List (Option (Row T))) (a slot b other : ℕ) → IsSlot slots a slot → IsSlot slots b other
      → a ≡ b → slot ≡ other
  same_slot slots a slot b other is_a is_b same =
      grind (
        arith,
        common_steps,
        some_same (0 + slot) (0 + other) (sym (slot_listed slots 0 a slot is_a) ∙ ap
            (slice_get (filled_from slots 0)) same ∙ slot_listed slots 0 b other is_b),
        slot_listed slots 0 a slot is_a,
        slot_listed slots 0 b other is_b,
      )

  pub places_below : (slots : List (Option (Row T))) (a slot b other : ℕ) → IsSlot slots a slot → IsSlot slots b other
      → slot < other → a < b
  places_below slots a slot b other is_a is_b less = search (rules, cases_lt, slots_below, same_slot)

  -- a search in their list finds what holds a row
  pub place_found : (slots : List (Option (Row T))) (filled : List ℕ) (slot : ℕ) (result : Option ℕ)
      → filled ≡ filled_from slots 0
      → IsSome (held slots slot) → IfSome result (λ at. slice_get filled at ≡ Some slot)
      → IfNone result (AllPairs (λ one other. one < other) filled → (at : ℕ) → slice_get filled at ≡ Some slot → ⊥)
      → IsPlaceOf filled (Some slot) result
  place_found slots filled slot (Some at) e there some none = some
  place_found slots filled slot None e there some none =
      let found = place_of_held slots slot there in
      let same : 0 + slot ≡ slot = omega arith in
      none (subst (AllPairs (λ one other. one < other)) (sym e) (ascends slots 0)) found.0
      (ap (λ filled. slice_get filled found.0) e ∙ slot_listed slots 0 found.0 slot found.1 ∙ ap Some same)

  -- one slot more
  pub held_is : (slots : List (Option (Row T))) (slot : ℕ) (one : Option (Row T)) → slot < length slots
      → one ≡ get_or slots slot one
      → held slots slot ≡ one
  held_is slots slot one low is = search (rules, get_or_from_slice_get, slice_get_read)

  pub filled_more : (slots : List (Option (Row T))) (slot : ℕ) (one : Option (Row T)) → slot < length slots
      → held slots slot ≡ one
      → filled_from (take (slot + 1) slots) 0 ≡ filled_from (take slot slots) 0 ++ filled_from (one ∷ []) slot
  filled_more slots slot one low is =
      let more : take (slot + 1) slots ≡ take slot slots ++ one ∷ [] =
      rw add-one (take-suc slots slot None low ∙ ap (λ one. take slot slots ++ one ∷ []) is) in
      let long = length-take-le slot slots (omega (arith, low)) in
      ap (λ (slots : List (Option (Row T))). filled_from slots 0) more
      ∙ filled_append (take slot slots) (one ∷ []) 0 slot (omega (arith, low, long))
