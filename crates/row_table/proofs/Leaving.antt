-- The slots whose rows left since the mark, and are kept until the next one.
use Rattle.row_table.proofs.Common.{common_steps, ◌≡◌, ℕ, zero, suc, ◌<◌, ◌-◌, Bool, true, false, List, [], ◌∷◌, ◌++◌}
use Rattle.row_table.proofs.Common.{Option, Some, None, All, IsSome, length, take, refl, sym, ap, ◌∙◌, arith, slice_get}
use Rattle.row_table.proofs.Common.{slice_set, get_or_from_slice_get, slice_get_within, held, emptied, Row}
use Rattle.row_table.proofs.Common.{slice_index_or, rules, length-append, IsLeft}
use Rattle.std.proofs.Common.{◌≢◌}
use Rattle.std.proofs.lemmas.List.{set_comm, length-set, set-append_left, get_or-set_other, get_or-take}
use Rattle.std.proofs.Math.ListN.{get_or-append}
use Rattle.std.proofs.lemmas.List.Elements.{All-push}
use Rattle.undo_list.specs.Versions.{Versions}
use Rattle.row_table.proofs.Slots.{held_within}

pub flag_there : (flags : List Bool) (i : ℕ) → slice_index_or flags i true ≡ false → slice_get flags i ≡ Some false
flag_there [] i is = cc
flag_there (flag ∷ flags) zero is = ap Some is
flag_there (flag ∷ flags) (suc i) is = flag_there flags i is

module _ {T : Type 0} where
  pub length_emptied : (slots : List (Option (Row T))) (left : List ℕ) → length (emptied slots left) ≡ length slots
  length_emptied slots [] = refl
  length_emptied slots (first ∷ rest) = length-set (emptied slots rest) first None ∙ length_emptied slots rest

  -- the last of them may be emptied first
  pub emptied_more : (slots : List (Option (Row T))) (left : List ℕ) (slot : ℕ)
      → emptied slots (left ++ slot ∷ []) ≡ emptied (slice_set slots slot None) left
  emptied_more slots [] slot = refl
  emptied_more slots (first ∷ rest) slot =
      ap (λ (slots : List (Option (Row T))). slice_set slots first None) (emptied_more slots rest slot)

  -- a slot that still holds a row is not the one that is emptied
  another : (slots : List (Option (Row T))) (first slot : ℕ) → IsSome (held (slice_set slots first None) slot) → first ≢ slot
  another [] first slot there = cc
  another (one ∷ slots) zero zero there = cc
  another (one ∷ slots) zero (suc slot) there = λ e. absurd (omega (arith, e))
  another (one ∷ slots) (suc first) zero there = λ e. absurd (omega (arith, e))
  another (one ∷ slots) (suc first) (suc slot) there = λ e. another slots first slot there (omega (arith, e))

  held_first : (slots : List (Option (Row T))) (first slot : ℕ) → IsSome (held (slice_set slots first None) slot)
      → held (slice_set slots first None) slot ≡ held slots slot
  held_first slots first slot there = search (rules, get_or-set_other, another)

  there_before : (slots : List (Option (Row T))) (first slot : ℕ) → IsSome (held (slice_set slots first None) slot)
      → IsSome (held slots slot)
  there_before slots first slot there = search (rules, held_first)

  -- and it holds the row that it held
  pub held_still : (slots : List (Option (Row T))) (left : List ℕ) (slot : ℕ) → IsSome (held (emptied slots left) slot)
      → held (emptied slots left) slot ≡ held slots slot
  held_still slots [] slot there = refl
  held_still slots (first ∷ rest) slot there =
      held_first (emptied slots rest) first slot there
      ∙ held_still slots rest slot (there_before (emptied slots rest) first slot there)

  others : (slots : List (Option (Row T))) (left : List ℕ) (slot : ℕ) → IsSome (held (emptied slots left) slot)
      → (k d : ℕ) → k < length left → slice_index_or left k d ≢ slot
  others slots [] slot there k d low = absurd (omega (arith, low))
  others slots (first ∷ rest) slot there zero d low = another (emptied slots rest) first slot there
  others slots (first ∷ rest) slot there (suc k) d low =
      others slots rest slot (there_before (emptied slots rest) first slot there) k d (omega (arith, low))

  pub emptied_within : (slots : List (Option (Row T))) (left : List ℕ) (slot : ℕ) → IsSome (held (emptied slots left) slot)
      → slot < length slots
  emptied_within slots left slot there = search (rules, held_within, length_emptied)

  -- what it holds changes
  pub emptied_set : (slots : List (Option (Row T))) (left : List ℕ) (slot : ℕ) (one : Option (Row T))
      → IsSome (held (emptied slots left) slot) → emptied (slice_set slots slot one) left ≡ slice_set (emptied slots left) slot one
  emptied_set slots [] slot one there = refl
  emptied_set slots (first ∷ rest) slot one there =
      ap (λ (slots : List (Option (Row T))). slice_set slots first None)
      (emptied_set slots rest slot one (there_before (emptied slots rest) first slot there))
      ∙ sym (set_comm (emptied slots rest) first slot None one (another (emptied slots rest) first slot there))

  pub emptied_taken : (slots : List (Option (Row T))) (left new : List ℕ) (slot : ℕ) → IsSome (held (emptied slots left) slot)
      → new ≡ left ++ slot ∷ [] → emptied slots new ≡ slice_set (emptied slots left) slot None
  emptied_taken slots left new slot there is = search (rules, emptied_more, emptied_set)

  -- more slots
  pub emptied_append : (slots more : List (Option (Row T))) (left : List ℕ) → All (λ slot. slot < length slots) left
      → emptied (slots ++ more) left ≡ emptied slots left ++ more
  emptied_append slots more [] within = refl
  emptied_append slots more (first ∷ rest) within =
      let low = within 0 first (omega arith) in
      let long = length_emptied slots rest in
      ap (λ (slots : List (Option (Row T))). slice_set slots first None)
      (emptied_append slots more rest (λ k d less. within (suc k) d (omega (arith, less))))
      ∙ set-append_left (emptied slots rest) more first None (omega (arith, low, long))

  -- a slot behind them
  pub held_behind : (slots : List (Option (Row T))) (left : List ℕ) (slot : ℕ) → All (λ other. other < slot) left
      → held (emptied slots left) slot ≡ held slots slot
  held_behind slots [] slot below = refl
  held_behind slots (first ∷ rest) slot below =
      let low = below 0 first (omega arith) in
      get_or-set_other (emptied slots rest) first slot None None (λ e. absurd (omega (arith, low, e)))
      ∙ held_behind slots rest slot (λ k d less. below (suc k) d (omega (arith, less)))

-- ---- the list of slots, and those whose rows left

module _ {T : Type 0} (list : Versions (Option (Row T))) (left : List ℕ) (are : All (IsLeft list) left) where
  pub left_within : All (λ slot. slot < length list.items) left
  left_within k d low = (are k d low).within

  pub left_unsaved : All (λ slot. slice_get list.saved slot ≡ Some false) left
  left_unsaved k d low = flag_there list.saved (slice_index_or left k d) (are k d low).unsaved

  pub left_pushed : (new : Versions (Option (Row T))) (one : Option (Row T)) → new.items ≡ list.items ++ one ∷ []
      → new.before ≡ list.before → new.saved ≡ list.saved ++ true ∷ [] → All (IsLeft new) left
  left_pushed new one items before saved k d low =
      grind (arith, common_steps, length-append, slice_get_within, flag_there, get_or-append)

  pub left_popped : (new : Versions (Option (Row T))) (one : Option (Row T)) → length list.before < length (emptied list.items left)
      → list.items ≡ new.items ++ one ∷ [] → new.before ≡ list.before
      → new.saved ≡ take (length list.items - 1) list.saved → All (IsLeft new) left
  left_popped new one after items before saved k d low = search (rules, length-append, length_emptied, get_or-take)

  pub left_changed : (new : Versions (Option (Row T))) (slot : ℕ) (one : Option (Row T)) → IsSome (held (emptied list.items left) slot)
      → new.items ≡ slice_set list.items slot one → new.before ≡ list.before → new.saved ≡ slice_set list.saved slot true
      → All (IsLeft new) left
  left_changed new slot one there items before saved k d low = search (rules, length-set, get_or-set_other, others)

  pub left_more : (new : List ℕ) (slot : ℕ) → new ≡ left ++ slot ∷ [] → slot < length list.before → slot < length list.items
      → slice_get list.saved slot ≡ Some false → All (IsLeft list) new
  left_more new slot is before within unsaved = grind (arith, common_steps, All-push, get_or_from_slice_get)
