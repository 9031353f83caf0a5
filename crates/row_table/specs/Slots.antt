-- Slots in order of coming, each of which holds a row or is empty since its row left.
use Rattle.std.specs.Prelude.{◌≡◌, ℕ, suc, ◌<◌, Bool, true, false, List, [], ◌∷◌, Option, Some, None}
use Rattle.std.specs.Prelude.{slice_get, slice_set, slice_index_or, length}
use Rattle.chains.specs.Places.{IsFirst}
use Rattle.undo_list.specs.Versions.{Versions}
use Rattle.row_table.specs.declared.row.Row.{Row}
use Rattle.row_table.specs.Rows.{passes}

module _ {T : Type 0} where
  -- the rows, in order
  abbrev pub live : List (Option (Row T)) → List (Row T)
  live [] = []
  live (None ∷ slots) = live slots
  live (Some row ∷ slots) = row ∷ live slots

  -- the slots that hold a row, in order, where the first of those that are listed has that number
  abbrev pub filled_from : List (Option (Row T)) → ℕ → List ℕ
  filled_from [] slot = []
  filled_from (None ∷ slots) slot = filled_from slots (suc slot)
  filled_from (Some row ∷ slots) slot = slot ∷ filled_from slots (suc slot)

  -- what a slot holds; nothing past the last one
  abbrev pub held : List (Option (Row T)) → ℕ → Option (Row T)
  held slots slot = slice_index_or slots slot None

  -- the answer is the first slot from one on that holds a row that passes the test
  abbrev pub IsNextSlot : (Row T → Bool) → List (Option (Row T)) → ℕ → Option ℕ → Type 0
  IsNextSlot test slots from = IsFirst (λ slot. passes test (held slots slot) ≡ true) from

-- at that place stands the row of that slot; no place and no slot go together
abbrev pub IsPlaceOf : List ℕ → Option ℕ → Option ℕ → Type 0
IsPlaceOf filled None None = Unit {0}
IsPlaceOf filled None (Some at) = ⊥
IsPlaceOf filled (Some slot) None = ⊥
IsPlaceOf filled (Some slot) (Some at) = slice_get filled at ≡ Some slot

-- the slots, as they are and as they were at the last mark, and those of the rows that left since and are kept until the next
pub record SlotVersions (T : Type 0) : Type 0 where
  pub items : List (Option (Row T))
  pub before : List (Option (Row T))
  pub left : List ℕ

-- the slots, once these are empty
abbrev pub emptied : {T : Type 0} → List (Option (Row T)) → List ℕ → List (Option (Row T))
emptied slots [] = slots
emptied slots (slot ∷ left) = slice_set (emptied slots left) slot None

-- what a slot holds is what it held at the mark, and is not saved
pub record IsLeft {T : Type 0} (list : Versions (Option (Row T))) (slot : ℕ) : Type 0 where
  pub before : slot < length list.before
  pub within : slot < length list.items
  pub unsaved : slice_index_or list.saved slot true ≡ false
