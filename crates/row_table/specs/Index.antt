-- How rows are found: by their places, by who sends them, by who receives them, and by their moments.
use Rattle.std.specs.Prelude.{◌≡◌, ℕ, ◌≤◌, List, Option, None, Some, map, length, option_map}
use Rattle.std.specs.Vec.{vec_capacity}
use Rattle.row_table.specs.Slots.{live, filled_from}
use Rattle.row_table.specs.declared.row.Row.{Row}
use Rattle.row_table.specs.declared.index.Index.{Index}
use Rattle.row_table.specs.declared.parts.Parts.{Parts}

abbrev pub sender_of : {T : Type 0} → Option (Row T) → Option ℕ
sender_of = option_map (λ row. row.sender)

abbrev pub receiver_of : {T : Type 0} → Option (Row T) → Option ℕ
receiver_of = option_map (λ row. row.receiver)

abbrev pub moment_of : {T : Type 0} → Option (Row T) → Option ℕ
moment_of None = None
moment_of (Some row) = row.moment

-- the rows of these slots are found by it
pub record Finds {T : Type 0} (index : Index) (slots : List (Option (Row T))) : Type 0 where
  pub sent : index.sent.now.stands ≡ map sender_of slots
  pub received : index.received.now.stands ≡ map receiver_of slots
  pub moments : index.moments ≡ map moment_of slots

-- and these were at the last mark, by its owners
pub record Found {T : Type 0} (index : Index) (slots : List (Option (Row T))) : Type 0 where
  pub sent : index.sent.before.stands ≡ map sender_of slots
  pub received : index.received.before.stands ≡ map receiver_of slots

-- the owners' chains were the same at the last mark
pub record IsSameMark (index new : Index) : Type 0 where
  pub sent : new.sent.before ≡ index.sent.before
  pub received : new.received.before ≡ index.received.before

-- what is kept beside the slots fits them
pub record Stands {T : Type 0} (parts : Parts T) : Type 0 where
  pub found : Finds parts.index parts.slots.items
  pub filled : parts.filled.items ≡ filled_from parts.slots.items 0

-- and it can be made to fit those at the last mark with no memory
pub record Marked {T : Type 0} (parts : Parts T) : Type 0 where
  pub found : Found parts.index parts.slots.before
  pub moments : length parts.slots.before ≤ length parts.index.moments
  pub room : length (live parts.slots.before) ≤ vec_capacity parts.filled
