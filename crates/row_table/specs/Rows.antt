-- Rows in order of coming, as callers see them.
use Rattle.std.specs.Prelude.{◌≡◌, ℕ, Bool, true, false, List, Option, Some, None, nat_le, ◌==◌, slice_get}
use Rattle.chains.specs.Places.{IsFirst}
use Rattle.row_table.specs.declared.row.Row.{Row}

-- the rows that are there, and those that were at the last mark
pub record Versions (T : Type 0) : Type 0 where
  pub now : List (Row T)
  pub before : List (Row T)

-- the row with another item and another moment; its owners stay
abbrev pub with_item : {T : Type 0} → T → Option ℕ → Row T → Row T
with_item item moment row = record row { item = item; moment = moment }

-- there is a moment, and it has come by that time
abbrev pub has_come : ℕ → Option ℕ → Bool
has_come time None = false
has_come time (Some moment) = nat_le moment time

module _ {T : Type 0} where
  -- the row is sent by that owner, it is received by that owner, its moment has come by that time
  abbrev pub is_sent_by : ℕ → Row T → Bool
  is_sent_by owner row = row.sender == owner

  abbrev pub is_received_by : ℕ → Row T → Bool
  is_received_by owner row = row.receiver == owner

  abbrev pub is_due_by : ℕ → Row T → Bool
  is_due_by time row = has_come time row.moment

  -- there is a row, and it passes the test
  abbrev pub passes : (Row T → Bool) → Option (Row T) → Bool
  passes test None = false
  passes test (Some row) = test row

  -- the answer is the first place from one on whose row passes the test
  abbrev pub IsNext : (Row T → Bool) → List (Row T) → ℕ → Option ℕ → Type 0
  IsNext test rows from = IsFirst (λ at. passes test (slice_get rows at) ≡ true) from
