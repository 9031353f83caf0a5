-- A store, as its callers see it.
use Rattle.std.specs.Prelude.{◌≡◌, ℕ, List, [], ◌∷◌, ◌++◌, slice_set, slice_index}
use Rattle.undo_list.specs.Versions.{Versions}
use Rattle.test_containers.specs.declared.store.Move.{Move}

-- the levels, and the moves, the oldest first
pub record Stored : Type 0 where
  pub levels : List ℕ
  pub moves : List Move

-- both lists stand as they did at the last mark
pub record IsMarked (levels : Versions ℕ) (moves : Versions Move) : Type 0 where
  pub levels_stand : levels.before ≡ levels.items
  pub moves_stand : moves.before ≡ moves.items

-- the levels, once that at one place went to another
abbrev pub moved : List ℕ → ℕ → ℕ → List ℕ
moved levels from to = slice_set (slice_set levels to (slice_index levels from)) from 0

-- the moves, with one more
abbrev pub with_move : List Move → ℕ → ℕ → List Move
with_move moves from to = moves ++ record { from = from; to = to } ∷ []
