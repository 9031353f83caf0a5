-- What can be copied of the completions that an open scheduler has.
use Rattle.std.specs.Prelude.{ℕ, List, [], drop, map, Option, Some, None, slice_get}
use Rattle.link_pairs.specs.declared.completion.Completion.{Completion}
use Rattle.p2p_simulated_c.specs.declared.opened.Opened.{Opened}
use Rattle.p2p_simulated_c.specs.declared.records.Done.{Done}
use Rattle.p2p_simulated_c.specs.Records.{done_of}

-- the records of the completions from the first one of these on, in order
abbrev pub records_from : Opened → ℕ → List Done
records_from s first = map done_of (drop first s.completed.items)

-- the bytes of a completion, and none where there is no completion
abbrev pub completed_bytes : Option (Completion ℕ (List ℕ)) → List ℕ
completed_bytes None = []
completed_bytes (Some c) = c.message

-- the bytes of the completion at that index from one of them on
abbrev pub completed_bytes_from : Opened → ℕ → ℕ → List ℕ
completed_bytes_from s index from = drop from (completed_bytes (slice_get s.completed.items index))
