-- The names that most proofs of this crate cite, passed on from one place. Declares nothing.
pub use Rattle.chains.proofs.Places.{by_cases}
pub use Rattle.row_table.specs.Index.{Finds, Marked, Stands, moment_of, receiver_of, sender_of}
pub use Rattle.row_table.specs.Rows.{IsNext, Versions, is_due_by, with_item, has_come, is_received_by, is_sent_by}
pub use Rattle.row_table.specs.Slots.{IsPlaceOf, SlotVersions, emptied, filled_from, held, live, IsLeft}
pub use Rattle.row_table.specs.declared.index.Index.{Index}
pub use Rattle.row_table.specs.declared.parts.Parts.{Parts}
pub use Rattle.row_table.specs.declared.row.Row.{Row}
pub use Rattle.std.proofs.Common.{All, Bool, IfNone, IfSome, IsSome, List, None, Option, Some, [], ap, arith, false}
pub use Rattle.std.proofs.Common.{is_some, length, map, refl, slice_get, slice_set, subst, suc, sym, take, true, zero}
pub use Rattle.std.proofs.Common.{ℕ, ◌++◌, ◌+◌, ◌-◌, ◌<◌, ◌∙◌, ◌∷◌, ◌≡◌, ◌≤◌, rules, Result, Ok, Err, option_map}
pub use Rattle.std.proofs.Common.{slice_index_or, ◌==◌, get_or, reverse}
pub use Rattle.std.proofs.Math.ListN.{get_or-map}
pub use Rattle.std.proofs.lemmas.Bool.{cases_lt}
pub use Rattle.std.proofs.lemmas.Grind.{common_steps}
pub use Rattle.std.proofs.lemmas.List.{length-map, length-append, append-nil}
pub use Rattle.std.proofs.lemmas.Option.{get_or_from_slice_get, slice_get_within, slice_get_read}
pub use Rattle.std.specs.List.{filter, remove, list_any, AllPairs}
pub use Rattle.std.specs.Vec.{vec_capacity}
