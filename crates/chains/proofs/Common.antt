-- The names that most proofs of this crate cite, passed on from one place. Declares nothing.
pub use Rattle.std.proofs.Common.{IfSome, List, None, Option, Some, [], ap, arith, false, inl, inr, length, map, refl}
pub use Rattle.std.proofs.Common.{replicate, slice_index_or, slice_set, subst, suc, sym, take, ℕ, ◌++◌, ◌+◌, ◌-◌, ◌<◌}
pub use Rattle.std.proofs.Common.{◌∙◌, ◌∷◌, ◌≡◌, ◌≤◌, ◌⊎◌}
pub use Rattle.std.proofs.Math.Seq.{map-set_same}
pub use Rattle.std.proofs.lemmas.Bool.{cases_eq, cases_lt}
pub use Rattle.std.proofs.lemmas.List.{length-map}
pub use Rattle.std.proofs.lemmas.Option.{get_or_from_slice_get}
pub use Rattle.chains.specs.Chains.{Rows, Versions, owner_of, rows_of, rows_on}
pub use Rattle.chains.specs.Places.{IsFirst, IsLast, IsPlace, behind, end_at}
pub use Rattle.chains.specs.Tables.{IsChained, Stands, Table, added, end_of, link_of, next_at, no_end, no_link, now_of}
pub use Rattle.chains.specs.Tables.{prev_at, removed, rows_in, unlinked, with_link, with_next, with_prev}
pub use Rattle.chains.specs.declared.tables.End.{End}
pub use Rattle.chains.specs.declared.tables.Link.{Link}
