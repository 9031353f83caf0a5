use Rattle.link_flights.proofs.Common.{ℕ, ◌≡◌, true, Some, slice_get, length, drop, In}
use Rattle.link_flights.proofs.notes.Notes.give_back.Given as goal

abbrev pub invariant-loop-at : goal.invariant-loop-at
invariant-loop-at l =
    ((p : ℕ) → slice_get l.noted.items p ≡ Some true → In (drop l.at-index l.near) p)
    × (length l.noted.items ≡ length l.initial.noted.items)
