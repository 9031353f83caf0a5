use Rattle.link_flights.proofs.Common.{◌≡◌, ℕ, ◌⊎◌, true, Contains, Some, take, length, slice_get}
use Rattle.link_flights.proofs.sides.note_users.Given as goal

abbrev pub invariant-loop-user : goal.invariant-loop-user
invariant-loop-user l = record {
  noted : (k : ℕ) → slice_get l.has_side k ≡ Some true
      → (slice_get l.initial.has_side k ≡ Some true) ⊎ Contains (take l.user-index l.users) k;
  each : length l.has_side ≡ length l.initial.has_side;
}
