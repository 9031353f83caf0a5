use Rattle.link_flights.proofs.Common.{◌≡◌, ℕ, ◌<◌, Some, length, slice_get}
use Rattle.link_flights.proofs.numbers.note.Given as goal

abbrev pub invariant-loop-number : goal.invariant-loop-number
invariant-loop-number l = record {
  numbered : (k at : ℕ) → k < l.number → slice_get l.places k ≡ Some at → slice_get l.number_at at ≡ Some k;
  each : length l.number_at ≡ length l.initial.number_at;
}
