use Rattle.fair_rates.proofs.Common.{◌≡◌, length, AreGrown}
use Rattle.fair_rates.proofs.bandwidth.filling.grown_list.Given as goal

abbrev pub invariant-loop-side : goal.invariant-loop-side
invariant-loop-side l = record {
  grown : AreGrown l.factor l.yielded l.grown.items;
  count : length l.grown.items ≡ length l.yielded;
}
