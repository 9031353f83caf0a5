use Rattle.fair_rates.proofs.Common.{◌≡◌, ℕ, ◌<◌, length, get_or, parts_over, IsWorth, Ratio}
use Rattle.fair_rates.proofs.bandwidth.parts.FairParts.fractions.Given as goal

abbrev pub invariant-loop-level : goal.invariant-loop-level
invariant-loop-level l = record {
  one_each : length l.fractions.items ≡ l.level-index;
  worth : (place : ℕ) (d : Ratio) → place < length l.fractions.items
      → IsWorth (get_or l.fractions.items place d) (parts_over l.self.scale (get_or l.self.levels.items place 0));
}
