use Rattle.fair_rates.proofs.Common.{◌≡◌, ℕ, ◌<◌, length, get_or, IsRateAt, level_at, Rate}
use Rattle.fair_rates.proofs.bandwidth.parts.FairParts.rates.Given as goal

abbrev pub invariant-loop-level : goal.invariant-loop-level
invariant-loop-level l = record {
  one_each : length l.rates.items ≡ l.level-index;
  rated : (flow : ℕ) (d : Rate) → flow < length l.rates.items
      → IsRateAt l.fractions.items (level_at l.self.level_of.items flow) (get_or l.rates.items flow d);
}
