use Rattle.fair_rates.proofs.Common.{◌≡◌, ◌*◌, ◌<◌, take, product, IsReduced}
use Rattle.fair_rates.proofs.bandwidth.parts.fraction.Given as goal

abbrev pub invariant-loop-factor : goal.invariant-loop-factor
invariant-loop-factor l = record {
  positive : 0 < l.denominator;
  lowest : IsReduced l.numerator l.denominator;
  worth : l.parts * l.denominator ≡ l.numerator * product (take l.factor-index l.factors);
}
