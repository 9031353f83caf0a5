use Rattle.fairness.proofs.Common.{◌^◌, ◌<◌, refl, rules, amount_of}
use Rattle.fairness.specs.Numbers.Fits.{AreOverCommon}
use Rattle.fairness.proofs.Numbers.Fits.{over_equal, over_fits, common-pos}
use Rattle.fairness.proofs.ratio.Ratio.over_common.Goals as goal

over : (c : goal.After-result-1)
    → AreOverCommon (amount_of c.args.self) (amount_of c.args.other) c.args.self.numerator c.args.other.numerator
    c.args.self.denominator
over c = over_equal (amount_of c.args.self) (amount_of c.args.other) c.args.self.positive c.if-self-other.true

pub returns-then-self-other-clause-fits : goal.returns-then-self-other-clause-fits
returns-then-self-other-clause-fits c =
    let first : c.args.self.numerator < 2 ^ 128 = search rules in
    let second : c.args.other.numerator < 2 ^ 128 = search rules in
    let denominator : c.args.self.denominator < 2 ^ 128 = search rules in (
      λ s. over_fits (amount_of c.args.self) (amount_of c.args.other) _ _ _ (over c) first second denominator,
      λ fits. refl,
    )

pub returns-then-self-other-clause-value : goal.returns-then-self-other-clause-value
returns-then-self-other-clause-value c = over c

pub invariant_of-result-2 : goal.invariant_of-result-2
invariant_of-result-2 c = record {
  positive =
      common-pos c.args.self c.args.other _ _ _ c.gcd-common.ensures.value c.quotient-scale.ensures
      c.in_ok-checked_mul-3.ensures.1;
}
