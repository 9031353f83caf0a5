use Rattle.fairness.proofs.Common.{◌*◌, ◌<◌, ◌∙◌, sym, refl, subst, mul-pos, times, IsReduced, amount_of}
use Rattle.fairness.specs.Numbers.LowestTerms.{amount_is}
use Rattle.fairness.proofs.Numbers.Fits.{reduced_product, fits_if_known, none_iff, worth_if_reduced}
use Rattle.fairness.proofs.ratio.Ratio.product.Goals as goal

pub returns-in_err-numerator-clause-fits : goal.returns-in_err-numerator-clause-fits
returns-in_err-numerator-clause-fits c =
    let found =
    reduced_product c.args.self.numerator c.args.self.denominator c.args.num c.args.den c.gcd-first.result
    c.gcd-second.result _ _ _ _
    c.args.self.positive c.requires.positive c.args.self.reduced c.requires.lowest
    c.gcd-first.ensures.value c.gcd-second.ensures.value c.quotient.ensures c.quotient-2.ensures refl refl in
    none_iff _ c.from_residual.ensures (λ fits. c.in_err-numerator.ensures ((fits_if_known _ _ _ found.same).0 fits).0)

pub returns-in_err-denominator-clause-fits : goal.returns-in_err-denominator-clause-fits
returns-in_err-denominator-clause-fits c =
    let found =
    reduced_product c.args.self.numerator c.args.self.denominator c.args.num c.args.den c.gcd-first.result
    c.gcd-second.result _ _ _ _
    c.args.self.positive c.requires.positive c.args.self.reduced c.requires.lowest
    c.gcd-first.ensures.value c.gcd-second.ensures.value c.quotient.ensures c.quotient-2.ensures c.quotient-3.ensures
    c.quotient-4.ensures in
    none_iff _ c.from_residual-in_err-denominator.ensures
    (λ fits. c.in_err-denominator.ensures ((fits_if_known _ _ _ found.same).0 fits).1)

pub invariant_of-result : goal.invariant_of-result
invariant_of-result c =
    let found =
    reduced_product c.args.self.numerator c.args.self.denominator c.args.num c.args.den c.gcd-first.result
    c.gcd-second.result _ _ _ _
    c.args.self.positive c.requires.positive c.args.self.reduced c.requires.lowest
    c.gcd-first.ensures.value c.gcd-second.ensures.value c.quotient.ensures c.quotient-2.ensures c.quotient-3.ensures
    c.quotient-4.ensures in
    record {
      positive = subst (λ n. 0 < n) (sym c.in_ok-denominator.ensures.1) found.positive;
      reduced = subst (λ n. IsReduced n c.in_ok-denominator.denominator) (sym c.in_ok-numerator.ensures.1)
          (subst (λ n. IsReduced (c.quotient.result * c.quotient-2.result) n) (sym c.in_ok-denominator.ensures.1)
          found.lowest);
    }

pub returns-clause-fits : goal.returns-clause-fits
returns-clause-fits c =
    let found =
    reduced_product c.args.self.numerator c.args.self.denominator c.args.num c.args.den c.gcd-first.result
    c.gcd-second.result _ _ _ _
    c.args.self.positive c.requires.positive c.args.self.reduced c.requires.lowest
    c.gcd-first.ensures.value c.gcd-second.ensures.value c.quotient.ensures c.quotient-2.ensures c.quotient-3.ensures
    c.quotient-4.ensures in
    (λ s. (fits_if_known _ _ _ found.same).1 (c.in_ok-numerator.ensures.0, c.in_ok-denominator.ensures.0), λ fits. refl)

pub returns-clause-value : goal.returns-clause-value
returns-clause-value c =
    let found =
    reduced_product c.args.self.numerator c.args.self.denominator c.args.num c.args.den c.gcd-first.result
    c.gcd-second.result _ _ _ _
    c.args.self.positive c.requires.positive c.args.self.reduced c.requires.lowest
    c.gcd-first.ensures.value c.gcd-second.ensures.value c.quotient.ensures c.quotient-2.ensures c.quotient-3.ensures
    c.quotient-4.ensures in
    worth_if_reduced _ (times (amount_of c.args.self) (record { num = c.args.num; den = c.args.den }))
    (mul-pos c.args.self.positive c.requires.positive)
    (amount_is c.in_ok-numerator.ensures.1 c.in_ok-denominator.ensures.1 ∙ sym found.same)
