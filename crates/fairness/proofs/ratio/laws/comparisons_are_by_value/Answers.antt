use borrow.Author.Tests.{eq-eqb}
use Rattle.fairness.proofs.Common.{◌∙◌, sym, eqb-true}
use Rattle.fairness.specs.Numbers.FractionOrder.{same_test}
use Rattle.fairness.proofs.ratio.laws.comparisons_are_by_value.Goals as goal

pub returns-clause-equality : goal.returns-clause-equality
returns-clause-equality c x y =
    let e = same_test x.numerator x.denominator y.numerator y.denominator x.positive y.positive x.reduced y.reduced in
    (λ h. eqb-true _ _ (sym e ∙ h), λ h. e ∙ eq-eqb _ _ h)
