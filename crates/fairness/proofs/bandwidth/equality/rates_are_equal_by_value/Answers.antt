use borrow.Author.Tests.{eq-eqb}
use Rattle.fairness.proofs.Common.{◌∙◌, refl, sym, eqb-true, false≢true, Unlimited, Finite}
use Rattle.fairness.specs.Numbers.FractionOrder.{same_test}
use Rattle.fairness.proofs.bandwidth.equality.rates_are_equal_by_value.Goals as goal

pub returns : goal.returns
returns c Unlimited Unlimited = (λ _. tt, λ _. refl)
returns c Unlimited (Finite s) = (λ e. false≢true e, λ h. absurd h)
returns c (Finite r) Unlimited = (λ e. false≢true e, λ h. absurd h)
returns c (Finite r) (Finite s) =
    let e = same_test r.numerator r.denominator s.numerator s.denominator r.positive s.positive r.reduced s.reduced in
    (λ h. eqb-true _ _ (sym e ∙ h), λ h. e ∙ eq-eqb _ _ h)
