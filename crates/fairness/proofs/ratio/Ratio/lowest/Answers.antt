use Rattle.fairness.proofs.Common.{◌≡◌, ◌<◌, ◌∙◌, sym, ap, subst, Amount, reduced, IsReduced, reduced_lowest}
use Rattle.fairness.proofs.Common.{whole_IsReduced}
use Rattle.fairness.specs.Numbers.LowestTerms.{amount_is, reduced_is, reduced_positive, reduced_IsReduced}
use Rattle.fairness.proofs.ratio.Ratio.lowest.Goals as goal

found : (c : goal.After-quotient-2)
    → reduced c.args.num c.args.den ≡ record { num = c.quotient.result; den = c.quotient-2.result }
found c =
    reduced_is c.args.num c.args.den c.gcd-divisor.result (sym c.gcd-divisor.ensures.value)
    ∙ amount_is (sym c.quotient.ensures) (sym c.quotient-2.ensures)

pub returns-then-den-eq1 : goal.returns-then-den-eq1
returns-then-den-eq1 c =
    c.from_whole.ensures ∙ sym (reduced_lowest c.args.num 1 (whole_IsReduced c.args.num))
    ∙ sym (ap (λ n. reduced c.args.num n) c.if-den-eq1.true)

pub invariant_of-result : goal.invariant_of-result
invariant_of-result c = record {
  positive = subst (λ (x : Amount). 0 < x.den) (found c) (reduced_positive c.args.num c.args.den c.requires);
  reduced =
      subst (λ (x : Amount). IsReduced x.num x.den) (found c) (reduced_IsReduced c.args.num c.args.den c.requires);
}

pub returns : goal.returns
returns c =
    sym (reduced_is c.args.num c.args.den c.gcd-divisor.result (sym c.gcd-divisor.ensures.value)
    ∙ amount_is (sym c.quotient.ensures) (sym c.quotient-2.ensures))
