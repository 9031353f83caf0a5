use Rattle.fairness.proofs.Common.{◌<◌, ◌∙◌, sym, subst, arith, gcd-mod, gcd-pos}
use Rattle.fairness.specs.Numbers.Gcd.{gcd-zero}
use Rattle.fairness.proofs.ratio.numbers.+gcd.Goals as goal

pub returns-then-b-lt-WIDE-clause-positive : goal.returns-then-b-lt-WIDE-clause-positive
returns-then-b-lt-WIDE-clause-positive t c h =
    subst (λ n. 0 < n) (sym (c.from.ensures ∙ c.gcd_of_narrow.ensures)) (gcd-pos c.args.a c.args.b h)

pub returns-then-b-eq0-clause-value : goal.returns-then-b-eq0-clause-value
returns-then-b-eq0-clause-value t c = sym (gcd-zero _ _ c.if-b-eq0.true)

pub returns-else-b-eq0-clause-value : goal.returns-else-b-eq0-clause-value
returns-else-b-eq0-clause-value t c = c.gcd.ensures.value ∙ gcd-mod _ _ (omega arith)

pub returns-else-b-eq0-clause-positive : goal.returns-else-b-eq0-clause-positive
returns-else-b-eq0-clause-positive t c h =
    subst (λ n. 0 < n) (sym (c.gcd.ensures.value ∙ gcd-mod _ _ h)) (gcd-pos c.args.a c.args.b h)
