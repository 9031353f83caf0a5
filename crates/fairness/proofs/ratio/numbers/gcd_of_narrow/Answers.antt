use Rattle.fairness.proofs.Common.{◌∙◌, sym, arith, gcd-mod}
use Rattle.fairness.specs.Numbers.Gcd.{gcd-zero}
use Rattle.fairness.proofs.ratio.numbers.gcd_of_narrow.Goals as goal

pub loop-rest-preserved : goal.loop-rest-preserved
loop-rest-preserved c = gcd-mod _ _ (omega arith) ∙ c.loop-rest.invariant

pub returns : goal.returns
returns c = sym (gcd-zero _ _ (omega arith)) ∙ c.loop-rest.invariant
