use Rattle.fairness.proofs.Common.{◌∙◌}
use Rattle.fairness.specs.Numbers.FractionOrder.{over_one_denominator}
use Rattle.fairness.proofs.ratio.numbers.order.Goals as goal

pub returns-then-b-d : goal.returns-then-b-d
returns-then-b-d c = c.cmp.ensures ∙ over_one_denominator _ _ _ _ c.requires.left c.if-b-d.true
