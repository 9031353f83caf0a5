use Rattle.fairness.proofs.Common.{◌∙◌, inl, inr}
use Rattle.fairness.specs.Numbers.FractionOrder.{by_wholes, by_zero_rest, by_rests}
use Rattle.fairness.proofs.ratio.numbers.+order_by_parts.Goals.{then-rest-eq0-via-then-rest-eq0}
use Rattle.fairness.proofs.ratio.numbers.+order_by_parts.Goals.{then-rest-eq0-via-else-rest-eq0+then-other_rest-eq0}
use Rattle.fairness.proofs.ratio.numbers.+order_by_parts.Goals as goal

pub returns-then-whole-other_whole : goal.returns-then-whole-other_whole
returns-then-whole-other_whole t c =
    c.cmp.ensures ∙ by_wholes _ _ _ _ c.requires.left c.requires.right c.if-whole-other_whole.true

pub returns-then-rest-eq0 : goal.returns-then-rest-eq0
returns-then-rest-eq0 t c =
    c.cmp-then-rest-eq0.ensures ∙ by_zero_rest _ _ _ _ c.requires.left c.requires.right c.if-whole-other_whole.false
    (elim c.then-rest-eq0.branch [
      | then-rest-eq0-via-then-rest-eq0 w ↦ inl w.if-rest-eq0.true
      | then-rest-eq0-via-else-rest-eq0+then-other_rest-eq0 w ↦ inr w.if-other_rest-eq0.true
    ])

pub returns : goal.returns
returns t c = c.order_by_parts.ensures ∙ by_rests _ _ _ _ c.if-whole-other_whole.false
