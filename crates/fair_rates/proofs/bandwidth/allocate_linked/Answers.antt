use Rattle.fair_rates.proofs.Common.{inl, inr, ◌∙◌}
use Rattle.fairness.proofs.Fairness.AnswersUnderCaps.{refused_under_caps}
use Rattle.fairness.proofs.Filling.Frozen.{if_err}
use Rattle.fair_rates.proofs.bandwidth.allocate_linked.Goals as goal

pub returns-in_err-rates-clause-refused : goal.returns-in_err-rates-clause-refused
returns-in_err-rates-clause-refused g c =
    if_err _ _ c.from_residual.result c.from_residual.ensures.1
    (λ e is. elim c.in_err-rates.ensures.refused [
      | inl memory ↦ inl (is ∙ memory)
      | inr large ↦ inr (is ∙ large.0, large.1)
    ])

pub returns-in_err-rates-clause-refused_under_caps : goal.returns-in_err-rates-clause-refused_under_caps
returns-in_err-rates-clause-refused_under_caps g c =
    refused_under_caps g.P.Ord.cmp _ _ _ _ _ c.from_residual.result (returns-in_err-rates-clause-refused g c)

pub returns-clause-fair : goal.returns-clause-fair
returns-clause-fair g c = c.in_ok-rates.ensures.counted.allocation

pub returns-clause-under_caps : goal.returns-clause-under_caps
returns-clause-under_caps g c = c.in_ok-rates.ensures.under_caps
