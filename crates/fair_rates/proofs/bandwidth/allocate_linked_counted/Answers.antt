use Rattle.fair_rates.proofs.Common.{inl, inr, nat_cmp}
use Rattle.std.specs.BTreeMap.{get}
use Rattle.std.proofs.lemmas.Result.{IfOk-weaker, IfErr-weaker}
use Rattle.fair_rates.proofs.Fairness.AllocatedRates.{counted}
use Rattle.fairness.proofs.Fairness.AnswersUnderCaps.{fair_under_caps, refused_under_caps}
use Rattle.fair_rates.proofs.Refusals.AnswersTooLarge.{too_large}
use Rattle.fair_rates.proofs.bandwidth.allocate_linked_counted.Goals as goal

pub returns-clause-counted : goal.returns-clause-counted
returns-clause-counted g c =
    let sides = c.in_ok-sides.ensures in
    let answers = sides.sides in
    IfOk-weaker c.rates_on.result _ _
    (λ rates found. counted g.P.Ord.cmp _ _ _ _ _ _ _ answers.0 _ answers.1 answers.2 sides.users_are_flows
    sides.users_rise found) c.rates_on.ensures.counted

pub returns-clause-under_caps : goal.returns-clause-under_caps
returns-clause-under_caps g c =
    fair_under_caps g.P.Ord.cmp _ _ _ _ _ (λ counted. get nat_cmp counted.0) c.rates_on.result
    (IfOk-weaker c.rates_on.result _ _ (λ counted h. h.allocation) (returns-clause-counted g c))

pub returns-clause-refused : goal.returns-clause-refused
returns-clause-refused g c =
    let sides = c.in_ok-sides.ensures in
    let answers = sides.sides in
    IfErr-weaker c.rates_on.result _ _
    (λ e refused. elim refused [
      | inl memory ↦ inl memory
      | inr large ↦ inr (
        large.0,
        too_large g.P.Ord.cmp _ _ _ _ _ answers.0 _ answers.1 answers.2 sides.users_are_flows sides.users_rise large.1,
      )
    ]) c.rates_on.ensures.refused

pub returns-clause-refused_under_caps : goal.returns-clause-refused_under_caps
returns-clause-refused_under_caps g c =
    refused_under_caps g.P.Ord.cmp _ _ _ _ _ c.rates_on.result (returns-clause-refused g c)
