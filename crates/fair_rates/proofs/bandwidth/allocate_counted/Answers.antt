use Rattle.fair_rates.proofs.Common.{rules, nat_cmp}
use Rattle.std.proofs.Common.{of_calls}
use Rattle.std.specs.BTreeMap.{get}
use Rattle.std.proofs.lemmas.Result.{IfOk-weaker}
use Rattle.fairness.proofs.Fairness.AnswersUnderCaps.{fair_under_caps, refused_under_caps}
use Rattle.fairness.proofs.Sides.Callable.{callable_on_each_pair}
use Rattle.fairness.proofs.Sides.NoLinks.{counted_without_links, refused_without_links}
use Rattle.fair_rates.proofs.bandwidth.allocate_counted.Goals as goal

pub allocate_linked_counted-requires-clause-link : goal.allocate_linked_counted-requires-clause-link
allocate_linked_counted-requires-clause-link g c = search (of_calls, callable_on_each_pair)

pub returns-clause-counted : goal.returns-clause-counted
returns-clause-counted g c =
    IfOk-weaker c.allocate_linked_counted.result _ _
    (λ counted h. counted_without_links _ _ _ (λ l p q a l' k. search rules) g.P.Ord.cmp _ _ _ _ h)
    c.allocate_linked_counted.ensures.counted

pub returns-clause-refused : goal.returns-clause-refused
returns-clause-refused g c =
    refused_without_links _ _ _ (λ l p q a l' k. search rules) g.P.Ord.cmp _ _ c.allocate_linked_counted.result
    c.allocate_linked_counted.ensures.refused

pub returns-clause-under_caps : goal.returns-clause-under_caps
returns-clause-under_caps g c =
    fair_under_caps g.P.Ord.cmp _ _ _ _ _ (λ counted. get nat_cmp counted.0) c.allocate_linked_counted.result
    (IfOk-weaker c.allocate_linked_counted.result _ _ (λ counted h. h.allocation) (returns-clause-counted g c))

pub returns-clause-refused_under_caps : goal.returns-clause-refused_under_caps
returns-clause-refused_under_caps g c = refused_under_caps g.P.Ord.cmp _ _ _ _ _ _ (returns-clause-refused g c)
