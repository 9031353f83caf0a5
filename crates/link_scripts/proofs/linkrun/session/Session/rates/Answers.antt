use Rattle.link_scripts.proofs.Common.{rules, nat_cmp, get}
use Rattle.std.proofs.Common.{of_calls}
use Rattle.fairness.proofs.Sides.Callable.{callable_on_each, callable_on_each_pair}
use Rattle.link_scripts.proofs.CapAnswers.{rates_if_ok, refused_if_err}
use Rattle.link_scripts.specs.Session.{said_caps}
use Rattle.link_scripts.proofs.linkrun.session.Session.rates.Goals as goal

pub allocate_linked-requires-clause-egress : goal.allocate_linked-requires-clause-egress
allocate_linked-requires-clause-egress c = search (of_calls, callable_on_each)

pub allocate_linked-requires-clause-ingress : goal.allocate_linked-requires-clause-ingress
allocate_linked-requires-clause-ingress c = search (of_calls, callable_on_each)

pub allocate_linked-requires-clause-link : goal.allocate_linked-requires-clause-link
allocate_linked-requires-clause-link c = search (of_calls, callable_on_each_pair)

pub returns-clause-fair : goal.returns-clause-fair
returns-clause-fair c =
    rates_if_ok _ _ _ _ _ _ (said_caps c.args.self.now) (λ peer answer after k. search rules)
    (λ peer answer after k. search rules) (λ origin recipient answer after k. search rules)
    (λ rates. get nat_cmp rates)
    c.allocate_linked.result _ _ c.deref.ensures.value c.allocate_linked.ensures.under_caps

pub returns-clause-refused : goal.returns-clause-refused
returns-clause-refused c =
    refused_if_err _ _ _ _ _ _ (said_caps c.args.self.now) (λ peer answer after k. search rules)
    (λ peer answer after k. search rules) (λ origin recipient answer after k. search rules)
    c.allocate_linked.result _ _ c.deref.ensures.value c.allocate_linked.ensures.refused
    c.allocate_linked.ensures.refused_under_caps
