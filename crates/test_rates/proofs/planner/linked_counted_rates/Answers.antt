use Rattle.std.proofs.Common.{of_calls}
use Rattle.fairness.proofs.Sides.Callable.{callable_on_each, callable_on_each_pair}
use Rattle.test_rates.proofs.planner.linked_counted_rates.Goals as goal

pub allocate_linked_counted-requires-clause-egress : goal.allocate_linked_counted-requires-clause-egress
allocate_linked_counted-requires-clause-egress g c = search (of_calls, callable_on_each)

pub allocate_linked_counted-requires-clause-ingress : goal.allocate_linked_counted-requires-clause-ingress
allocate_linked_counted-requires-clause-ingress g c = search (of_calls, callable_on_each)

pub allocate_linked_counted-requires-clause-link : goal.allocate_linked_counted-requires-clause-link
allocate_linked_counted-requires-clause-link g c = search (of_calls, callable_on_each_pair)
