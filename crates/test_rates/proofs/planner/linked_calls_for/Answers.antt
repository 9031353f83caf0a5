use Rattle.std.proofs.Common.{of_calls}
use Rattle.fairness.proofs.Sides.Callable.{callable_on_each, callable_on_each_pair}
use Rattle.test_rates.proofs.planner.linked_calls_for.Goals as goal

pub allocate_linked-requires-clause-egress : goal.allocate_linked-requires-clause-egress
allocate_linked-requires-clause-egress c = search (of_calls, callable_on_each)

pub allocate_linked-requires-clause-ingress : goal.allocate_linked-requires-clause-ingress
allocate_linked-requires-clause-ingress c = search (of_calls, callable_on_each)

pub allocate_linked-requires-clause-link : goal.allocate_linked-requires-clause-link
allocate_linked-requires-clause-link c = search (of_calls, callable_on_each_pair)
