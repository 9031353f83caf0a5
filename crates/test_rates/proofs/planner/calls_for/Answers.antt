use Rattle.std.proofs.Common.{of_calls}
use Rattle.fairness.proofs.Sides.Callable.{callable_on_each}
use Rattle.test_rates.proofs.planner.calls_for.Goals as goal

pub allocate-requires-clause-egress : goal.allocate-requires-clause-egress
allocate-requires-clause-egress c = search (of_calls, callable_on_each)

pub allocate-requires-clause-ingress : goal.allocate-requires-clause-ingress
allocate-requires-clause-ingress c = search (of_calls, callable_on_each)
