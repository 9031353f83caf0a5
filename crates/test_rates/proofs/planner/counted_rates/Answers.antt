use Rattle.std.proofs.Common.{of_calls}
use Rattle.fairness.proofs.Sides.Callable.{callable_on_each}
use Rattle.test_rates.proofs.planner.counted_rates.Goals as goal

pub allocate_counted-requires-clause-egress : goal.allocate_counted-requires-clause-egress
allocate_counted-requires-clause-egress g c = search (of_calls, callable_on_each)

pub allocate_counted-requires-clause-ingress : goal.allocate_counted-requires-clause-ingress
allocate_counted-requires-clause-ingress g c = search (of_calls, callable_on_each)
