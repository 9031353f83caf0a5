use Rattle.std.proofs.Common.{◌≤◌}
use Rattle.link_console.proofs.why.count_left.Given as goal

abbrev pub invariant-loop : goal.invariant-loop
invariant-loop l = l.count ≤ l.counter
