use Rattle.std.proofs.Common.{◌≤◌, length}
use Rattle.link_console.proofs.watched.last_moment.Given as goal

abbrev pub invariant-loop : goal.invariant-loop
invariant-loop l = l.until ≤ length l.bytes
