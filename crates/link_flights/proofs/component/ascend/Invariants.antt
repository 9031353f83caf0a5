use Rattle.link_flights.proofs.Common.{ℕ, suc, ◌<◌, get_or}
use Rattle.link_flights.proofs.component.ascend.Given as goal

abbrev pub invariant-loop-next : goal.invariant-loop-next
invariant-loop-next l = (k : ℕ) → suc k < l.next → get_or l.places k 0 < get_or l.places (suc k) 0
