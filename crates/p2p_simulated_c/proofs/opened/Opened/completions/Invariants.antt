use Rattle.p2p_simulated_c.proofs.Common.{◌≡◌, ◌++◌, take, drop, records_from}
use Rattle.p2p_simulated_c.proofs.opened.Opened.completions.Given as goal

abbrev pub invariant-loop-index : goal.invariant-loop-index
invariant-loop-index l = l.out ≡ take l.index (records_from l.self l.first) ++ drop l.index l.fn.out
