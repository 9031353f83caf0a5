use Rattle.p2p_simulated_c.proofs.Common.{◌≡◌, ◌++◌, take, drop, get, nat_cmp, rates_of}
use Rattle.p2p_simulated_c.proofs.planner.write_rates.Given as goal

-- the records so far stand in front of what was there
abbrev pub invariant-loop-index : goal.invariant-loop-index
invariant-loop-index l = l.out ≡ take l.index (rates_of l.flows (get nat_cmp l.rates)) ++ drop l.index l.fn.out
