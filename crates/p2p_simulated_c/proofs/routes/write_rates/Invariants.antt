use Rattle.p2p_simulated_c.proofs.Common.{◌≡◌, ◌++◌, Some, map, take, drop, record_of_rate}
use Rattle.p2p_simulated_c.proofs.routes.write_rates.Given as goal

-- the records so far stand in front of what was there
abbrev pub invariant-loop-index : goal.invariant-loop-index
invariant-loop-index l = l.out ≡ take l.index (map (λ rate. record_of_rate (Some rate)) l.rates) ++ drop l.index l.fn.out
