use Rattle.p2p_simulated_c.proofs.Common.{◌≡◌, map, take, flow_of}
use Rattle.p2p_simulated_c.proofs.planner.listed.Given as goal

-- the flows so far
abbrev pub invariant-loop-record : goal.invariant-loop-record
invariant-loop-record l = l.flows.items ≡ map flow_of (take l.record-index l.records)
