use Rattle.p2p_simulated_c.proofs.Common.{◌≡◌, map, take}
use Rattle.p2p_simulated_c.specs.Routes.{link_cap_of}
use Rattle.p2p_simulated_c.proofs.routes.caps_of.Given as goal

abbrev pub invariant-loop-record : goal.invariant-loop-record
invariant-loop-record l = l.caps.items ≡ map link_cap_of (take l.record-index l.records)
