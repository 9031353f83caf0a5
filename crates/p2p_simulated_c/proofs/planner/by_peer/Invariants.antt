use Rattle.p2p_simulated_c.proofs.Common.{◌≡◌, ℕ, take, get, nat_cmp, peer_cap}
use Rattle.p2p_simulated_c.proofs.planner.by_peer.Given as goal

-- the caps so far
abbrev pub invariant-loop-record : goal.invariant-loop-record
invariant-loop-record l = (peer : ℕ) → get nat_cmp l.caps peer ≡ peer_cap (take l.record-index l.records) peer
