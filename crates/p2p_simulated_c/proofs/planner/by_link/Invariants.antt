use Rattle.p2p_simulated_c.proofs.Common.{◌≡◌, ℕ, take, get, nat_cmp, pair_cmp, link_cap}
use Rattle.p2p_simulated_c.proofs.planner.by_link.Given as goal

-- the caps so far
abbrev pub invariant-loop-record : goal.invariant-loop-record
invariant-loop-record l =
    (origin recipient : ℕ)
    → get (pair_cmp nat_cmp) l.caps (origin, recipient) ≡ link_cap (take l.record-index l.records) origin recipient
