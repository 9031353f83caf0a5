use Rattle.link_events.proofs.Common.{map, goes, Planned, ended_of, planned}
use Rattle.link_simulation.specs.Simulation.Calls.{limited_by}
use Rattle.link_events.proofs.Steps.Limits.{limits_refused, rebalances_on}
use Rattle.link_events.proofs.Steps.Settling.{if_ok, if_err}
use Rattle.link_events.proofs.ledger.Ledger.limit.Goals as goal

pub returns-clause-rebalances : goal.returns-clause-rebalances
returns-clause-rebalances g c =
    let old = planned g.P.Ord.cmp c.args.self.now in
    let new : Planned g.row.P.Denot = planned g.P.Ord.cmp c.rebalance.new.self in
    if_ok c.rebalance.result (λ done h. rebalances_on g.P.Ord.cmp c.args.now
    (limited_by g.P.Ord.cmp old.caps c.args.peer.now c.args.egress c.args.ingress) old
    (planned g.P.Ord.cmp c.limit_peer.new.self) c.in_ok-limit_peer.ensures.limited (goes (map ended_of c.rebalance.new.ended.items) new)
    h)
    c.rebalance.ensures.rebalances

pub returns-clause-refused : goal.returns-clause-refused
returns-clause-refused g c =
    let old = planned g.P.Ord.cmp c.args.self.now in
    if_err c.rebalance.result (λ e h. limits_refused g.P.Ord.cmp c.args.now
    (limited_by g.P.Ord.cmp old.caps c.args.peer.now c.args.egress c.args.ingress) old
    (planned g.P.Ord.cmp c.limit_peer.new.self) c.in_ok-limit_peer.ensures.limited e h)
    c.rebalance.ensures.refused
