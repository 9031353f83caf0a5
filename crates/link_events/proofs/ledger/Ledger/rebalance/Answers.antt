use Rattle.link_events.proofs.Common.{◌++◌, map, ap, sym, ◌∙◌, planned, ended_of}
use Rattle.link_events.proofs.Steps.Settling.{if_ok, if_err, rebalance_refused, rebalances_settled, rebalances_looked}
use Rattle.link_events.proofs.Steps.MessageCounts.{none_flies, some_fly}
use Rattle.link_events.proofs.ledger.Ledger.rebalance.Goals as goal

pub returns-then-is_empty-clause-rebalances : goal.returns-then-is_empty-clause-rebalances
returns-then-is_empty-clause-rebalances g c =
    let flights = c.args.self.now.flights in
    rebalances_looked g.P.Ord.cmp c.args.now (planned g.P.Ord.cmp c.args.self.now)
    (planned g.P.Ord.cmp c.plan_start.new.self) (map ended_of c.args.ended.now.items) c.requires.limited
    (none_flies flights.scale flights.at flights.list.items (sym c.is_empty.ensures ∙ c.if-is_empty.true))
    c.plan_start.ensures.plans (ap (map ended_of) c.requires.empty)

pub returns-clause-refused : goal.returns-clause-refused
returns-clause-refused g c =
    let flights = c.args.self.now.flights in
    if_err c.settle.result (rebalance_refused g.P.Ord.cmp c.args.now (planned g.P.Ord.cmp c.args.self.now)
    c.requires.limited (some_fly flights.scale flights.at flights.list.items (sym c.is_empty.ensures ∙ c.if-is_empty.false)))
    c.settle.ensures.refused

pub returns-clause-rebalances : goal.returns-clause-rebalances
returns-clause-rebalances g c =
    let flights = c.args.self.now.flights in
    if_ok c.settle.result (λ done settled. rebalances_settled g.P.Ord.cmp c.args.now (planned g.P.Ord.cmp c.args.self.now)
    (planned g.P.Ord.cmp c.settle.new.self) settled.0 (map ended_of c.settle.new.ended.items) c.requires.limited
    (some_fly flights.scale flights.at flights.list.items (sym c.is_empty.ensures ∙ c.if-is_empty.false))
    settled.2 (settled.1 ∙ ap (λ l. map ended_of l ++ settled.0) c.requires.empty)) c.settle.ensures.settles
