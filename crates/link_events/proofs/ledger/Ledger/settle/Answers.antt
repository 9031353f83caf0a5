use Rattle.link_events.proofs.Common.{map, err_from_is_err_and, messages, ended_of, planned}
use Rattle.link_events.proofs.Steps.SettledFirst.{settles_all, settles_refused}
use Rattle.link_events.proofs.ledger.Ledger.settle.Goals as goal

pub returns-in_err-queue-clause-refused : goal.returns-in_err-queue-clause-refused
returns-in_err-queue-clause-refused g c =
    let p = err_from_is_err_and c.from_residual.result c.from_residual.ensures.1 in
    rw (p.1, p.2) c.in_err-queue.ensures.refused

pub returns-clause-settles : goal.returns-clause-settles
returns-clause-settles g c =
    settles_all g.P.Ord.cmp c.args.now (planned g.P.Ord.cmp c.args.self.now)
    (planned g.P.Ord.cmp c.settle_first.new.self) (planned g.P.Ord.cmp c.finish.new.self)
    (messages c.in_ok-queue.queue.items) (map ended_of c.args.ended.now.items)
    (map ended_of c.settle_first.new.ended.items) (map ended_of c.finish.new.ended.items)
    c.in_ok-queue.ensures.settles c.finish.result c.finish.ensures.finishes

pub returns-clause-refused : goal.returns-clause-refused
returns-clause-refused g c =
    settles_refused g.P.Ord.cmp c.args.now (planned g.P.Ord.cmp c.args.self.now)
    (planned g.P.Ord.cmp c.settle_first.new.self) (messages c.in_ok-queue.queue.items)
    (map ended_of c.args.ended.now.items) (map ended_of c.settle_first.new.ended.items)
    c.in_ok-queue.ensures.settles c.finish.result c.finish.ensures.refused
