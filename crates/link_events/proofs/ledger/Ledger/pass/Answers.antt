use Rattle.link_events.proofs.Common.{planned}
use Rattle.link_events.proofs.Steps.Advancing.{rests}
use Rattle.link_events.proofs.ledger.Ledger.pass.Goals as goal

pub returns-clause-advances : goal.returns-clause-advances
returns-clause-advances g c =
    rests g.P.Ord.cmp g.met.P.Ord.total c.args.now (planned g.P.Ord.cmp c.args.self.now)
    (planned g.P.Ord.cmp c.plan_start.new.self) c.requires c.plan_start.ensures.plans
