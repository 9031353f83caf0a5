use Rattle.link_events.proofs.Common.{planned, messages}
use Rattle.link_events.proofs.ledger.Ledger.account.Goals as goal

pub rate-requires-clause-leaves : goal.rate-requires-clause-leaves
rate-requires-clause-leaves g c =
    (planned g.P.Ord.cmp c.args.self.now, messages c.in_ok-done.done.items, c.in_ok-done.ensures.leaves)

pub returns-clause-accounts : goal.returns-clause-accounts
returns-clause-accounts g c =
    c.in_ok-rate.ensures.accounts (planned g.P.Ord.cmp c.args.self.now) (messages c.in_ok-done.done.items)
    c.in_ok-done.ensures.leaves
