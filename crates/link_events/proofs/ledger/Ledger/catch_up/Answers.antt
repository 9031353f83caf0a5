use Rattle.link_events.proofs.Common.{sym, ap, ◌∙◌, subst, planned, messages, IsStanding}
use Rattle.link_events.proofs.Steps.Standing.{account_due}
use Rattle.link_events.proofs.Steps.OneEach.{account_idles}
use Rattle.link_events.proofs.ledger.Ledger.catch_up.Goals as goal

pub returns-in_ok-account-clause-caught_up : goal.returns-in_ok-account-clause-caught_up
returns-in_ok-account-clause-caught_up g c =
    λ w h. account_due g.P.Ord.cmp g.met.P.Ord.total c.args.now (planned g.P.Ord.cmp c.args.self.now) w
    (planned g.P.Ord.cmp c.account.new.self) (messages c.in_ok-account.field-0.items)
    (subst (λ s. IsStanding g.P.Ord.cmp c.args.now s (planned g.P.Ord.cmp c.args.self.now) w) c.in-Due.is h)
    c.in_ok-account.ensures.accounts

pub returns-in_ok-account-clause-idle : goal.returns-in_ok-account-clause-idle
returns-in_ok-account-clause-idle g c =
    λ origin recipient idle limited.
    let account = c.in_ok-account.ensures.accounts in
    account_idles g.P.Ord.cmp c.args.now (planned g.P.Ord.cmp c.args.self.now)
    (planned g.P.Ord.cmp c.account.new.self) (messages c.in_ok-account.field-0.items) account origin recipient
    (idle (sym (ap (λ p. p.limited) account.same) ∙ limited))
