use Rattle.link_events.proofs.Common.{Bool, ◌&&◌, sym, ap, ◌∙◌, planned, is_sending}
use Rattle.link_events.proofs.ledger.Ledger.has_to_wait.Goals as goal

pub returns-then-self : goal.returns-then-self
returns-then-self g c =
    c.has.ensures
    ∙ sym
    (ap
    (λ (b : Bool). b
    && is_sending g.P.Ord.cmp (planned g.P.Ord.cmp c.args.self.now) c.args.origin.now c.args.recipient.now)
    c.if-self.true)
