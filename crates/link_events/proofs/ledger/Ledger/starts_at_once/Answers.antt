use Rattle.link_events.proofs.ledger.Ledger.starts_at_once.Goals as goal

pub may_start-requires : goal.may_start-requires
may_start-requires g c = c.requires c.if-self.true
