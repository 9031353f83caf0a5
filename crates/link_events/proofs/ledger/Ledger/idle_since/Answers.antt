use Rattle.link_events.proofs.Common.{◌∙◌}
use Rattle.link_events.proofs.ledger.Ledger.idle_since.Goals as goal

pub returns : goal.returns
returns g c = c.since.ensures ∙ c.args.self.now.indexed c.args.origin.now c.args.recipient.now
