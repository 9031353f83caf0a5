use Rattle.link_events.proofs.Common.{refl}
use Rattle.link_events.proofs.ledger.Ledger.new.Goals as goal

pub returns-clause-planned : goal.returns-clause-planned
returns-clause-planned g c =
    rw (
      c.new.ensures.entries,
      c.new-2.ensures.entries,
      c.new-3.ensures.messages,
      c.new-4.ensures.list,
      c.new-4.ensures.at,
    ) refl
