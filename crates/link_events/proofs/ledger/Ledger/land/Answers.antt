use Rattle.link_events.proofs.Common.{message_of, planned}
use Rattle.link_events.proofs.Steps.Finishing.{landed_so}
use Rattle.link_events.proofs.ledger.Ledger.land.Goals as goal

pub returns-clause-landed : goal.returns-clause-landed
returns-clause-landed g c =
    landed_so g.P.Ord.cmp c.args.now (planned g.P.Ord.cmp c.args.self.now) (planned g.P.Ord.cmp c.raise.new.self)
    (message_of c.args.message.now) c.in_ok-arrival.arrival c.in_ok-arrival.ensures.moment c.in_ok-since.ensures.raised
