use Rattle.link_scheduler.proofs.Common.{planned}
use Rattle.link_scheduler.proofs.Calls.Promises.{next_simulated}
use Rattle.link_scheduler.proofs.transmitter.State.next.Goals as goal

pub returns : goal.returns
returns g c =
    record {
      next = record {
        planned = c.next_event.ensures;
        simulated = next_simulated g.P.Ord.cmp g.met.P.Ord.total (planned g.P.Ord.cmp c.args.self.now.ledger)
            c.next_event.result c.next_event.ensures;
      };
    }
