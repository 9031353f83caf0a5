use Rattle.link_events.proofs.Common.{sym, subst, message_of, of_pairs, IsIndexOf, in_flight, arrival_of, planned}
use Rattle.link_events.proofs.Common.{caps_of, PlansStart, arrivals_looked_up, since_of}
use Rattle.link_events.proofs.Steps.OnlyWaiting.{enqueue_waits}
use Rattle.link_waiting.proofs.Idle.IndexChanges.{waited_index}
use Rattle.link_events.proofs.ledger.Ledger.wait.Goals as goal

pub returns-clause-enqueues : goal.returns-clause-enqueues
returns-clause-enqueues g c =
    let cmp = g.P.Ord.cmp in
    let old = c.args.self.now in
    enqueue_waits cmp g.met.P.Ord.total c.args.now (message_of c.args.message) (planned cmp old) _
    (planned cmp c.plan_start.new.self) c.requires.limited c.requires.busy
    (λ i. record {
      caps = caps_of cmp old.peers.entries old.pairs.entries;
      limited = old.limited;
      sending = in_flight old.flights;
      waiting = c.in_default.ensures.messages i;
      last_arrival = arrival_of cmp old.pairs.entries;
      next_id = old.next_id;
      accounted = old.flights.at;
      finish = old.finish;
      start = old.start;
    }) c.plan_start.ensures.plans

pub returns-clause-waits : goal.returns-clause-waits
returns-clause-waits g c =
    let cmp = g.P.Ord.cmp in
    let old = c.args.self.now in
    subst (λ p. PlansStart cmp c.args.now p (planned cmp c.plan_start.new.self))
    (λ i. record {
      caps = caps_of cmp old.peers.entries old.pairs.entries;
      limited = old.limited;
      sending = in_flight old.flights;
      waiting = c.in_default.ensures.messages i;
      last_arrival = arrival_of cmp old.pairs.entries;
      next_id = old.next_id;
      accounted = old.flights.at;
      finish = old.finish;
      start = old.start;
    }) c.plan_start.ensures.plans

pub invariant_of-self-in_default : goal.invariant_of-self-in_default
invariant_of-self-in_default g c =
    let cmp = g.P.Ord.cmp in
    let old = c.args.self.now in
    record {
      one_each = old.one_each;
      rated = old.rated;
      indexed =
          subst (IsIndexOf cmp (of_pairs cmp old.pairs.entries c.push.new.self.messages (in_flight old.flights)))
          (sym c.in_default.ensures.since)
          (waited_index cmp g.met.P.Ord.total old.pairs.entries old.waiting.messages c.push.new.self.messages
          (in_flight old.flights) (message_of c.args.message) (since_of cmp old.waiting.told)
          c.in_default.ensures.messages c.requires.busy
          (arrivals_looked_up cmp g.met.P.Ord.total old.pairs.entries) old.indexed);
    }
