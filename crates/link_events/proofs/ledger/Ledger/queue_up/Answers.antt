use Rattle.link_events.proofs.Common.{sym, ap, ◌∙◌, and_from, with_link, in_flight, message_of, arrivals_looked_up}
use Rattle.link_events.proofs.Common.{of_pairs, since_of, rested_is, busy_none}
use Rattle.link_simulation.proofs.Rule.SamePlanned.{peer_turned}
use Rattle.link_waiting.proofs.Idle.IndexChanges.{queued_index, link_none}
use Rattle.link_events.proofs.ledger.Ledger.queue_up.Goals as goal

pub invariant_of-self-then-is_busy : goal.invariant_of-self-then-is_busy
invariant_of-self-then-is_busy g c =
    let cmp = g.P.Ord.cmp in
    let old = c.args.self.now in
    let o = c.args.pair.now.origin in
    let r = c.args.pair.now.recipient in
    let own =
    and_from _ _ (peer_turned cmp g.met.P.Ord.total _ _ c.requires.named.origin)
    (peer_turned cmp g.met.P.Ord.total _ _ c.requires.named.recipient) in
    let alike = arrivals_looked_up cmp g.met.P.Ord.total old.pairs.entries in
    let busy = c.requires.busy ∙ c.if-is_busy.true in
    record {
      one_each = old.one_each;
      rated = old.rated;
      indexed =
          queued_index cmp g.met.P.Ord.total old.pairs.entries old.waiting.messages c.push.new.self.messages
          (in_flight old.flights) o r (message_of c.args.message) (since_of cmp old.waiting.told)
          (since_of cmp c.push.new.self.told) alike c.in_default.ensures.messages own old.indexed
          (c.in_default.ensures.since
          ∙ link_none cmp g.met.P.Ord.total
          (of_pairs cmp old.pairs.entries old.waiting.messages (in_flight old.flights)) o r
          (since_of cmp old.waiting.told) alike old.indexed
          (busy_none cmp (of_pairs cmp old.pairs.entries old.waiting.messages (in_flight old.flights)) o r busy)
          ∙ ap (with_link cmp (since_of cmp old.waiting.told) o r)
          (sym (busy_none cmp (of_pairs cmp old.pairs.entries c.push.new.self.messages (in_flight old.flights)) o r busy)));
    }

pub returns-then-is_busy-clause-idle : goal.returns-then-is_busy-clause-idle
returns-then-is_busy-clause-idle g c =
    let cmp = g.P.Ord.cmp in
    let old = c.args.self.now in
    sym
    (busy_none cmp (of_pairs cmp old.pairs.entries c.push.new.self.messages (in_flight old.flights)) c.args.pair.now.origin
    c.args.pair.now.recipient (c.requires.busy ∙ c.if-is_busy.true))

pub invariant_of-self-in-Ok-tell_since : goal.invariant_of-self-in-Ok-tell_since
invariant_of-self-in-Ok-tell_since g c =
    let cmp = g.P.Ord.cmp in
    let old = c.args.self.now in
    let o = c.args.pair.now.origin in
    let r = c.args.pair.now.recipient in
    let own =
    and_from _ _ (peer_turned cmp g.met.P.Ord.total _ _ c.requires.named.origin)
    (peer_turned cmp g.met.P.Ord.total _ _ c.requires.named.recipient) in
    record {
      one_each = old.one_each;
      rated = old.rated;
      indexed = rw c.in-Ok.ensures.messages
          (queued_index cmp g.met.P.Ord.total old.pairs.entries old.waiting.messages c.push.new.self.messages
          (in_flight old.flights) o r (message_of c.args.message) (since_of cmp old.waiting.told)
          (since_of cmp c.tell_since.new.self.told)
          (arrivals_looked_up cmp g.met.P.Ord.total old.pairs.entries) c.in_default.ensures.messages own old.indexed
          (c.in-Ok.ensures.since
          ∙ ap (λ f. with_link cmp f o r c.in-Ok.since) c.in_default.ensures.since
          ∙ ap (with_link cmp (since_of cmp old.waiting.told) o r)
          (rested_is cmp old.pairs.entries c.push.new.self.messages (in_flight old.flights) o r c.last_arrival-last.result
          c.in-Ok.since (c.requires.busy ∙ c.if-is_busy.false) c.last_arrival-last.ensures c.in-Ok.ensures.answer)));
    }

pub returns-in-Ok-clause-idle : goal.returns-in-Ok-clause-idle
returns-in-Ok-clause-idle g c =
    let cmp = g.P.Ord.cmp in
    let old = c.args.self.now in
    rw c.in-Ok.ensures.messages
    (rested_is cmp old.pairs.entries c.push.new.self.messages (in_flight old.flights) c.args.pair.now.origin
    c.args.pair.now.recipient c.last_arrival-last.result c.in-Ok.since (c.requires.busy ∙ c.if-is_busy.false)
    c.last_arrival-last.ensures c.in-Ok.ensures.answer)
