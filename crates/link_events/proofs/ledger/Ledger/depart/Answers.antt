use Rattle.link_events.proofs.Common.{◌≡◌, ◌+◌, length, Some, sym, ap, ◌∙◌, option_map, ∥∥₁_map, whole, same_peer}
use Rattle.link_events.proofs.Common.{Message, RatedFlight, rated_messages, find_passes, in_flight, message_of}
use Rattle.link_events.proofs.Common.{first_of, arrival_of, caps_of, arrivals_looked_up, since_of, still_rated}
use Rattle.link_events.proofs.Common.{idle_if_may, may_launch_first, planned}
use Rattle.std.specs.Prelude.{◌&&◌}
use Rattle.link_waiting.proofs.Idle.IndexChanges.{departed_index}
use Rattle.link_events.proofs.Steps.OneEach.{one_if_so, one_joins}
use Rattle.link_events.proofs.ledger.Ledger.depart.Goals as goal

pub invariant_of-self-2 : goal.invariant_of-self-2
invariant_of-self-2 g c =
    let cmp = g.P.Ord.cmp in
    let old = c.args.self.now in
    let o = c.args.origin.now in
    let r = c.args.recipient.now in
    let m : Message g.row.P.Denot = message_of c.in-Ok-Some.message.value in
    let f : RatedFlight g.row.P.Denot =
    record {
      id = old.next_id;
      message = m;
      left = whole (length m.bytes);
      rate = Some (whole 0);
      updated = c.args.now;
    } in
    let found : first_of cmp old.waiting.messages o r ≡ Some m =
    sym c.in-Ok-Some.ensures.taken ∙ ap (option_map (λ x. message_of x.value)) c.in-Ok-Some.field-0-is in
    let taken = c.in-Ok-Some.ensures.others in
    let own =
    find_passes (λ (n : Message g.row.P.Denot). same_peer cmp o n.origin && same_peer cmp r n.recipient) m
    old.waiting.messages found in
    record {
      one_each =
          ∣ one_joins cmp g.met.P.Ord.total (in_flight old.flights) (in_flight c.push.new.self) f
          (one_if_so cmp (rated_messages (in_flight old.flights)) old.one_each)
          (idle_if_may cmp g.met.P.Ord.total c.args.now (planned cmp old) m
          (ap (may_launch_first cmp c.args.now (planned cmp old)) (sym found) ∙ c.requires.ready))
          c.in_default.ensures.sending ∣₁;
      rated = λ e.
          ∥∥₁_map (old.rated e)
          (still_rated cmp (caps_of cmp old.peers.entries old.pairs.entries) old.flights c.push.new.self
          c.push.ensures.scale c.in_default.ensures.rated c.push.ensures.timed c.push.ensures.floor
          c.push.ensures.loose);
      indexed =
          departed_index cmp g.met.P.Ord.total old.pairs.entries old.waiting.messages c.take_first.new.self.messages
          (in_flight old.flights) (in_flight c.push.new.self) f o r (since_of cmp old.waiting.told)
          (since_of cmp c.take_first.new.self.told)
          (arrivals_looked_up cmp g.met.P.Ord.total old.pairs.entries) taken c.in_default.ensures.sending own
          old.indexed c.in-Ok-Some.ensures.since;
    }

pub returns-clause-departed : goal.returns-clause-departed
returns-clause-departed g c =
    let cmp = g.P.Ord.cmp in
    let old = c.args.self.now in
    let o = c.args.origin.now in
    let r = c.args.recipient.now in
    let m : Message g.row.P.Denot = message_of c.in-Ok-Some.message.value in
    let found : first_of cmp old.waiting.messages o r ≡ Some m =
    sym c.in-Ok-Some.ensures.taken ∙ ap (option_map (λ x. message_of x.value)) c.in-Ok-Some.field-0-is in
    let taken = c.in-Ok-Some.ensures.others in
    record {
      message = m;
      first = found;
      is = λ i. record {
        caps = caps_of cmp old.peers.entries old.pairs.entries;
        limited = old.limited;
        sending = c.in_default.ensures.sending i;
        waiting = taken i;
        last_arrival = arrival_of cmp old.pairs.entries;
        next_id = old.next_id + 1;
        accounted = c.in_default.ensures.joined.at i;
        finish = old.finish;
        start = old.start;
      };
    }

pub returns-clause-joins : goal.returns-clause-joins
returns-clause-joins g c = (
  c.in-Ok-Some.message.value,
  sym c.in-Ok-Some.ensures.taken ∙ ap (option_map (λ x. message_of x.value)) c.in-Ok-Some.field-0-is,
  c.in_default.ensures.joined,
)
