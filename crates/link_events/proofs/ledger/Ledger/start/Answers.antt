use Rattle.link_events.proofs.Common.{◌≡◌, ◌+◌, [], ◌∷◌, ◌++◌, length, Some, sym, ap, ◌∙◌, rules, ∥∥₁_map, whole}
use Rattle.link_events.proofs.Common.{Message, RatedFlight, rated_messages, in_flight, message_of, arrival_of, caps_of}
use Rattle.link_events.proofs.Common.{arrivals_looked_up, since_of, still_rated}
use Rattle.link_pairs.specs.declared.message.Message as code
use Rattle.link_waiting.proofs.Idle.IndexChanges.{started_index}
use Rattle.link_waiting.proofs.Idle.Starting.{without_joined}
use Rattle.link_events.proofs.Steps.OneEach.{one_if_so, one_joins}
use Rattle.link_events.proofs.ledger.Ledger.start.Goals as goal

pub invariant_of-self-2 : goal.invariant_of-self-2
invariant_of-self-2 g c =
    let cmp = g.P.Ord.cmp in
    let old = c.args.self.now in
    let m : Message g.row.P.Denot = message_of c.in_ok-message.message.value in
    let f : RatedFlight g.row.P.Denot =
    record {
      id = old.next_id;
      message = m;
      left = whole (length m.bytes);
      rate = Some (whole 0);
      updated = c.args.now;
    } in
    let same : c.in_ok-message.message.value ≡ c.args.message = search rules in
    record {
      one_each =
          ∣ one_joins cmp g.met.P.Ord.total (in_flight old.flights) (in_flight c.push.new.self) f
          (one_if_so cmp (rated_messages (in_flight old.flights)) old.one_each) (rw same c.requires.idle)
          c.in_default.ensures.sending ∣₁;
      rated = λ e.
          ∥∥₁_map (old.rated e)
          (still_rated cmp (caps_of cmp old.peers.entries old.pairs.entries) old.flights c.push.new.self
          c.push.ensures.scale c.in_default.ensures.rated c.push.ensures.timed c.push.ensures.floor
          c.push.ensures.loose);
      indexed =
          started_index cmp g.met.P.Ord.total old.pairs.entries old.waiting.messages (in_flight old.flights)
          (in_flight c.push.new.self) f (since_of cmp old.waiting.told) (arrivals_looked_up cmp g.met.P.Ord.total old.pairs.entries)
          (rw same c.requires.alone) c.in_default.ensures.sending old.indexed;
    }

pub returns-clause-started : goal.returns-clause-started
returns-clause-started g c =
    let cmp = g.P.Ord.cmp in
    let old = c.args.self.now in
    let m : Message g.row.P.Denot = message_of c.args.message in
    let same : c.in_ok-message.message.value ≡ c.args.message = search rules in
    let sending : in_flight c.push.new.self
    ≡ in_flight old.flights
    ++ record {
      id = old.next_id;
      message = m;
      left = whole (length m.bytes);
      rate = Some (whole 0);
      updated = c.args.now;
    } ∷ [] =
    c.in_default.ensures.sending
    ∙ ap
    (λ (v : code.Message g.row.P.Denot). in_flight old.flights
    ++ record {
      id = old.next_id;
      message = message_of v;
      left = whole (length v.bytes);
      rate = Some (whole 0);
      updated = c.args.now;
    }
    ∷ [])
    same in
    λ i. record {
      caps = caps_of cmp old.peers.entries old.pairs.entries;
      limited = old.limited;
      sending = sending i;
      waiting = sym (without_joined cmp g.met.P.Ord.total m old.waiting.messages c.requires.alone) i;
      last_arrival = arrival_of cmp old.pairs.entries;
      next_id = old.next_id + 1;
      accounted = c.in_default.ensures.joined.at i;
      finish = old.finish;
      start = old.start;
    }
