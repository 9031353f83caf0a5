use Rattle.link_events.proofs.Common.{true, refl, sym, ◌∙◌, ∥∥₁_map, false≢true, since_of, arrived_index, egress_of}
use Rattle.link_events.proofs.Common.{ingress_of, caps_of, in_flight, rated_under_new}
use Rattle.link_events.proofs.Steps.Marks.{in_flight_still}
use Rattle.link_events.proofs.Steps.NewCaps.{sent_by_it, about_sender, leaves_others_alone, not_off}
use Rattle.link_events.proofs.ledger.Ledger.limit_pair.Goals.{then-stale, else-stale}
use Rattle.link_events.proofs.ledger.Ledger.limit_pair.Goals as goal

-- the last arrivals stay, and so does when each pair may start
pub invariant_of-self-2 : goal.invariant_of-self-2
invariant_of-self-2 g c =
    let cmp = g.P.Ord.cmp in
    let old = c.args.self.now in
    let flights = c.loosen_sent.new.self in
    let known = c.set_cap.new.self.entries in
    let at = c.loosen_sent.ensures in
    let same = in_flight_still old.flights flights at.list at.scale at.at in
    let caps = caps_of cmp old.peers.entries old.pairs.entries in
    let now = caps_of cmp old.peers.entries known in
    let link = c.in_ok-set_cap.ensures.link in
    record {
      indexed =
          arrived_index cmp g.met.P.Ord.total old.pairs.entries known old.waiting.messages (in_flight flights)
          (since_of cmp old.waiting.told) c.in_ok-set_cap.ensures.arrival (rw same old.indexed);
      one_each = rw same old.one_each;
      rated = λ e. elim c.if-stale.branch [
        | then-stale w ↦ absurd (false≢true (sym e ∙ w.self-is ∙ w.if-stale.true))
        | else-stale w ↦ ∥∥₁_map (old.rated w.if-stale.false)
            (rated_under_new cmp (sent_by_it cmp g.met.P.Ord.total caps now c.args.origin.now c.args.recipient.now
            c.args.cap refl refl link) old.flights flights
            c.in_ok-loosen_sent.ensures.sent.loose c.in_ok-loosen_sent.ensures.sent.all caps now
            (about_sender cmp g.met.P.Ord.total caps now c.args.origin.now c.args.recipient.now c.args.cap refl refl link)
            (leaves_others_alone cmp g.met.P.Ord.total caps now c.args.origin.now c.args.recipient.now c.args.cap refl
            refl link)
            (sym w.loose_is_limited.ensures ∙ not_off w.loose_is_limited.result (sym w.self-is ∙ e)))
      ];
    }

pub returns-clause-limited : goal.returns-clause-limited
returns-clause-limited g c =
    let cmp = g.P.Ord.cmp in
    let old = c.args.self.now in
    let at = c.loosen_sent.ensures in
    let same = in_flight_still old.flights c.loosen_sent.new.self at.list at.scale at.at in
    let link = c.in_ok-set_cap.ensures.link in
    λ i. record {
      caps = record {
        egress = egress_of cmp old.peers.entries;
        ingress = ingress_of cmp old.peers.entries;
        link = link i;
      };
      limited = true;
      sending = same i;
      waiting = old.waiting.messages;
      last_arrival = c.in_ok-set_cap.ensures.arrival i;
      next_id = old.next_id;
      accounted = at.at i;
      finish = old.finish;
      start = old.start;
    }
