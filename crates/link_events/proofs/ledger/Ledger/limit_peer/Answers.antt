use Rattle.link_events.proofs.Common.{true, refl, sym, ◌∙◌, inl, inr, ∥∥₁_map, false≢true, same_peer, arrival_of}
use Rattle.link_events.proofs.Common.{caps_of, rated_under_new}
use Rattle.std.proofs.lemmas.Bool.{or_cases}
use Rattle.link_pairs.specs.Pairs.Entries.{link_of}
use Rattle.link_events.proofs.Steps.Marks.{in_flight_still}
use Rattle.link_events.proofs.Steps.NewCaps.{of_peer, about_peer, leaves_alone, not_off}
use Rattle.link_events.proofs.ledger.Ledger.limit_peer.Goals.{then-stale, else-stale}
use Rattle.link_events.proofs.ledger.Ledger.limit_peer.Goals as goal

pub invariant_of-self-2 : goal.invariant_of-self-2
invariant_of-self-2 g c =
    let cmp = g.P.Ord.cmp in
    let old = c.args.self.now in
    let flights = c.loosen_peer.new.self in
    let known = c.set.new.self.entries in
    let at = c.loosen_peer.ensures in
    let same = in_flight_still old.flights flights at.list at.scale at.at in
    let caps = caps_of cmp old.peers.entries old.pairs.entries in
    let now = caps_of cmp known old.pairs.entries in
    record {
      indexed = rw same old.indexed;
      one_each = rw same old.one_each;
      rated = λ e. elim c.if-stale.branch [
        | then-stale w ↦ absurd (false≢true (sym e ∙ w.self-is ∙ w.if-stale.true))
        | else-stale w ↦ ∥∥₁_map (old.rated w.if-stale.false)
            (rated_under_new cmp (of_peer cmp g.met.P.Ord.total caps now c.args.peer.now c.args.egress c.args.ingress
            c.in_ok-set.ensures.egress c.in_ok-set.ensures.ingress refl) old.flights flights
            c.in_ok-loosen_peer.ensures.sent.loose
            (λ u listed rated passes. elim (or_cases (same_peer cmp c.args.peer.now u.message.origin) _ passes) [
              | inl sent ↦ c.in_ok-loosen_peer.ensures.sent.all u listed rated sent
              | inr received ↦ c.in_ok-loosen_peer.ensures.received.all u listed rated received
            ]) caps now
            (about_peer cmp g.met.P.Ord.total caps now c.args.peer.now c.args.egress c.args.ingress
            c.in_ok-set.ensures.egress c.in_ok-set.ensures.ingress refl)
            (leaves_alone cmp g.met.P.Ord.total caps now c.args.peer.now c.args.egress c.args.ingress
            c.in_ok-set.ensures.egress c.in_ok-set.ensures.ingress refl)
            (sym w.loose_is_limited.ensures ∙ not_off w.loose_is_limited.result (sym w.self-is ∙ e)))
      ];
    }

pub returns-clause-limited : goal.returns-clause-limited
returns-clause-limited g c =
    let old = c.args.self.now in
    let at = c.loosen_peer.ensures in
    let same = in_flight_still old.flights c.loosen_peer.new.self at.list at.scale at.at in
    λ i. record {
      caps = record {
        egress = c.in_ok-set.ensures.egress i;
        ingress = c.in_ok-set.ensures.ingress i;
        link = link_of g.P.Ord.cmp old.pairs.entries;
      };
      limited = true;
      sending = same i;
      waiting = old.waiting.messages;
      last_arrival = arrival_of g.P.Ord.cmp old.pairs.entries;
      next_id = old.next_id;
      accounted = at.at i;
      finish = old.finish;
      start = old.start;
    }
