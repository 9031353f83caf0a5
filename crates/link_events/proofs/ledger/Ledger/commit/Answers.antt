use Rattle.link_events.proofs.Common.{∥∥₁_map, caps_of}
use Rattle.link_events.proofs.Steps.Marks.{in_flight_still, rated_still}
use Rattle.link_events.proofs.ledger.Ledger.commit.Goals as goal

pub invariant_of-self : goal.invariant_of-self
invariant_of-self g c =
    let old = c.args.self.now in
    let new = c.commit.new.self in
    let at = c.commit.ensures in
    let same = in_flight_still old.flights new at.list at.scale at.at in
    record {
      indexed = rw (c.commit-3.ensures.entries, c.commit-4.ensures.messages, c.commit-4.ensures.told, same) old.indexed;
      one_each = rw same old.one_each;
      rated = λ e. rw (c.commit-2.ensures.entries, c.commit-3.ensures.entries)
          (∥∥₁_map (old.rated e)
          (rated_still old.flights new at.list at.scale at.at g.P.Ord.cmp
          (caps_of g.P.Ord.cmp old.peers.entries old.pairs.entries) at.floor at.loose));
    }
