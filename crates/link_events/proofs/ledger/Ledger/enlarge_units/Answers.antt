use Rattle.link_events.proofs.Common.{∥∥₁_map, caps_of}
use Rattle.link_events.proofs.ledger.Ledger.enlarge_units.Goals as goal

pub invariant_of-self-in_default : goal.invariant_of-self-in_default
invariant_of-self-in_default g c =
    let old = c.args.self.now in
    let same = c.in_default.ensures in
    record {
      indexed = rw same.sending old.indexed;
      one_each = rw same.sending old.one_each;
      rated = λ e.
          ∥∥₁_map (old.rated e) (same.rated (caps_of g.P.Ord.cmp old.peers.entries old.pairs.entries));
    }
