use Rattle.std.proofs.Common.{length, sym, ap, ◌∙◌}
use Rattle.peer_numbers.proofs.OrderedPairs.{length_listed}
use Rattle.peer_numbers.proofs.pairs.PairNumbers.len.Goals as goal

pub returns : goal.returns
returns g c =
    c.len.ensures
    ∙ sym (length_listed g.P.Ord.cmp c.self.inside.peers c.self.inside.ends c.self.invariant)
    ∙ ap length c.self.view_is
