use Rattle.std.proofs.Common.{◌∙◌}
use Rattle.peer_numbers.proofs.OrderedPairs.{number_by_ends}
use Rattle.peer_numbers.proofs.pairs.PairNumbers.guessed.Goals as goal

pub returns-then-has_number-2 : goal.returns-then-has_number-2
returns-then-has_number-2 g c =
    rw (← c.self.view_is)
    (number_by_ends g.P.Ord.cmp g.met.P.Ord.total c.self.inside.peers c.self.inside.ends c.self.invariant
    c.args.origin.now c.args.recipient.now c.in_ok-ends.ends (c.has_number.ensures c.if-has_number.true)
    (c.has_number-then-has_number.ensures c.if-has_number-2.true)
    ∙ c.in_ok-ends.ensures)
