use Rattle.std.proofs.Common.{sym, ◌∙◌, rules}
use Rattle.peer_numbers.proofs.OrderedPairs.{number_by_ends, no_origin, no_recipient}
use Rattle.peer_numbers.proofs.pairs.PairNumbers.searched.Goals as goal

pub returns-in_err-origin : goal.returns-in_err-origin
returns-in_err-origin g c =
    rw (← c.self.view_is)
    (c.from_residual.ensures
    ∙ no_origin g.P.Ord.cmp g.met.P.Ord.total c.self.inside.peers c.self.inside.ends c.self.invariant c.args.origin.now
    c.args.recipient.now (search rules))

pub returns-in_err-recipient : goal.returns-in_err-recipient
returns-in_err-recipient g c =
    rw (← c.self.view_is)
    (c.from_residual-in_err-recipient.ensures
    ∙ no_recipient g.P.Ord.cmp g.met.P.Ord.total c.self.inside.peers c.self.inside.ends c.self.invariant
    c.args.origin.now c.args.recipient.now (search rules))

pub returns : goal.returns
returns g c =
    rw (← c.self.view_is)
    (c.number-3.ensures
    ∙ sym
    (number_by_ends g.P.Ord.cmp g.met.P.Ord.total c.self.inside.peers c.self.inside.ends c.self.invariant
    c.args.origin.now c.args.recipient.now
    (record { origin = c.in_ok-origin.origin; recipient = c.in_ok-recipient.recipient })
    (search rules) (search rules)))
