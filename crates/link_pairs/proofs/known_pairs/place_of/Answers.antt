use Rattle.std.proofs.Common.{refl}
use Rattle.link_pairs.proofs.Pairs.KnownPairs.{still_known}
use Rattle.link_pairs.proofs.known_pairs.place_of.Goals as goal

pub returns-in_err-fill_up_to-clause-same : goal.returns-in_err-fill_up_to-clause-same
returns-in_err-fill_up_to-clause-same g c =
    still_known g.P.Ord.cmp g.met.P.Ord.total c.args.numbers.now c.add.new.self c.args.known.now c.fill_up_to.new.items
    c.args.origin.now c.args.recipient.now c.in_ok-number.number _
    c.requires c.in_ok-number.ensures.pairs c.in_ok-number.ensures.number c.fill_up_to.ensures.items refl refl
    c.fill_up_to.ensures.before

pub returns-clause-same : goal.returns-clause-same
returns-clause-same g c =
    still_known g.P.Ord.cmp g.met.P.Ord.total c.args.numbers.now c.add.new.self c.args.known.now c.fill_up_to.new.items
    c.args.origin.now c.args.recipient.now c.in_ok-number.number _
    c.requires c.in_ok-number.ensures.pairs c.in_ok-number.ensures.number c.fill_up_to.ensures.items refl refl
    c.fill_up_to.ensures.before
