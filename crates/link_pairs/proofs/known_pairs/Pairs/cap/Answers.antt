use Rattle.std.proofs.Common.{◌≡◌, false, ap, ◌∙◌, rules}
use Rattle.link_pairs.specs.Pairs.Entries.{link_of}
use Rattle.link_pairs.proofs.Pairs.KnownPairs.{no_link}
use Rattle.link_pairs.proofs.known_pairs.Pairs.cap.Goals as goal

pub returns-then-not-self-clause-cap : goal.returns-then-not-self-clause-cap
returns-then-not-self-clause-cap g c =
    let unlinked : c.self.inside.linked ≡ false = search rules in
    no_link g.P.Ord.cmp c.self.inside.numbers c.self.inside.known.items c.args.origin.now c.args.recipient.now
    (c.self.invariant.1 unlinked).0
    ∙ ap (λ pairs. link_of g.P.Ord.cmp pairs.entries c.args.origin.now c.args.recipient.now) c.self.view_is
