use Rattle.std.proofs.Common.{refl, ap, ◌∙◌}
use Rattle.std.specs.Option.{option_and_then}
use Rattle.link_pairs.specs.Pairs.Entries.{link_of, arrival_of}
use Rattle.link_pairs.proofs.Pairs.ByNumber.{said, read}
use Rattle.link_pairs.proofs.Pairs.KnownPairs.{part_by_number}
use Rattle.link_pairs.proofs.known_pairs.Pairs.find.Goals as goal

pub returns-in_err-number-clause-cap : goal.returns-in_err-number-clause-cap
returns-in_err-number-clause-cap g c =
    ap (option_and_then (λ known. known.now.cap)) c.from_residual.ensures
    ∙ ap (said (λ known. known.cap) c.self.inside.known.items) c.in_err-number.ensures
    ∙ part_by_number g.P.Ord.cmp g.met.P.Ord.total (λ pair. pair.cap) (λ known. known.cap) (λ pair known. refl)
    c.self.inside.numbers c.self.inside.known.items c.args.origin.now c.args.recipient.now
    ∙ ap (λ pairs. link_of g.P.Ord.cmp pairs.entries c.args.origin.now c.args.recipient.now) c.self.view_is

pub returns-clause-cap : goal.returns-clause-cap
returns-clause-cap g c =
    read (λ known. known.now) (λ known. known.cap) c.get.result
    ∙ ap (option_and_then (λ known. known.cap)) c.get.ensures
    ∙ ap (said (λ known. known.cap) c.self.inside.known.items) c.in_ok-number.ensures
    ∙ part_by_number g.P.Ord.cmp g.met.P.Ord.total (λ pair. pair.cap) (λ known. known.cap) (λ pair known. refl)
    c.self.inside.numbers c.self.inside.known.items c.args.origin.now c.args.recipient.now
    ∙ ap (λ pairs. link_of g.P.Ord.cmp pairs.entries c.args.origin.now c.args.recipient.now) c.self.view_is

pub returns-in_err-number-clause-last_arrival : goal.returns-in_err-number-clause-last_arrival
returns-in_err-number-clause-last_arrival g c =
    ap (option_and_then (λ known. known.now.last_arrival)) c.from_residual.ensures
    ∙ ap (said (λ known. known.last_arrival) c.self.inside.known.items) c.in_err-number.ensures
    ∙ part_by_number g.P.Ord.cmp g.met.P.Ord.total (λ pair. pair.last_arrival) (λ known. known.last_arrival) (λ pair known. refl)
    c.self.inside.numbers c.self.inside.known.items c.args.origin.now c.args.recipient.now
    ∙ ap (λ pairs. arrival_of g.P.Ord.cmp pairs.entries c.args.origin.now c.args.recipient.now) c.self.view_is

pub returns-clause-last_arrival : goal.returns-clause-last_arrival
returns-clause-last_arrival g c =
    read (λ known. known.now) (λ known. known.last_arrival) c.get.result
    ∙ ap (option_and_then (λ known. known.last_arrival)) c.get.ensures
    ∙ ap (said (λ known. known.last_arrival) c.self.inside.known.items) c.in_ok-number.ensures
    ∙ part_by_number g.P.Ord.cmp g.met.P.Ord.total (λ pair. pair.last_arrival) (λ known. known.last_arrival) (λ pair known. refl)
    c.self.inside.numbers c.self.inside.known.items c.args.origin.now c.args.recipient.now
    ∙ ap (λ pairs. arrival_of g.P.Ord.cmp pairs.entries c.args.origin.now c.args.recipient.now) c.self.view_is
