use Rattle.std.proofs.Common.{refl, ap, ◌∙◌}
use Rattle.link_simulation.specs.Simulation.Messages.{with_link}
use Rattle.link_pairs.specs.Pairs.Entries.{link_of, arrival_of, known_by_pair}
use Rattle.link_pairs.proofs.Pairs.KnownPairs.{part_set, part_again}
use Rattle.link_pairs.proofs.known_pairs.Pairs.set_cap.Goals as goal

pub returns-clause-link : goal.returns-clause-link
returns-clause-link g c =
    ap (λ known. link_of g.P.Ord.cmp (known_by_pair c.place_of.new.numbers known)) c.in_ok-set.ensures.items
    ∙ part_set g.P.Ord.cmp g.met.P.Ord.total (λ pair. pair.cap) (λ known. known.cap) (λ pair known. refl)
    c.place_of.new.numbers c.place_of.new.known.items c.args.origin.now c.args.recipient.now c.in_ok-number.number
    _ c.in_ok-number.ensures.number
    c.in_ok-number.ensures.room
    ∙ ap (λ links. with_link g.P.Ord.cmp links c.args.origin.now c.args.recipient.now c.args.cap)
    (c.place_of.ensures.same.link ∙ ap (λ pairs. link_of g.P.Ord.cmp pairs.entries) c.self.view_is)

pub returns-clause-arrival : goal.returns-clause-arrival
returns-clause-arrival g c =
    ap (λ known. arrival_of g.P.Ord.cmp (known_by_pair c.place_of.new.numbers known)) c.in_ok-set.ensures.items
    ∙ part_again g.P.Ord.cmp g.met.P.Ord.total (λ pair. pair.last_arrival) (λ known. known.last_arrival) (λ pair known. refl)
    c.place_of.new.numbers c.place_of.new.known.items c.args.origin.now c.args.recipient.now c.in_ok-number.number
    c.at.result.now _
    c.in_ok-number.ensures.number c.at.ensures refl
    ∙ c.place_of.ensures.same.arrival
    ∙ ap (λ pairs. arrival_of g.P.Ord.cmp pairs.entries) c.self.view_is
