use Rattle.std.proofs.Common.{◌≡◌, Some, refl, ap, ◌∙◌}
use Rattle.link_simulation.specs.Simulation.Messages.{with_link}
use Rattle.link_simulation.specs.Simulation.World.{later_of}
use Rattle.link_pairs.specs.Pairs.Entries.{link_of, arrival_of, raised_at, known_by_pair}
use Rattle.link_pairs.proofs.Pairs.Entries.{link_raised, arrivals_alike}
use Rattle.link_pairs.proofs.Pairs.KnownPairs.{part_read, part_set, part_again}
use Rattle.link_pairs.proofs.known_pairs.Pairs.raise.Given.{Over}
use Rattle.link_pairs.proofs.known_pairs.Pairs.raise.Goals as goal

-- what is read of the pair is what is known of it, with its number
read_last : (g : Over) (c : goal.In_ok-set g) → c.at.result.now.last_arrival
    ≡ arrival_of g.P.Ord.cmp (known_by_pair c.place_of.new.numbers c.place_of.new.known.items) c.args.origin.now
    c.args.recipient.now
read_last g c =
    part_read g.P.Ord.cmp g.met.P.Ord.total (λ pair. pair.last_arrival) (λ known. known.last_arrival) (λ pair known. refl)
    c.place_of.new.numbers c.place_of.new.known.items c.args.origin.now c.args.recipient.now c.in_ok-number.number
    c.at.result.now c.in_ok-number.ensures.number c.at.ensures

pub returns-clause-last : goal.returns-clause-last
returns-clause-last g c =
    read_last g c
    ∙ ap (λ arrivals. arrivals c.args.origin.now c.args.recipient.now) c.place_of.ensures.same.arrival
    ∙ ap (λ pairs. arrival_of g.P.Ord.cmp pairs.entries c.args.origin.now c.args.recipient.now) c.self.view_is

pub returns-clause-arrival : goal.returns-clause-arrival
returns-clause-arrival g c =
    let entries = known_by_pair c.place_of.new.numbers c.place_of.new.known.items in
    ap (λ known. arrival_of g.P.Ord.cmp (known_by_pair c.place_of.new.numbers known)) c.in_ok-set.ensures.items
    ∙ part_set g.P.Ord.cmp g.met.P.Ord.total (λ pair. pair.last_arrival) (λ known. known.last_arrival) (λ pair known. refl)
    c.place_of.new.numbers c.place_of.new.known.items c.args.origin.now c.args.recipient.now c.in_ok-number.number
    _ c.in_ok-number.ensures.number
    c.in_ok-number.ensures.room
    ∙ ap (λ last. with_link g.P.Ord.cmp (arrival_of g.P.Ord.cmp entries) c.args.origin.now c.args.recipient.now (Some last))
    (c.later_of-arrival.ensures ∙ ap (λ last. later_of last c.args.moment) (read_last g c))
    ∙ link_raised g.P.Ord.cmp g.met.P.Ord.total (arrival_of g.P.Ord.cmp entries)
    (arrivals_alike g.P.Ord.cmp g.met.P.Ord.total entries) c.args.origin.now c.args.recipient.now c.args.moment
    ∙ ap (λ arrivals. raised_at g.P.Ord.cmp arrivals c.args.origin.now c.args.recipient.now c.args.moment)
    (c.place_of.ensures.same.arrival ∙ ap (λ pairs. arrival_of g.P.Ord.cmp pairs.entries) c.self.view_is)

pub returns-clause-link : goal.returns-clause-link
returns-clause-link g c =
    ap (λ known. link_of g.P.Ord.cmp (known_by_pair c.place_of.new.numbers known)) c.in_ok-set.ensures.items
    ∙ part_again g.P.Ord.cmp g.met.P.Ord.total (λ pair. pair.cap) (λ known. known.cap) (λ pair known. refl)
    c.place_of.new.numbers c.place_of.new.known.items c.args.origin.now c.args.recipient.now c.in_ok-number.number
    c.at.result.now _
    c.in_ok-number.ensures.number c.at.ensures refl
    ∙ c.place_of.ensures.same.link
    ∙ ap (λ pairs. link_of g.P.Ord.cmp pairs.entries) c.self.view_is
