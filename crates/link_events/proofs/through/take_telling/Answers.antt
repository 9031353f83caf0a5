use Rattle.link_events.proofs.Common.{List, sym, ap, ◌∙◌, option_map, Message, with_link, first_of, first_moment}
use Rattle.link_events.proofs.Common.{since_of}
use Rattle.std.specs.Prelude.{None}
use Rattle.link_events.proofs.Steps.Through.{told_twice}
use Rattle.link_events.proofs.through.take_telling.Goals as goal

pub returns-clause-since : goal.returns-clause-since
returns-clause-since g c =
    let cmp = g.P.Ord.cmp in
    let o = c.args.origin.now in
    let r = c.args.recipient.now in
    let old = since_of cmp c.args.waiting.now.told in
    c.in_ok-_since.ensures.since
    ∙ ap (λ told. with_link cmp told o r c.in_ok-_since._since) c.in_ok-taken.ensures.since
    ∙ told_twice cmp old o r None c.in_ok-_since._since
    ∙ ap (with_link cmp old o r)
    (c.in_ok-_since.ensures.answer
    ∙ ap
    (λ (ms : List (Message g.row.P.Denot)). option_map (λ (m : Message g.row.P.Denot). first_moment c.args.last_arrival
    m.latency) (first_of cmp ms o r))
    (sym c.in_ok-_since.ensures.messages))
