use Rattle.link_events.proofs.Common.{sym, ap, ◌∙◌}
use Rattle.link_events.specs.Steps.Marks.{Before}
use Rattle.link_events.proofs.Steps.Marks.{same_ledger}
use Rattle.link_events.proofs.ledger.Ledger.put_back.Goals as goal

pub take_back-requires : goal.take_back-requires
take_back-requires g c =
    let k = c.requires.1 in
    (c.requires.0.flights, k.flights, ap (λ (b : Before g.row.P.Denot). b.flights) (k.last ∙ sym k.marked))

pub invariant_of-self : goal.invariant_of-self
invariant_of-self g c =
    let was = c.requires.0 in
    let k = c.requires.1 in
    let there = k.last ∙ sym k.marked in
    let same = c.take_back.ensures.back was.flights k.flights
    (ap (λ (b : Before g.row.P.Denot). b.flights) k.marked) (ap (λ (b : Before g.row.P.Denot). b.flights) k.last) in
    record {
      indexed = rw (
        c.undo-2.ensures.entries,
        c.undo-3.ensures.messages,
        c.undo-3.ensures.told,
        ap (λ (b : Before g.row.P.Denot). b.pairs) there,
        ap (λ (b : Before g.row.P.Denot). b.waiting.messages) there,
        ap (λ (b : Before g.row.P.Denot). b.waiting.told) there,
        same,
      ) was.indexed;
      one_each = rw same was.one_each;
      rated = rw (
        k.stale,
        c.undo.ensures.entries,
        c.undo-2.ensures.entries,
        ap (λ (b : Before g.row.P.Denot). b.peers) there,
        ap (λ (b : Before g.row.P.Denot). b.pairs) there,
        same,
      ) was.rated;
    }

pub returns : goal.returns
returns g c was k =
    let there = k.last ∙ sym k.marked in
    same_ledger was _
    (λ i. record {
      entries = (c.undo.ensures.entries ∙ ap (λ (b : Before g.row.P.Denot). b.peers) there) i;
      before = (c.undo.ensures.before ∙ ap (λ (b : Before g.row.P.Denot). b.peers) k.last) i;
    })
    (λ i. record {
      entries = (c.undo-2.ensures.entries ∙ ap (λ (b : Before g.row.P.Denot). b.pairs) there) i;
      before = (c.undo-2.ensures.before ∙ ap (λ (b : Before g.row.P.Denot). b.pairs) k.last) i;
    })
    (λ i. record {
      messages = (c.undo-3.ensures.messages ∙ ap (λ (b : Before g.row.P.Denot). b.waiting.messages) there) i;
      told = (c.undo-3.ensures.told ∙ ap (λ (b : Before g.row.P.Denot). b.waiting.told) there) i;
      before = (c.undo-3.ensures.before ∙ ap (λ (b : Before g.row.P.Denot). b.waiting) k.last) i;
    })
    (c.take_back.ensures.back was.flights k.flights (ap (λ (b : Before g.row.P.Denot). b.flights) k.marked)
    (ap (λ (b : Before g.row.P.Denot). b.flights) k.last)) k.limited k.next_id k.finish k.start k.stale
