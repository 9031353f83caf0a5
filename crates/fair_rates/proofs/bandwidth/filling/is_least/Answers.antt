use Rattle.fair_rates.proofs.Common.{◌*◌, heap_items, ◌∙◌, sym, ap, length}
use Rattle.std.specs.Ordering.{is_le}
use Rattle.std.proofs.lemmas.Map.Keys.{le_from_is_le}
use Rattle.fair_rates.proofs.Filling.Queue.{least_first, least_before}
use Rattle.fair_rates.proofs.bandwidth.filling.is_least.Goals as goal

pub returns-in-Some-clause-least : goal.returns-in-Some-clause-least
returns-in-Some-clause-least c least =
    let side = c.args.side.now in
    let next = c.in-Some.next.now in
    least_before side next.0 (heap_items c.args.queue.now)
    (le_from_is_le (side.slack * length next.0.rising.items) (next.0.slack * length side.rising.items)
    (sym (c.is_le.ensures ∙ ap is_le c.cmp.ensures) ∙ least))
    (least_first next (heap_items c.args.queue.now) (c.in-Some.ensures.greatest c.requires.order))
