use Rattle.fair_rates.proofs.Common.{heap_items}
use Rattle.fair_rates.proofs.Filling.Queue.{opened_permuted}
use Rattle.fair_rates.proofs.bandwidth.filling.open_sides.Goals as goal

pub returns-clause-opened : goal.returns-clause-opened
returns-clause-opened c =
    opened_permuted c.args.sides.now.items c.in_ok-open_list.field-0.items (heap_items c.from.result) c.from.ensures.1
    c.in_ok-open_list.ensures.opened
