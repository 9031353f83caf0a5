use Rattle.fair_rates.proofs.Sides.Registry.{no_link}
use Rattle.fair_rates.proofs.bandwidth.sides.register_link.Goals as goal

pub returns-then-is_none-clause-registers : goal.returns-then-is_none-clause-registers
returns-then-is_none-clause-registers g c =
    no_link g.P.Ord.cmp g.met.P.Ord.total c.args.registry.now c.args.place c.args.flow.now.origin
    c.args.flow.now.recipient c.args.cap c.if-is_none.ensures (c.is_empty.ensures c.if-is_empty.true) c.requires
