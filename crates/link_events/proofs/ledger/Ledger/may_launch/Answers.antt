use Rattle.link_events.proofs.Common.{sym, ap, ◌∙◌, planned, arrivals_looked_up, has_come}
use Rattle.link_waiting.proofs.Idle.DueMessages.{may_first}
use Rattle.link_events.proofs.ledger.Ledger.may_launch.Goals as goal

pub returns-in-Some : goal.returns-in-Some
returns-in-Some g c =
    let old = c.args.self.now in
    ap (has_come c.args.now) (sym c.in-Some.is ∙ c.requires)
    ∙ may_first g.P.Ord.cmp g.met.P.Ord.total (planned g.P.Ord.cmp old)
    (arrivals_looked_up g.P.Ord.cmp g.met.P.Ord.total old.pairs.entries)
    c.args.now c.args.origin.now c.args.recipient.now

pub returns-in-None : goal.returns-in-None
returns-in-None g c =
    let old = c.args.self.now in
    ap (has_come c.args.now) (sym c.in-None.is ∙ c.requires)
    ∙ may_first g.P.Ord.cmp g.met.P.Ord.total (planned g.P.Ord.cmp old)
    (arrivals_looked_up g.P.Ord.cmp g.met.P.Ord.total old.pairs.entries)
    c.args.now c.args.origin.now c.args.recipient.now
