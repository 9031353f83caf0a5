use Rattle.link_events.proofs.Common.{planned, arrivals_looked_up, since_of}
use Rattle.link_waiting.proofs.Idle.DueMessages.{ready_so}
use Rattle.link_events.proofs.Steps.Settling.{if_ok_both}
use Rattle.link_events.proofs.ledger.Ledger.ready.Goals as goal

pub returns-clause-ready : goal.returns-clause-ready
returns-clause-ready g c =
    let old = c.args.self.now in
    if_ok_both c.ready.result
    (λ keys ascending ready. ready_so g.P.Ord.cmp g.met.P.Ord.total (planned g.P.Ord.cmp old)
    (arrivals_looked_up g.P.Ord.cmp g.met.P.Ord.total old.pairs.entries)
    c.args.now (since_of g.P.Ord.cmp old.waiting.told) keys.items c.ready.ensures.ordered
    old.indexed ascending ready)
    c.ready.ensures.ascending c.ready.ensures.ready
