use Rattle.link_events.proofs.Common.{ap, sym, ◌∙◌, planned, arrivals_looked_up, since_of, has_come}
use Rattle.link_waiting.proofs.Idle.FirstStart.{ready_from}
use Rattle.link_events.proofs.ledger.Ledger.is_ready.Goals as goal

pub returns-in-Some : goal.returns-in-Some
returns-in-Some g c =
    let old = c.args.self.now in
    let from = ready_from g.P.Ord.cmp g.met.P.Ord.total (planned g.P.Ord.cmp old)
    (arrivals_looked_up g.P.Ord.cmp g.met.P.Ord.total old.pairs.entries) (since_of g.P.Ord.cmp old.waiting.told)
    old.indexed c.first_since.result c.first_since.ensures c.args.now in
    record { ready = (λ may. from.0 (ap (has_come c.args.now) c.in-Some.is ∙ may), λ ready. sym (ap (has_come c.args.now) c.in-Some.is) ∙ from.1 ready) }

pub returns-in-None : goal.returns-in-None
returns-in-None g c =
    let old = c.args.self.now in
    let from = ready_from g.P.Ord.cmp g.met.P.Ord.total (planned g.P.Ord.cmp old)
    (arrivals_looked_up g.P.Ord.cmp g.met.P.Ord.total old.pairs.entries) (since_of g.P.Ord.cmp old.waiting.told)
    old.indexed c.first_since.result c.first_since.ensures c.args.now in
    record { ready = (λ no. cc, λ ready. sym (ap (has_come c.args.now) c.in-None.is) ∙ from.1 ready) }
