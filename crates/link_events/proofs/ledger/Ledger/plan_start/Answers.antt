use Rattle.link_events.proofs.Common.{◌≡◌, ◌≤◌, rules, option_map, last_moment, planned, arrivals_looked_up, since_of}
use Rattle.std.specs.Prelude.{max, IfSome}
use Rattle.link_waiting.proofs.Idle.FirstStart.{looks_so}
use Rattle.link_events.proofs.ledger.Ledger.plan_start.Goals as goal

pub returns-clause-plans : goal.returns-clause-plans
returns-clause-plans g c =
    let old = c.args.self.now in
    let start : c.map-self.result ≡ option_map (λ t. max c.args.now t) c.first_since.result = search rules in
    let fits : IfSome c.map-self.result (λ t. t ≤ last_moment) = search rules in
    looks_so g.P.Ord.cmp g.met.P.Ord.total (planned g.P.Ord.cmp old)
    (arrivals_looked_up g.P.Ord.cmp g.met.P.Ord.total old.pairs.entries) (since_of g.P.Ord.cmp old.waiting.told)
    old.indexed c.first_since.result c.first_since.ensures c.args.now c.map-self.result start fits
