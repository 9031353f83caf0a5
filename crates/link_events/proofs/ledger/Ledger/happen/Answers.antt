use Rattle.link_events.proofs.Common.{◌≡◌, ◌++◌, List, map, IfOk, IfErr, sym, subst, Event, Completed, goes, meets}
use Rattle.link_events.proofs.Common.{Happens, IsRefusedFor, planned, ended_of}
use Rattle.link_events.proofs.ledger.Ledger.happen.Goals as goal

pub returns-in-Finish-clause-happens : goal.returns-in-Finish-clause-happens
returns-in-Finish-clause-happens g c =
    subst
    (λ (event : Event). IfOk c.settle.result
    (λ done. (cs : List (Completed g.row.P.Denot))
    × (map ended_of c.settle.new.ended.items ≡ map ended_of c.args.ended.now.items ++ cs)
    × Happens g.P.Ord.cmp event (planned g.P.Ord.cmp c.args.self.now)
    (goes cs (planned g.P.Ord.cmp c.settle.new.self))))
    (sym c.in-Finish.is) c.settle.ensures.settles

pub returns-in-Finish-clause-refused : goal.returns-in-Finish-clause-refused
returns-in-Finish-clause-refused g c =
    subst (λ (event : Event). IfErr c.settle.result
    (IsRefusedFor (λ fault. Happens g.P.Ord.cmp event (planned g.P.Ord.cmp c.args.self.now) (meets fault))))
    (sym c.in-Finish.is) c.settle.ensures.refused

pub returns-in-Start-clause-refused : goal.returns-in-Start-clause-refused
returns-in-Start-clause-refused g c =
    subst (λ (event : Event). IfErr c.wake.result (IsRefusedFor (λ fault. Happens g.P.Ord.cmp event
    (planned g.P.Ord.cmp c.args.self.now) (meets fault))))
    (sym c.in-Start.is) c.wake.ensures.refused
