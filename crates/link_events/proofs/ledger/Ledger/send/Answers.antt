use Rattle.link_events.proofs.Common.{map, subst, ◌++◌, sym, ap, ◌∙◌, IfErr, Message, message_of, goes, Enqueues, ended_of, planned}
use Rattle.link_simulation.specs.Simulation.Calls.{call_enqueue}
use Rattle.link_simulation.specs.Rule.Refusals.{MayBeRefused}
use Rattle.link_events.proofs.Steps.Settling.{if_ok}
use Rattle.link_events.proofs.ledger.Ledger.send.Goals as goal

pub returns-clause-enqueues : goal.returns-clause-enqueues
returns-clause-enqueues g c =
    let new = planned g.P.Ord.cmp c.enqueue.new.self in
    if_ok c.enqueue.result (λ done h. subst (λ (m : Message g.row.P.Denot). Enqueues g.P.Ord.cmp c.args.now m
    (planned g.P.Ord.cmp c.args.self.now) (goes (map ended_of c.enqueue.new.ended.items) new)) c.into_message.ensures
    (subst (λ out. Enqueues g.P.Ord.cmp c.args.now (message_of c.into_message.result)
    (planned g.P.Ord.cmp c.args.self.now) (goes out new))
    (sym (h.1 ∙ ap (λ l. map ended_of l ++ h.0) c.requires)) h.2)) c.enqueue.ensures.enqueues

pub returns-clause-refused : goal.returns-clause-refused
returns-clause-refused g c =
    subst
    (λ (m : Message g.row.P.Denot). IfErr c.enqueue.result (MayBeRefused g.P.Ord.cmp
    (planned g.P.Ord.cmp c.args.self.now) (call_enqueue c.args.now m)))
    c.into_message.ensures c.enqueue.ensures.refused
