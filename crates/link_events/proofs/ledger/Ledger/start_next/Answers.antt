use Rattle.link_events.proofs.Common.{sym, ap, ◌∙◌, option_map, message_of}
use Rattle.link_events.proofs.Steps.Starting.{starts_next}
use Rattle.link_events.proofs.ledger.Ledger.start_next.Goals as goal

pub returns-clause-starts : goal.returns-clause-starts
returns-clause-starts g c = λ starts.
    let joins = c.in_ok-depart.ensures.joins in
    starts_next g.P.Ord.cmp g.met.P.Ord.total c.args.now c.args.origin.now c.args.recipient.now c.args.self.now
    c.depart.new.self (message_of c.in-Some.next.now) joins.0
    (sym c.first.ensures ∙ ap (option_map (λ m. message_of m.now)) c.in-Some.is)
    (c.would_stay.ensures c.if-would_stay.true) (sym c.may_launch.ensures ∙ c.if-not-may_launch.false)
    c.in_ok-depart.ensures.departed joins.1 joins.2
